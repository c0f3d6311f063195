-- The batch of a recording that is removed.
use Rattle.std.proofs.Common.{◌≡◌, ◌==◌, ◌∙◌, ℕ, false, None, Some, List, [], ◌∷◌, map, refl, sym, ap, subst}
use Rattle.std.specs.List.{AllByRecursion, find}
use Rattle.keeper_store.specs.Changes.{changed}
use Rattle.keeper_store.specs.Puts.{recording_id, segments_take, without}
use Rattle.keeper_store.specs.declared.contents.Change.{Change}
use Rattle.keeper_store.specs.declared.contents.Change.TheVariants.{DropRecording, DropSegments}
use Rattle.keeper_store.specs.declared.contents.Tables.{Tables}
use Rattle.keeper_store.specs.declared.row_types.AlbumRow.{AlbumRow}
use Rattle.keeper_store.specs.declared.row_types.RecordingRow.{RecordingRow}
use Rattle.keeper_store.specs.declared.row_types.SegmentRow.{SegmentRow}
use Rattle.keeper_store.proofs.Dropping.{map-without}
use Rattle.library_model.specs.declared.messages.Command.{Command}
use Rattle.library_model.specs.declared.messages.Command.TheVariants.{RemoveRecording}
use Rattle.library_model.specs.Batches.{AreResummed, ids_in, remove_batch}
use Rattle.library_model.specs.Bodies.{removed_reply}
use Rattle.library_model.specs.InOrder.{AreInOrder}
use Rattle.library_model.specs.Machine.{Sums, kept_under, recording_of, remove_step, removing}
use Rattle.library_model.specs.RowRules.{is_in_album}
use Rattle.library_model.specs.Stands.{IsSummed, IsValid, recording_row, segment_rows, tables_of}
use Rattle.library_model.specs.State.{Recording, State}
use Rattle.library_model.proofs.Closing.{ButFor, Measures}
use Rattle.library_model.proofs.Leading.{Leads, Makes, albums_rise, leads_closed, measures_made}
use Rattle.library_model.proofs.Looking.{recording_there}
use Rattle.library_model.proofs.MadeStates.{made_files, made_in_order}
use Rattle.library_model.proofs.Members.{Resums-kept, all_found, ids_outside, members-without}
use Rattle.library_model.proofs.Refusing.{of_found}
use Rattle.library_model.proofs.RowsPut.{Measures-drop, frees_without, recordings_rise, takes_of_others}
use Rattle.library_model.proofs.SegmentChanges.{segment_rows-removed}
use Rattle.library_model.proofs.Steps.{MakesState}
use Rattle.library_model.proofs.TakesGone.{remove_takes}

-- The tables without a recording are the changes of its rows.
pub tables_of-removed : (s : State) (id : ℕ) (r : Recording) → IsValid s → recording_of id s.recordings ≡ Some r
    → changed (DropSegments r.take) (changed (DropRecording r.id) (tables_of s)) ≡ tables_of (removing s r)
tables_of-removed s id r valid found =
    ap (λ (rows : List RecordingRow). with_rows rows (without segments_take r.take (segment_rows s.recordings)))
    (sym (map-without (λ (q : Recording). q.id) recording_id recording_row (λ q. refl) r.id s.recordings))
    ∙ ap (with_rows (map recording_row (removing s r).recordings))
    (segment_rows-removed id r s.recordings (recordings_rise s valid) found (takes_of_others s id r valid found))
  where
    with_rows : List RecordingRow → List SegmentRow → Tables
    with_rows rows segments = record (tables_of s) { recordings = rows; segments = segments }

-- albums but its own keep their levels
remove_others : (s : State) (id : ℕ) (r : Recording) → IsValid s → recording_of id s.recordings ≡ Some r
    → AllByRecursion (ButFor (ids_in r.album) (IsSummed (removing s r).recordings)) s.albums
remove_others s id r valid found =
    Resums-kept s.recordings (removing s r).recordings (ids_in r.album) s.albums
    (λ album outside. members-without album r.id s.recordings
    (all_found (λ (q : Recording). is_in_album album q.album ≡ false) id s.recordings r (recordings_rise s valid) found
    (ids_outside r.album album outside))) valid.summed

-- a removal leads to the state without the recording
remove_of : (s : State) (token mark : List ℕ) (id : ℕ) (r : Recording) (rows : List AlbumRow) → IsValid s → kept_under token s.replies ≡ None
    → recording_of id s.recordings ≡ Some r
    → AreResummed (tables_of s).albums (changed (DropRecording r.id) (tables_of s)) (ids_in r.album) rows
    → Leads s token mark (RemoveRecording id) (remove_batch (recording_row r) rows token mark (removed_reply r.id)) (r.take ∷ []) (removed_reply r.id)
remove_of s token mark id r rows valid fresh found resummed =
    let wanted : Command = RemoveRecording id in
    let u : State = removing s r in
    let next : Tables = changed (DropRecording r.id) (tables_of s) in
    let changes : List Change = DropRecording r.id ∷ DropSegments r.take ∷ [] in
    let makes_it : MakesState s wanted u = (r, found, refl) in
    let are : AreInOrder (tables_of u) = made_in_order s wanted u valid tt makes_it in
    let rows_are : changed (DropSegments r.take) next ≡ tables_of u = tables_of-removed s id r valid found in
    let made : Makes s u token wanted changes (removed_reply r.id) = record {
      fresh = fresh;
      decides = λ v sums. of_found (recording_of id s.recordings) r (λ q. Sums (remove_step s q)) v found sums;
      rows = rows_are;
    } in
    leads_closed s u token mark wanted changes (ids_in r.album) rows (r.take ∷ []) (removed_reply r.id) next made (albums_rise u are)
    (Measures-drop next r.take u.recordings (frees_without s id r valid found)
    (subst (λ (t : Tables). Measures t u.recordings) (sym rows_are) (measures_made u are (made_files s wanted u valid tt makes_it))))
    (remove_others s id r valid found) resummed (remove_takes s id r valid found)

-- A recording is removed: its batch drops it and its segments, and puts the album that it was in.
pub remove_leads : (s : State) (token mark : List ℕ) (id : ℕ) (old : RecordingRow) (rows : List AlbumRow) → IsValid s
    → kept_under token s.replies ≡ None → find (λ (row : RecordingRow). row.id == id) (tables_of s).recordings ≡ Some old
    → AreResummed (tables_of s).albums (changed (DropRecording old.id) (tables_of s)) (ids_in old.album) rows
    → Leads s token mark (RemoveRecording id) (remove_batch old rows token mark (removed_reply old.id)) (old.take ∷ []) (removed_reply old.id)
remove_leads s token mark id old rows valid fresh found =
    let at = recording_there s id old found in
    let Of : RecordingRow → Type 0 = λ q.
    AreResummed (tables_of s).albums (changed (DropRecording q.id) (tables_of s)) (ids_in q.album) rows
    → Leads s token mark (RemoveRecording id) (remove_batch q rows token mark (removed_reply q.id)) (q.take ∷ []) (removed_reply q.id) in
    subst Of at.2 (remove_of s token mark id at.0 rows valid fresh at.1)
