-- The batch of a recording with another file.
use Rattle.std.proofs.Common.{◌≡◌, ◌≢◌, ◌+◌, ◌==◌, ◌∙◌, ◌++◌, ℕ, false, nat_le, None, Some, List, [], ◌∷◌, map, refl, sym, ap, subst}
use Rattle.std.specs.List.{AllByRecursion, find}
use Rattle.lib_base.specs.declared.files.Summary.{Summary}
use Rattle.lib_base.specs.declared.limits.TheConstants.{NUMBERS_END}
use Rattle.file_model.specs.Pcm.{Pcm}
use Rattle.keeper_store.specs.Changes.{changed, changed_all, next_numbers}
use Rattle.keeper_store.specs.Puts.{put, recording_less, segments_less, segments_take, without}
use Rattle.keeper_store.specs.declared.contents.Change.TheVariants.{DropSegments}
use Rattle.keeper_store.specs.declared.contents.NextNumbers.{NextNumbers}
use Rattle.keeper_store.specs.declared.contents.Tables.{Tables}
use Rattle.keeper_store.specs.declared.row_types.AlbumRow.{AlbumRow}
use Rattle.keeper_store.specs.declared.row_types.RecordingRow.{RecordingRow}
use Rattle.keeper_store.specs.declared.row_types.SegmentRow.{SegmentRow}
use Rattle.keeper_store.proofs.Putting.{map-put}
use Rattle.library_model.specs.declared.messages.Command.{Command}
use Rattle.library_model.specs.declared.messages.Command.TheVariants.{Retake}
use Rattle.library_model.specs.declared.refusals.Refusal.TheVariants.{Ids}
use Rattle.library_model.specs.Batches.{AreResummed, ids_in, retake_batch, retake_changes, retake_row}
use Rattle.library_model.specs.Bodies.{row_reply}
use Rattle.library_model.specs.Findings.{Finds, measured, measured_of}
use Rattle.library_model.specs.InOrder.{AreInOrder}
use Rattle.library_model.specs.Machine.{OfFile, kept_under, makes, recording_of, retake_step, retaken, retaking}
use Rattle.library_model.specs.RowRules.{is_in_album}
use Rattle.library_model.specs.Stands.{IsSummed, IsValid, IsWithinLimit, album_row, recording_row, reply_row, segment_row, segment_rows, tables_of}
use Rattle.library_model.specs.State.{Recording, State, recording_before}
use Rattle.library_model.proofs.Closing.{ButFor, Measures}
use Rattle.library_model.proofs.Leading.{Leads, Makes, albums_rise, leads_closed, measures_made}
use Rattle.library_model.proofs.Looking.{recording_there}
use Rattle.library_model.proofs.MadeStates.{made_files, made_in_order}
use Rattle.library_model.proofs.Members.{Resums-kept, all_found, ids_outside, members-put}
use Rattle.library_model.proofs.Refusing.{of_found, of_limit}
use Rattle.library_model.proofs.RowsPut.{Measures-drop, frees_put, next_differs, none_has_next, recordings_rise, takes_of_others}
use Rattle.library_model.proofs.SegmentChanges.{segment_rows-retaken}
use Rattle.library_model.proofs.Steps.{MakesState}
use Rattle.library_model.proofs.TakesGone.{retake_takes}

-- The tables with a recording under the next take are the changes of its rows.
pub tables_of-retaking : (s : State) (id : ℕ) (r : Recording) (file : List ℕ) (sound : Pcm) (summary : Summary) → IsValid s
    → recording_of id s.recordings ≡ Some r
    → changed (DropSegments r.take) (changed_all (retake_changes (next_numbers (tables_of s)) (measured_of sound)
    (recording_row (retaken s r file sound summary))) (tables_of s)) ≡ tables_of (retaking s r file sound summary)
tables_of-retaking s id r file sound summary valid found =
    let new : Recording = retaken s r file sound summary in
    ap (λ (rows : List RecordingRow). with_rows rows (without segments_take r.take (put segments_less (segment_row new) (segment_rows s.recordings))))
    (sym (map-put recording_before recording_less recording_row (λ a b. refl) new s.recordings))
    ∙ ap (with_rows (map recording_row (put recording_before new s.recordings)))
    (segment_rows-retaken id new r s.recordings (recordings_rise s valid) found refl (next_differs s id r valid found) (none_has_next s valid)
    (takes_of_others s id r valid found))
  where
    with_rows : List RecordingRow → List SegmentRow → Tables
    with_rows rows segments = record {
      next_album = s.next_album;
      next_recording = s.next_recording;
      next_take = s.next_take + 1;
      albums = map album_row s.albums;
      recordings = rows;
      segments = segments;
      replies = map reply_row s.replies;
    }

-- albums but its own keep their levels
retake_others : (s : State) (id : ℕ) (r new : Recording) → IsValid s → recording_of id s.recordings ≡ Some r → new.id ≡ r.id → new.album ≡ r.album
    → AllByRecursion (ButFor (ids_in r.album) (IsSummed (put recording_before new s.recordings))) s.albums
retake_others s id r new valid found same_id same_album =
    Resums-kept s.recordings (put recording_before new s.recordings) (ids_in r.album) s.albums
    (λ album outside. let out = ids_outside r.album album outside in
    members-put album new s.recordings (ap (is_in_album album) same_album ∙ out) (subst (λ (n : ℕ).
    AllByRecursion (λ (q : Recording). q.id ≡ n → is_in_album album q.album ≡ false) s.recordings) (sym same_id)
    (all_found (λ (q : Recording). is_in_album album q.album ≡ false) id s.recordings r (recordings_rise s valid) found out))) valid.summed

-- a new take of a recording leads to the state that has it
retake_of : (s : State) (token mark : List ℕ) (id : ℕ) (r : Recording) (file : List ℕ) (sound : Pcm) (summary : Summary) (rows : List AlbumRow)
    → IsValid s → kept_under token s.replies ≡ None → IsWithinLimit file → recording_of id s.recordings ≡ Some r
    → Finds file (measured sound summary) → nat_le NUMBERS_END s.next_take ≡ false
    → AreResummed (tables_of s).albums (changed_all (retake_changes (next_numbers (tables_of s)) (measured_of sound)
    (recording_row (retaken s r file sound summary))) (tables_of s)) (ids_in r.album) rows
    → Leads s token mark (Retake id file)
    (retake_batch (next_numbers (tables_of s)) (measured_of sound) (recording_row r) (recording_row (retaken s r file sound summary)) rows token mark
    (row_reply 200 (recording_row (retaken s r file sound summary))))
    (r.take ∷ []) (row_reply 200 (recording_row (retaken s r file sound summary)))
retake_of s token mark id r file sound summary rows valid fresh within found finds left resummed =
    let wanted : Command = Retake id file in
    let u : State = retaking s r file sound summary in
    let new : Recording = retaken s r file sound summary in
    let row : RecordingRow = recording_row new in
    let n : NextNumbers = next_numbers (tables_of s) in
    let next : Tables = changed_all (retake_changes n (measured_of sound) row) (tables_of s) in
    let differs : new.take ≢ r.take = next_differs s id r valid found in
    let makes_it : MakesState s wanted u = (sound, summary, r, found, finds, left, refl) in
    let are : AreInOrder (tables_of u) = made_in_order s wanted u valid within makes_it in
    let rows_are : changed (DropSegments r.take) next ≡ tables_of u = tables_of-retaking s id r file sound summary valid found in
    let made : Makes s u token wanted (retake_changes n (measured_of sound) row ++ DropSegments r.take ∷ []) (row_reply 200 row) = record {
      fresh = fresh;
      decides = λ v sums. of_found (recording_of id s.recordings) r (λ q. OfFile file (retake_step s q file)) v found
          (measured sound summary, finds, of_limit (nat_le NUMBERS_END s.next_take) Ids (makes (λ _. row_reply 200 row) u) v left sums);
      rows = rows_are;
    } in
    leads_closed s u token mark wanted (retake_changes n (measured_of sound) row ++ DropSegments r.take ∷ []) (ids_in r.album) rows (r.take ∷ [])
    (row_reply 200 row) next made (albums_rise u are)
    (Measures-drop next r.take u.recordings (frees_put s id r row valid found refl differs)
    (subst (λ (t : Tables). Measures t u.recordings) (sym rows_are) (measures_made u are (made_files s wanted u valid within makes_it))))
    (retake_others s id r new valid found refl refl) resummed (retake_takes s id r new valid found refl differs)

-- A new take of a recording, for which a number is left: its batch puts the counter, the segments and the recording, drops the segments of
-- its old take, and puts the album that it is in.
pub retake_leads : (s : State) (token mark : List ℕ) (id : ℕ) (old : RecordingRow) (file : List ℕ) (sound : Pcm) (summary : Summary)
    (rows : List AlbumRow) → IsValid s → kept_under token s.replies ≡ None → IsWithinLimit file
    → find (λ (row : RecordingRow). row.id == id) (tables_of s).recordings ≡ Some old → Finds file (measured sound summary)
    → nat_le NUMBERS_END s.next_take ≡ false
    → AreResummed (tables_of s).albums (changed_all (retake_changes (next_numbers (tables_of s)) (measured_of sound)
    (retake_row (next_numbers (tables_of s)) old file (measured_of sound) summary)) (tables_of s)) (ids_in old.album) rows
    → Leads s token mark (Retake id file)
    (retake_batch (next_numbers (tables_of s)) (measured_of sound) old (retake_row (next_numbers (tables_of s)) old file (measured_of sound) summary) rows
    token mark (row_reply 200 (retake_row (next_numbers (tables_of s)) old file (measured_of sound) summary)))
    (old.take ∷ []) (row_reply 200 (retake_row (next_numbers (tables_of s)) old file (measured_of sound) summary))
retake_leads s token mark id old file sound summary rows valid fresh within found finds left =
    let at = recording_there s id old found in
    let row_for : RecordingRow → RecordingRow = λ q. retake_row (next_numbers (tables_of s)) q file (measured_of sound) summary in
    let Of : RecordingRow → Type 0 = λ q.
    AreResummed (tables_of s).albums (changed_all (retake_changes (next_numbers (tables_of s)) (measured_of sound) (row_for q)) (tables_of s))
    (ids_in q.album) rows
    → Leads s token mark (Retake id file)
    (retake_batch (next_numbers (tables_of s)) (measured_of sound) q (row_for q) rows token mark (row_reply 200 (row_for q)))
    (q.take ∷ []) (row_reply 200 (row_for q)) in
    subst Of at.2 (retake_of s token mark id at.0 file sound summary rows valid fresh within at.1 finds left)
