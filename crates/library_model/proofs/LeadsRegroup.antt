-- The batch of a recording that comes into an album, or out of the one that it is in.
use Rattle.std.proofs.Common.{◌≡◌, ◌==◌, ◌∙◌, ℕ, true, false, Option, None, Some, List, [], ◌∷◌, inl, inr, ◌⊎◌, map, refl, sym, ap, subst}
use Rattle.std.specs.List.{AllByRecursion, find}
use Rattle.keeper_store.specs.Changes.{changed}
use Rattle.keeper_store.specs.Puts.{put, recording_less}
use Rattle.keeper_store.specs.declared.contents.Change.TheVariants.{PutRecording}
use Rattle.keeper_store.specs.declared.contents.Tables.{Tables}
use Rattle.keeper_store.specs.declared.row_types.AlbumRow.{AlbumRow}
use Rattle.keeper_store.specs.declared.row_types.RecordingRow.{RecordingRow}
use Rattle.keeper_store.specs.declared.row_types.SegmentRow.{SegmentRow}
use Rattle.keeper_store.proofs.Putting.{map-put}
use Rattle.library_model.specs.declared.messages.Command.{Command}
use Rattle.library_model.specs.declared.messages.Command.TheVariants.{Regroup}
use Rattle.library_model.specs.declared.messages.Reply.{Reply}
use Rattle.library_model.specs.declared.refusals.Refusal.TheVariants.{AlbumFull}
use Rattle.library_model.specs.Batches.{AreResummed, closing, crowds, moved, regroup_batch, regroup_row}
use Rattle.library_model.specs.Bodies.{row_reply}
use Rattle.library_model.specs.InOrder.{AreInOrder}
use Rattle.library_model.specs.Machine.{OfAlbum, Sums, is_crowded, is_there, kept_under, makes, recording_of, regroup_step, regrouped, regrouping}
use Rattle.library_model.specs.RowRules.{album_is_there, is_in_album}
use Rattle.library_model.specs.Stands.{IsSummed, IsValid, members, recording_row, segment_rows, tables_of}
use Rattle.library_model.specs.State.{Recording, State, recording_before}
use Rattle.library_model.proofs.Closing.{ButFor, Measures}
use Rattle.library_model.proofs.Fitting.{regroup_crowds}
use Rattle.library_model.proofs.Leading.{Leads, Makes, albums_rise, leads_closed, measures_made}
use Rattle.library_model.proofs.Looking.{find_has, recording_there}
use Rattle.library_model.proofs.MadeStates.{made_files, made_in_order, row-there}
use Rattle.library_model.proofs.Members.{Resums-kept, all_found, members-put, moved_outside, put_found}
use Rattle.library_model.proofs.Refusing.{of_found, of_limit, of_there}
use Rattle.library_model.proofs.RowsPut.{crowds_same, recordings_rise}
use Rattle.library_model.proofs.SegmentChanges.{segment_rows-same}
use Rattle.library_model.proofs.Steps.{MakesState}
use Rattle.library_model.proofs.TakesGone.{regroup_takes}

-- The tables with a recording in another album are the change of its row.
pub tables_of-regrouping : (s : State) (id : ℕ) (album : Option ℕ) (r : Recording) → IsValid s → recording_of id s.recordings ≡ Some r
    → changed (PutRecording (recording_row (regrouped r album))) (tables_of s) ≡ tables_of (regrouping s r album)
tables_of-regrouping s id album r valid found =
    ap (λ (rows : List RecordingRow). with_rows rows (segment_rows s.recordings))
    (sym (map-put recording_before recording_less recording_row (λ a b. refl) (regrouped r album) s.recordings))
    ∙ ap (with_rows (map recording_row (put recording_before (regrouped r album) s.recordings)))
    (sym (segment_rows-same id (regrouped r album) r s.recordings (recordings_rise s valid) found refl refl))
  where
    with_rows : List RecordingRow → List SegmentRow → Tables
    with_rows rows segments = record (tables_of s) { recordings = rows; segments = segments }

-- a recording that stays where it is leaves all recordings
regrouped_same : (s : State) (id : ℕ) (album : Option ℕ) (r : Recording) → IsValid s → recording_of id s.recordings ≡ Some r → r.album ≡ album
    → put recording_before (regrouped r album) s.recordings ≡ s.recordings
regrouped_same s id album r valid found same =
    ap (λ (a : Option ℕ). put recording_before (regrouped r a) s.recordings) (sym same)
    ∙ put_found id s.recordings r (recordings_rise s valid) found

-- albums but those between which it moves keep their levels
regroup_others : (s : State) (id : ℕ) (album : Option ℕ) (r : Recording) → IsValid s → recording_of id s.recordings ≡ Some r
    → AllByRecursion (ButFor (moved r.album album) (IsSummed (put recording_before (regrouped r album) s.recordings))) s.albums
regroup_others s id album r valid found =
    Resums-kept s.recordings (put recording_before (regrouped r album) s.recordings) (moved r.album album) s.albums
    (λ other outside. by_move other (moved_outside r.album album other outside)) valid.summed
  where
    by_move : (other : ℕ) → ((is_in_album other r.album ≡ false) × (is_in_album other album ≡ false)) ⊎ (r.album ≡ album)
        → members other (put recording_before (regrouped r album) s.recordings) ≡ members other s.recordings
    by_move other (inl out) =
        members-put other (regrouped r album) s.recordings out.1
        (all_found (λ (q : Recording). is_in_album other q.album ≡ false) id s.recordings r (recordings_rise s valid) found out.0)
    by_move other (inr same) = ap (members other) (regrouped_same s id album r valid found same)

-- a recording in another album leads to the state that has it there
regroup_of : (s : State) (token mark : List ℕ) (id : ℕ) (album : Option ℕ) (r : Recording) (rows : List AlbumRow) → IsValid s
    → kept_under token s.replies ≡ None → recording_of id s.recordings ≡ Some r → album_is_there album (tables_of s).albums ≡ true
    → crowds r.album album (tables_of s).recordings ≡ false
    → AreResummed (tables_of s).albums (changed (PutRecording (recording_row (regrouped r album))) (tables_of s)) (moved r.album album) rows
    → Leads s token mark (Regroup id album)
    (regroup_batch (recording_row (regrouped r album)) rows token mark (row_reply 200 (recording_row (regrouped r album))))
    [] (row_reply 200 (recording_row (regrouped r album)))
regroup_of s token mark id album r rows valid fresh found there room resummed =
    let wanted : Command = Regroup id album in
    let u : State = regrouping s r album in
    let row : RecordingRow = recording_row (regrouped r album) in
    let next : Tables = changed (PutRecording row) (tables_of s) in
    let here : is_there album s.albums ≡ true = sym (row-there album s.albums) ∙ there in
    let uncrowded : is_crowded album u.recordings ≡ false = regroup_crowds s id album r (recording_row r) valid found refl there ∙ room in
    let makes_it : MakesState s wanted u = (r, found, here, uncrowded, refl) in
    let are : AreInOrder (tables_of u) = made_in_order s wanted u valid tt makes_it in
    let rows_are : next ≡ tables_of u = tables_of-regrouping s id album r valid found in
    let made : Makes s u token wanted (PutRecording row ∷ []) (row_reply 200 row) = record {
      fresh = fresh;
      decides = λ v sums. of_found (recording_of id s.recordings) r (λ q. OfAlbum (is_there album s.albums) (Sums (regroup_step s q album))) v found
          (of_there (is_there album s.albums) (Sums (regroup_step s r album)) v here
          (of_limit (is_crowded album u.recordings) AlbumFull (makes (λ _. row_reply 200 row) u) v uncrowded sums));
      rows = rows_are;
    } in
    leads_closed s u token mark wanted (PutRecording row ∷ []) (moved r.album album) rows [] (row_reply 200 row) next made (albums_rise u are)
    (subst (λ (t : Tables). Measures t u.recordings) (sym rows_are) (measures_made u are (made_files s wanted u valid tt makes_it)))
    (regroup_others s id album r valid found) resummed (regroup_takes s id album r valid found)

-- A recording comes into an album that is there and has room, or out of the one that it is in: its batch puts the recording and the albums
-- whose recordings are others then.
pub regroup_leads : (s : State) (token mark : List ℕ) (id : ℕ) (album : Option ℕ) (old : RecordingRow) (rows : List AlbumRow) → IsValid s
    → kept_under token s.replies ≡ None → find (λ (row : RecordingRow). row.id == id) (tables_of s).recordings ≡ Some old
    → album_is_there album (tables_of s).albums ≡ true → crowds old.album album (tables_of s).recordings ≡ false
    → AreResummed (tables_of s).albums (changed (PutRecording (regroup_row old album)) (tables_of s)) (moved old.album album) rows
    → Leads s token mark (Regroup id album) (regroup_batch (regroup_row old album) rows token mark (row_reply 200 (regroup_row old album)))
    [] (row_reply 200 (regroup_row old album))
regroup_leads s token mark id album old rows valid fresh found there =
    let at = recording_there s id old found in
    let Of : RecordingRow → Type 0 = λ q.
    crowds q.album album (tables_of s).recordings ≡ false
    → AreResummed (tables_of s).albums (changed (PutRecording (regroup_row q album)) (tables_of s)) (moved q.album album) rows
    → Leads s token mark (Regroup id album) (regroup_batch (regroup_row q album) rows token mark (row_reply 200 (regroup_row q album)))
    [] (row_reply 200 (regroup_row q album)) in
    subst Of at.2 (regroup_of s token mark id album at.0 rows valid fresh at.1 there)

-- a recording that stays in its album leads to the state with its reply kept
regroup_stays : (s : State) (token mark : List ℕ) (id : ℕ) (old : RecordingRow) → IsValid s → kept_under token s.replies ≡ None
    → find (λ (row : RecordingRow). row.id == id) (tables_of s).recordings ≡ Some old
    → Leads s token mark (Regroup id old.album) (closing [] token mark (row_reply 200 old)) [] (row_reply 200 old)
regroup_stays s token mark id old valid fresh found =
    let at = recording_there s id old found in
    let r : Recording = at.0 in
    let there : album_is_there r.album (tables_of s).albums ≡ true =
    (find_has (λ (q : RecordingRow). q.id) (λ (q : RecordingRow). album_is_there q.album (tables_of s).albums ≡ true) id
    (tables_of s).recordings (recording_row r) valid.rows.albums_there (found ∙ ap (λ (q : RecordingRow). Some q) (sym at.2))).0 in
    let u : State = regrouping s r r.album in
    let wanted : Command = Regroup id r.album in
    let here : is_there r.album s.albums ≡ true = sym (row-there r.album s.albums) ∙ there in
    let uncrowded : is_crowded r.album u.recordings ≡ false =
    regroup_crowds s id r.album r (recording_row r) valid at.1 refl there ∙ crowds_same r.album (tables_of s).recordings in
    let makes_it : MakesState s wanted u = (r, at.1, here, uncrowded, refl) in
    let are : AreInOrder (tables_of u) = made_in_order s wanted u valid tt makes_it in
    let reply : Reply = row_reply 200 (recording_row r) in
    let made : Makes s u token wanted [] reply = record {
      fresh = fresh;
      decides = λ v sums. of_found (recording_of id s.recordings) r (λ q. OfAlbum (is_there r.album s.albums) (Sums (regroup_step s q r.album))) v at.1
          (of_there (is_there r.album s.albums) (Sums (regroup_step s r r.album)) v here
          (of_limit (is_crowded r.album u.recordings) AlbumFull (makes (λ _. reply) u) v uncrowded sums));
      rows = ap (λ (rs : List Recording). tables_of (record s { recordings = rs })) (sym (regrouped_same s id r.album r valid at.1 refl));
    } in
    let Of : RecordingRow → Type 0 = λ q.
    Leads s token mark (Regroup id q.album) (closing [] token mark (row_reply 200 q)) [] (row_reply 200 q) in
    subst Of at.2
    (leads_closed s u token mark wanted [] [] [] [] reply (tables_of u) made (albums_rise u are)
    (measures_made u are (made_files s wanted u valid tt makes_it))
    (Resums-kept s.recordings u.recordings [] s.albums
    (λ other _. ap (members other) (regrouped_same s id r.album r valid at.1 refl)) valid.summed) tt
    (regroup_takes s id r.album r valid at.1))

-- A recording comes into the album that it is in, or out of none: its batch keeps the reply, and puts nothing else.
pub regroup_same_leads : (s : State) (token mark : List ℕ) (id : ℕ) (album : Option ℕ) (old : RecordingRow) → IsValid s
    → kept_under token s.replies ≡ None → find (λ (row : RecordingRow). row.id == id) (tables_of s).recordings ≡ Some old → old.album ≡ album
    → Leads s token mark (Regroup id album) (closing [] token mark (row_reply 200 old)) [] (row_reply 200 old)
regroup_same_leads s token mark id album old valid fresh found same =
    subst (λ (a : Option ℕ). Leads s token mark (Regroup id a) (closing [] token mark (row_reply 200 old)) [] (row_reply 200 old)) same
    (regroup_stays s token mark id old valid fresh found)
