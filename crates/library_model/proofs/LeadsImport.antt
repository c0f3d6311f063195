-- The batch of an import.
use Rattle.std.proofs.Common.{◌≡◌, ◌≢◌, ◌||◌, ◌∙◌, ℕ, true, false, nat_le, Option, None, List, [], refl, sym, subst}
use Rattle.std.specs.List.{AllByRecursion}
use Rattle.lib_base.specs.declared.files.Summary.{Summary}
use Rattle.lib_base.specs.declared.limits.TheConstants.{NUMBERS_END}
use Rattle.file_model.specs.Pcm.{Pcm}
use Rattle.keeper_store.specs.Changes.{changed_all, next_numbers}
use Rattle.keeper_store.specs.Puts.{put}
use Rattle.keeper_store.specs.declared.contents.NextNumbers.{NextNumbers}
use Rattle.keeper_store.specs.declared.contents.Tables.{Tables}
use Rattle.keeper_store.specs.declared.row_types.AlbumRow.{AlbumRow}
use Rattle.keeper_store.specs.declared.row_types.RecordingRow.{RecordingRow}
use Rattle.library_model.specs.declared.messages.Command.{Command}
use Rattle.library_model.specs.declared.messages.Command.TheVariants.{Import}
use Rattle.library_model.specs.declared.messages.Reply.{Reply}
use Rattle.library_model.specs.declared.refusals.Refusal.TheVariants.{AlbumFull, Ids}
use Rattle.library_model.specs.Batches.{AreResummed, crowds, ids_in, import_batch, import_changes, import_row}
use Rattle.library_model.specs.Bodies.{row_reply}
use Rattle.library_model.specs.Findings.{Finds, measured, measured_of}
use Rattle.library_model.specs.InOrder.{AreInOrder}
use Rattle.library_model.specs.Machine.{OfFile, import_step, imported, is_crowded, is_there, kept_under, makes, new_recording, unless}
use Rattle.library_model.specs.Names.{is_name}
use Rattle.library_model.specs.RowRules.{album_is_there, is_in_album}
use Rattle.library_model.specs.Stands.{IsSummed, IsValid, IsWithinLimit, tables_of}
use Rattle.library_model.specs.State.{Recording, State, recording_before}
use Rattle.library_model.proofs.Closing.{ButFor, Measures}
use Rattle.library_model.proofs.Fitting.{import_crowds}
use Rattle.library_model.proofs.Imports.{AllByRecursion-weaker, tables_of-imported}
use Rattle.library_model.proofs.Leading.{Leads, Makes, albums_rise, leads_closed, measures_made}
use Rattle.library_model.proofs.MadeStates.{made_files, made_in_order, row-there}
use Rattle.library_model.proofs.Members.{Resums-kept, ids_outside, members-put}
use Rattle.library_model.proofs.Refusing.{of_limit, of_there}
use Rattle.library_model.proofs.Steps.{MakesState}
use Rattle.library_model.proofs.TakesGone.{ids_below, import_takes}

-- albums but the one that it is in keep their levels where a new recording comes
import_others : (s : State) (new : Recording) → IsValid s → new.id ≡ s.next_recording
    → AllByRecursion (ButFor (ids_in new.album) (IsSummed (put recording_before new s.recordings))) s.albums
import_others s new valid is =
    Resums-kept s.recordings (put recording_before new s.recordings) (ids_in new.album) s.albums
    (λ id outside. members-put id new s.recordings (ids_outside new.album id outside)
    (AllByRecursion-weaker (λ (q : Recording). q.id ≢ s.next_recording) (λ (q : Recording). q.id ≡ new.id → is_in_album id q.album ≡ false)
    s.recordings (λ q apart same. absurd (apart (same ∙ is))) (ids_below s valid))) valid.summed

-- An import within the limits: its batch puts the counters, the segments, the recording, and the album that it comes into.
pub import_leads : (s : State) (token mark : List ℕ) (album : Option ℕ) (name file : List ℕ) (sound : Pcm) (summary : Summary)
    (rows : List AlbumRow) → IsValid s → kept_under token s.replies ≡ None → is_name name ≡ true → IsWithinLimit file
    → album_is_there album (tables_of s).albums ≡ true → Finds file (measured sound summary)
    → crowds None album (tables_of s).recordings ≡ false → (nat_le NUMBERS_END s.next_recording || nat_le NUMBERS_END s.next_take) ≡ false
    → AreResummed (tables_of s).albums
    (changed_all (import_changes (next_numbers (tables_of s)) (measured_of sound)
    (import_row (next_numbers (tables_of s)) album name file (measured_of sound) summary)) (tables_of s)) (ids_in album) rows
    → Leads s token mark (Import album name file)
    (import_batch (next_numbers (tables_of s)) (measured_of sound)
    (import_row (next_numbers (tables_of s)) album name file (measured_of sound) summary) rows token mark
    (row_reply 201 (import_row (next_numbers (tables_of s)) album name file (measured_of sound) summary)))
    [] (row_reply 201 (import_row (next_numbers (tables_of s)) album name file (measured_of sound) summary))
import_leads s token mark album name file sound summary rows valid fresh named within there finds room left resummed =
    let wanted : Command = Import album name file in
    let u : State = imported s album name file sound summary in
    let n : NextNumbers = next_numbers (tables_of s) in
    let row : RecordingRow = import_row n album name file (measured_of sound) summary in
    let reply : Reply = row_reply 201 row in
    let next : Tables = changed_all (import_changes n (measured_of sound) row) (tables_of s) in
    let here : is_there album s.albums ≡ true = sym (row-there album s.albums) ∙ there in
    let uncrowded : is_crowded album u.recordings ≡ false = import_crowds s album name file sound summary valid ∙ room in
    let makes_it : MakesState s wanted u = (sound, summary, here, finds, uncrowded, left, refl) in
    let are : AreInOrder (tables_of u) = made_in_order s wanted u valid (named, within) makes_it in
    let rows_are : next ≡ tables_of u = sym (tables_of-imported s album name file sound summary valid) in
    let made : Makes s u token wanted (import_changes n (measured_of sound) row) reply = record {
      fresh = fresh;
      decides = λ v sums. of_there (is_there album s.albums) (OfFile file (import_step s album name file)) v here (
        measured sound summary,
        finds,
        of_limit (is_crowded album u.recordings) AlbumFull
            (unless (nat_le NUMBERS_END s.next_recording || nat_le NUMBERS_END s.next_take) Ids (makes (λ _. reply) u)) v uncrowded
            (of_limit (nat_le NUMBERS_END s.next_recording || nat_le NUMBERS_END s.next_take) Ids (makes (λ _. reply) u) v left sums),
      );
      rows = rows_are;
    } in
    leads_closed s u token mark wanted (import_changes n (measured_of sound) row) (ids_in album) rows [] reply next made (albums_rise u are)
    (subst (λ (t : Tables). Measures t u.recordings) (sym rows_are)
    (measures_made u are (made_files s wanted u valid (named, within) makes_it)))
    (import_others s (new_recording s album name file sound summary) valid refl) resummed
    (import_takes s (new_recording s album name file sound summary) valid refl)
