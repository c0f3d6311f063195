-- What is replied about a row is what is replied about its recording, or its album.
use Rattle.std.proofs.Common.{◌≡◌, ◌==◌, ℕ, Option, None, Some, refl, sym, ap, ◌∙◌}
use Rattle.std.specs.List.{find}
use Rattle.keeper_store.specs.declared.row_types.AlbumRow.{AlbumRow}
use Rattle.keeper_store.specs.declared.row_types.RecordingRow.{RecordingRow}
use Rattle.library_model.specs.Machine.{question_reply}
use Rattle.library_model.specs.Stands.{tables_of}
use Rattle.library_model.specs.State.{State}
use Rattle.library_model.specs.declared.messages.Question.TheVariants as about
use Rattle.library_model.proofs.Looking.{asked_album, asked_no_album, asked_no_recording, asked_recording}
use Rattle.catalogue_core.specs.Asking.{album_reply_in, found_album_row_reply, found_row_reply, recording_reply_in}

-- A question after a recording is answered from the row that is found.
pub recording_replied : (s : State) (id : ℕ) → recording_reply_in (tables_of s) id ≡ question_reply s (about.Recording id)
recording_replied s id = by_row (find (λ (r : RecordingRow). r.id == id) (tables_of s).recordings) refl
  where
    by_row : (row : Option RecordingRow) → find (λ (r : RecordingRow). r.id == id) (tables_of s).recordings ≡ row
        → recording_reply_in (tables_of s) id ≡ question_reply s (about.Recording id)
    by_row None is = ap found_row_reply is ∙ sym (asked_no_recording s id is)
    by_row (Some row) is = ap found_row_reply is ∙ sym (asked_recording s id row is)

-- So is one after an album.
pub album_replied : (s : State) (id : ℕ) → album_reply_in (tables_of s) id ≡ question_reply s (about.Album id)
album_replied s id = by_row (find (λ (r : AlbumRow). r.id == id) (tables_of s).albums) refl
  where
    by_row : (row : Option AlbumRow) → find (λ (r : AlbumRow). r.id == id) (tables_of s).albums ≡ row
        → album_reply_in (tables_of s) id ≡ question_reply s (about.Album id)
    by_row None is = ap (found_album_row_reply (tables_of s) id) is ∙ sym (asked_no_album s id is)
    by_row (Some row) is = ap (found_album_row_reply (tables_of s) id) is ∙ sym (asked_album s id row is)
