-- What asking after a row answers.
use Rattle.std.specs.Prelude.{◌==◌, ℕ, Option, None, Some, map}
use Rattle.std.specs.List.{find}
use Rattle.keeper_store.specs.Puts.{recording_id}
use Rattle.keeper_store.specs.declared.contents.Tables.{Tables}
use Rattle.keeper_store.specs.declared.row_types.AlbumRow.{AlbumRow}
use Rattle.keeper_store.specs.declared.row_types.RecordingRow.{RecordingRow}
use Rattle.library_model.specs.Bodies.{album_row_reply, row_reply}
use Rattle.library_model.specs.Replies.{refusal}
use Rattle.library_model.specs.RowRules.{members_in}
use Rattle.library_model.specs.declared.messages.Reply.{Reply}
use Rattle.library_model.specs.declared.refusals.Refusal.TheVariants.{NoAlbum, NoRecording}

-- what is replied about the recording's row that was looked for
abbrev pub found_row_reply : Option RecordingRow → Reply
found_row_reply (Some row) = row_reply 200 row
found_row_reply None = refusal NoRecording

-- what is replied about the recording of an id in tables
abbrev pub recording_reply_in : Tables → ℕ → Reply
recording_reply_in t id = found_row_reply (find (λ (row : RecordingRow). row.id == id) t.recordings)

-- what is replied about the album of an id, whose row was looked for
abbrev pub found_album_row_reply : Tables → ℕ → Option AlbumRow → Reply
found_album_row_reply t id (Some row) = album_row_reply 200 row (map recording_id (members_in id t.recordings))
found_album_row_reply t id None = refusal NoAlbum

-- what is replied about the album of an id in tables
abbrev pub album_reply_in : Tables → ℕ → Reply
album_reply_in t id = found_album_row_reply t id (find (λ (row : AlbumRow). row.id == id) t.albums)
