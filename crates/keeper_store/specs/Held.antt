-- What tables hold that are changed in place.
use Rattle.std.specs.Prelude.{◌≡◌, ◌+◌, ◌≤◌, ℕ, true, vec_len, vec_capacity}
use Rattle.keeper_store.specs.declared.contents.Tables.{Tables}
use Rattle.keeper_store.specs.declared.row_tables.RowTables.{RowTables}
use Rattle.keeper_store.specs.Puts.{album_less, recording_less, segments_less, reply_less, Ascends}

-- the tables that are held
abbrev pub held_tables : RowTables → Tables
held_tables held = record {
  next_album = held.next_album;
  next_recording = held.next_recording;
  next_take = held.next_take;
  albums = held.albums.items;
  recordings = held.recordings.items;
  segments = held.segments.items;
  replies = held.replies.items;
}

-- there is room for so many rows more, in each table
pub record HasRoom (held : RowTables) (more : ℕ) : Type 0 where
  pub albums : vec_len held.albums + more ≤ vec_capacity held.albums
  pub recordings : vec_len held.recordings + more ≤ vec_capacity held.recordings
  pub segments : vec_len held.segments + more ≤ vec_capacity held.segments
  pub replies : vec_len held.replies + more ≤ vec_capacity held.replies

-- albums and recordings ascend by their ids, segments by their takes, and replies by their tokens
pub record RowsAscend (t : Tables) : Type 0 where
  pub albums : Ascends album_less t.albums
  pub recordings : Ascends recording_less t.recordings
  pub segments : Ascends segments_less t.segments
  pub replies : Ascends reply_less t.replies

-- the rows held were tested and ascend
abbrev pub IsInOrder : RowTables → Type 0
IsInOrder held = held.ascending ≡ true
