-- The tables, and what changes make of them.
use Rattle.std.specs.Prelude.{List, [], ◌∷◌}
use Rattle.keeper_store.specs.declared.contents.Tables.{Tables}
use Rattle.keeper_store.specs.declared.contents.Change.{Change}
use Rattle.keeper_store.specs.declared.contents.NextNumbers.{NextNumbers}
use Rattle.keeper_store.specs.declared.contents.Change.TheVariants.{Counters, PutAlbum, PutRecording, PutSegments, PutReply, DropAlbum, DropRecording, DropSegments}
use Rattle.keeper_store.specs.Puts.{put, without, album_less, recording_less, segments_less, reply_less, album_id, recording_id, segments_take}

-- no row, and each counter 1
abbrev pub empty_tables : Tables
empty_tables = record {
  next_album = 1;
  next_recording = 1;
  next_take = 1;
  albums = [];
  recordings = [];
  segments = [];
  replies = [];
}

-- the tables after one change
abbrev pub changed : Change → Tables → Tables
changed (Counters album recording take) t = record t { next_album = album; next_recording = recording; next_take = take }
changed (PutAlbum row) t = record t { albums = put album_less row t.albums }
changed (PutRecording row) t = record t { recordings = put recording_less row t.recordings }
changed (PutSegments row) t = record t { segments = put segments_less row t.segments }
changed (PutReply row) t = record t { replies = put reply_less row t.replies }
changed (DropAlbum id) t = record t { albums = without album_id id t.albums }
changed (DropRecording id) t = record t { recordings = without recording_id id t.recordings }
changed (DropSegments take) t = record t { segments = without segments_take take t.segments }

-- the tables after changes, of which the first is made first
abbrev pub changed_all : List Change → Tables → Tables
changed_all [] t = t
changed_all (c ∷ cs) t = changed_all cs (changed c t)

-- the numbers that come next
abbrev pub next_numbers : Tables → NextNumbers
next_numbers t = record { album = t.next_album; recording = t.next_recording; take = t.next_take }
