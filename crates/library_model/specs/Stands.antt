-- What tables and blobs stand for.
use Rattle.std.specs.Prelude.{◌≡◌, ◌≤◌, ℕ, true, List, [], ◌∷◌, length, Option, Some, map, filter, fold, ⊤}
use Rattle.std.specs.List.{AllByRecursion}
use Rattle.md5.specs.Md5.{md5}
use Rattle.lib_base.specs.declared.files.Kind.{Kind}
use Rattle.lib_base.specs.declared.files.Measured.{Measured}
use Rattle.lib_base.specs.declared.files.Summary.{Summary}
use Rattle.keeper_store.specs.Blobs.{Blobs}
use Rattle.keeper_store.specs.declared.contents.Tables.{Tables}
use Rattle.keeper_store.specs.declared.row_types.AlbumRow.{AlbumRow}
use Rattle.keeper_store.specs.declared.row_types.RecordingRow.{RecordingRow}
use Rattle.keeper_store.specs.declared.row_types.SegmentRow.{SegmentRow}
use Rattle.keeper_store.specs.declared.row_types.ReplyRow.{ReplyRow}
use Rattle.keeper_store.specs.EnergyBytes.{row_bytes}
use Rattle.keeper_store.specs.Puts.{put, segments_less}
use Rattle.sound_model.specs.Albums.{IsAlbumSummary}
use Rattle.library_model.specs.declared.limits.TheConstants.{MOST_BODY_BYTES}
use Rattle.library_model.specs.declared.messages.Command.{Command}
use Rattle.library_model.specs.declared.messages.Command.TheVariants.{NewAlbum, Import, Retake, Regroup, RemoveRecording, RemoveAlbum}
use Rattle.library_model.specs.Asked.{Asked, Wanted, change, command, malformed, question, refused}
use Rattle.library_model.specs.Findings.{Finds, kind_of, measured, measured_of}
use Rattle.library_model.specs.InOrder.{AreInOrder}
use Rattle.library_model.specs.Names.{is_name, is_token}
use Rattle.library_model.specs.RowRules.{is_in_album}
use Rattle.library_model.specs.State.{Album, Kept, Recording, State}

-- ---- albums and their recordings

-- the recordings in an album, in ascending order of id
abbrev pub members : ℕ → List Recording → List Recording
members id recordings = filter (λ (r : Recording). is_in_album id r.album) recordings

-- what is measured of recordings
abbrev pub measured_all : List Recording → List Measured
measured_all recordings = map (λ (r : Recording). measured_of r.sound) recordings

-- an album has the levels of its recordings
abbrev pub IsSummed : List Recording → Album → Type 0
IsSummed recordings album = IsAlbumSummary (measured_all (members album.id recordings)) album.summary

-- The second albums are the first with the levels of these recordings: each has the id and the name that it had.
abbrev pub Resums : List Recording → List Album → List Album → Type 0
Resums recordings [] [] = ⊤
Resums recordings [] (next ∷ nexts) = ⊥
Resums recordings (album ∷ albums) [] = ⊥
Resums recordings (album ∷ albums) (next ∷ nexts) =
    (next.id ≡ album.id) × (next.name ≡ album.name) × IsSummed recordings next × Resums recordings albums nexts

-- ---- the tables of a state

-- the row of an album; only this word writes such a row
abbrev pub album_row : Album → AlbumRow
album_row a = record { id = a.id; name = a.name; summary = a.summary }

-- the row of a kept reply; only this word writes such a row
abbrev pub reply_row : Kept → ReplyRow
reply_row k = record { token = k.token; mark = k.mark; status = k.status; body = k.body }

-- The row of a recording: its id, the album that it is in, its name, its take, and the MD5 of its file (RFC 1321), beside its
-- channels, the bits of a sample, and its levels. Only this word writes such a row.
abbrev pub row_of : ℕ → Option ℕ → List ℕ → ℕ → Kind → List ℕ → Measured → Summary → RecordingRow
row_of id album name take kind digest m summary = record {
  id = id;
  album = album;
  name = name;
  take = take;
  kind = kind;
  channels = m.channels;
  depth = m.depth;
  digest = digest;
  summary = summary;
}

-- the row of a recording
abbrev pub recording_row : Recording → RecordingRow
recording_row r = row_of r.id r.album r.name r.take (kind_of r.file) (md5 r.file) (measured_of r.sound) r.summary

-- the row of the energies of a take's segments, 11 bytes each; only this word writes such a row
abbrev pub segments_of : ℕ → Measured → SegmentRow
segments_of take m = record { take = take; energies = row_bytes m.energies }

-- that of a recording
abbrev pub segment_row : Recording → SegmentRow
segment_row r = segments_of r.take (measured_of r.sound)

-- the rows of the segments of recordings, each put in its place
abbrev pub segment_rows : List Recording → List SegmentRow
segment_rows recordings = fold (λ (rows : List SegmentRow) (r : Recording). put segments_less (segment_row r) rows) [] recordings

-- the tables of a state
abbrev pub tables_of : State → Tables
tables_of s = record {
  next_album = s.next_album;
  next_recording = s.next_recording;
  next_take = s.next_take;
  albums = map album_row s.albums;
  recordings = map recording_row s.recordings;
  segments = segment_rows s.recordings;
  replies = map reply_row s.replies;
}

-- ---- what tables and blobs stand for

-- a file is no longer than the body of a request may be
abbrev pub IsWithinLimit : List ℕ → Type 0
IsWithinLimit file = length file ≤ MOST_BODY_BYTES

-- a recording's file is within the limit, and reads as its sound, which has its levels
abbrev pub IsFound : Recording → Type 0
IsFound r = IsWithinLimit r.file × Finds r.file (measured r.sound r.summary)

-- A state is valid: its tables are in order, each file reads as its sound, which has its levels, and each album has the levels of its
-- recordings.
pub record IsValid (s : State) : Type 0 where
  pub rows : AreInOrder (tables_of s)
  pub files : AllByRecursion IsFound s.recordings
  pub summed : AllByRecursion (IsSummed s.recordings) s.albums

-- the file of each recording is kept under its take
abbrev pub HoldsFiles : Blobs → List Recording → Type 0
HoldsFiles blobs recordings = AllByRecursion (λ (r : Recording). blobs r.take ≡ Some r.file) recordings

-- what a command brings has its form: its name is one, and its file is within the limit
abbrev pub BringsWithin : Command → Type 0
BringsWithin (NewAlbum name) = is_name name ≡ true
BringsWithin (Import album name file) = (is_name name ≡ true) × IsWithinLimit file
BringsWithin (Retake recording file) = IsWithinLimit file
BringsWithin (Regroup recording album) = ⊤
BringsWithin (RemoveRecording recording) = ⊤
BringsWithin (RemoveAlbum album) = ⊤

-- so has what a change wants
abbrev pub WantsWithin : Wanted → Type 0
WantsWithin (malformed reply) = ⊤
WantsWithin (command wanted) = BringsWithin wanted

-- and what is asked, and its token is one
abbrev pub AsksWithin : Asked → Type 0
AsksWithin (refused reply) = ⊤
AsksWithin (question about) = ⊤
AsksWithin (change token mark wanted) = (is_token token ≡ true) × WantsWithin wanted

-- the key holds the file that a command brings, where it brings one
abbrev pub HoldsFileOf : Command → ℕ → Blobs → Type 0
HoldsFileOf (NewAlbum name) key blobs = ⊤
HoldsFileOf (Import album name file) key blobs = blobs key ≡ Some file
HoldsFileOf (Retake recording file) key blobs = blobs key ≡ Some file
HoldsFileOf (Regroup recording album) key blobs = ⊤
HoldsFileOf (RemoveRecording recording) key blobs = ⊤
HoldsFileOf (RemoveAlbum album) key blobs = ⊤

-- the key holds the file that is brought with what is wanted, where one is
abbrev pub HoldsWanted : Wanted → ℕ → Blobs → Type 0
HoldsWanted (malformed reply) key blobs = ⊤
HoldsWanted (command wanted) key blobs = HoldsFileOf wanted key blobs

-- Tables and blobs stand for a state: a valid one, whose tables and files they are. Other keys may hold anything or nothing.
pub record Stands (tables : Tables) (blobs : Blobs) (s : State) : Type 0 where
  pub valid : IsValid s
  pub rows : tables ≡ tables_of s
  pub files : HoldsFiles blobs s.recordings
