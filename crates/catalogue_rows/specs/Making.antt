-- Which changes rows in memory can make.
use Rattle.std.specs.Prelude.{◌≡◌, ◌≢◌, ◌≤◌, ◌==◌, ◌⊎◌, ℕ, true, List, [], ◌∷◌, Option, None, Some, IfSome, ⊤}
use Rattle.std.specs.List.{AllByRecursion, find}
use Rattle.lib_base.specs.declared.limits.TheConstants.{MOST_MEMBERS}
use Rattle.keeper_store.specs.Changes.{changed}
use Rattle.keeper_store.specs.Puts.{put, recording_less}
use Rattle.keeper_store.specs.declared.contents.Change.{Change}
use Rattle.keeper_store.specs.declared.contents.Change.TheVariants.{Counters, PutAlbum, PutRecording, PutSegments, PutReply, DropAlbum, DropRecording, DropSegments}
use Rattle.keeper_store.specs.declared.contents.Tables.{Tables}
use Rattle.keeper_store.specs.declared.row_types.AlbumRow.{AlbumRow}
use Rattle.keeper_store.specs.declared.row_types.RecordingRow.{RecordingRow}
use Rattle.album_merge.specs.Members.{Kept, IsAlbumOf}
use Rattle.album_merge.specs.Tallies.{Tallied, StandsForMeasured}
use Rattle.library_model.specs.RowRules.{album_is_there, has_album, measured_in, member_count, members_in}
use Rattle.catalogue_rows.specs.declared.fresh.Fresh.{Fresh}

-- no recording names the take
abbrev pub IsUnnamed : ℕ → Tables → Type 0
IsUnnamed take t = AllByRecursion (λ (r : RecordingRow). r.take ≢ take) t.recordings

-- no recording is in the album of this id
abbrev pub HasNoMembers : ℕ → Tables → Type 0
HasNoMembers id t = members_in id t.recordings ≡ []

-- The recording is there already, in an album that is there or in none, and the same is measured of it: so its tally moves with it.
pub record Moves (row : RecordingRow) (t : Tables) : Type 0 where
  pub before : RecordingRow
  pub there : find (λ (r : RecordingRow). r.id == row.id) t.recordings ≡ Some before
  pub home : album_is_there before.album t.albums ≡ true
  pub measured : measured_in t row ≡ measured_in t before

-- a new tally stands for what is measured of the recording; with none, it moves with its own
abbrev pub HasTally : Option Tallied → RecordingRow → Tables → Type 0
HasTally None row t = Moves row t
HasTally (Some tally) row t = StandsForMeasured tally (measured_in t row)

-- A recording can be put: the album that it names, if it names one, is there and not crowded with it, and it has a tally.
pub record FitsRecording (row : RecordingRow) (tally : Option Tallied) (t : Tables) : Type 0 where
  pub there : album_is_there row.album t.albums ≡ true
  pub few : IfSome row.album (λ album. member_count album (put recording_less row t.recordings) ≤ MOST_MEMBERS)
  pub its : HasTally tally row t

-- an album of no recording
abbrev pub IsEmptyAlbum : Option Kept → Type 0
IsEmptyAlbum None = ⊥
IsEmptyAlbum (Some album) = IsAlbumOf album []

-- An album's row can be put: over that of its id, or with a new album that no recording names.
abbrev pub FitsAlbum : AlbumRow → Option Kept → Tables → Type 0
FitsAlbum row album t = (has_album row.id t.albums ≡ true) ⊎ (HasNoMembers row.id t × IsEmptyAlbum album)

-- A change can be made of these tables, with what is new. Segments come and go under takes that no recording names.
abbrev pub FitsChange : Change → Fresh → Tables → Type 0
FitsChange (Counters album recording take) fresh t = ⊤
FitsChange (PutAlbum row) fresh t = FitsAlbum row fresh.album t
FitsChange (PutRecording row) fresh t = FitsRecording row fresh.tally t
FitsChange (PutSegments row) fresh t = IsUnnamed row.take t
FitsChange (PutReply row) fresh t = ⊤
FitsChange (DropAlbum id) fresh t = ⊤
FitsChange (DropRecording id) fresh t = ⊤
FitsChange (DropSegments take) fresh t = IsUnnamed take t

-- what a change leaves of what is new: a recording that is put takes the tally, and an album the album
abbrev pub left_of : Change → Fresh → Fresh
left_of (Counters album recording take) fresh = fresh
left_of (PutAlbum row) fresh = record fresh { album = None }
left_of (PutRecording row) fresh = record fresh { tally = None }
left_of (PutSegments row) fresh = fresh
left_of (PutReply row) fresh = fresh
left_of (DropAlbum id) fresh = fresh
left_of (DropRecording id) fresh = fresh
left_of (DropSegments take) fresh = fresh

-- changes can be made one after another
abbrev pub FitsAll : List Change → Fresh → Tables → Type 0
FitsAll [] fresh t = ⊤
FitsAll (c ∷ cs) fresh t = FitsChange c fresh t × FitsAll cs (left_of c fresh) (changed c t)
