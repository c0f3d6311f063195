-- What rows in memory hold, with the tallies of their recordings.
use Rattle.std.specs.Prelude.{◌≡◌, ℕ, List, Option, None, Some, map, ⊤}
use Rattle.std.specs.List.{AllByRecursion}
use Rattle.lib_base.specs.declared.files.Measured.{Measured}
use Rattle.keeper_store.specs.Changes.{next_numbers}
use Rattle.keeper_store.specs.declared.contents.NextNumbers.{NextNumbers}
use Rattle.keeper_store.specs.declared.contents.Tables.{Tables}
use Rattle.keeper_store.specs.declared.row_types.AlbumRow.{AlbumRow}
use Rattle.keeper_store.specs.declared.row_types.RecordingRow.{RecordingRow}
use Rattle.album_merge.specs.Members.{Kept, IsAlbumOf}
use Rattle.album_merge.specs.Tallies.{Tallied, StandsForMeasured}
use Rattle.library_model.specs.RowRules.{measured_in, members_in}
use Rattle.kept_replies.specs.Holding as replies
use Rattle.catalogue_rows.specs.declared.kept.KeptAlbum.{KeptAlbum}
use Rattle.catalogue_rows.specs.declared.kept.KeptRecording.{KeptRecording}
use Rattle.catalogue_rows.specs.declared.rows.CatalogueRows.{CatalogueRows}

-- the rows of what is kept
abbrev pub album_row : KeptAlbum → AlbumRow
album_row kept = kept.row

abbrev pub recording_row : KeptRecording → RecordingRow
recording_row kept = kept.row

-- what is kept beside them
abbrev pub album_members : KeptAlbum → Kept
album_members kept = kept.members

abbrev pub own_tally : KeptRecording → Option Tallied
own_tally kept = kept.tally

-- the recordings of an album among rows, by their ids, each with what the tables have as measured of it
abbrev pub album_of : Tables → List RecordingRow → ℕ → List (ℕ × Measured)
album_of t rows id = map (λ (r : RecordingRow). (r.id, measured_in t r)) (members_in id rows)

-- a recording in no album has a tally of its own, and one in an album has none
abbrev pub HasOwn : Option ℕ → Option Tallied → Measured → Type 0
HasOwn None None measured = ⊥
HasOwn None (Some tally) measured = StandsForMeasured tally measured
HasOwn (Some album) None measured = ⊤
HasOwn (Some album) (Some tally) measured = ⊥

-- the album stands for its recordings
abbrev pub IsInAlbum : Tables → KeptAlbum → Type 0
IsInAlbum t kept = IsAlbumOf kept.members (album_of t t.recordings kept.row.id)

-- the recording's tally, where it has one of its own, stands for what is measured of it
abbrev pub IsBeside : Tables → KeptRecording → Type 0
IsBeside t kept = HasOwn kept.row.album kept.tally (measured_in t kept.row)

-- the numbers that come next
abbrev pub numbers_of : CatalogueRows → NextNumbers
numbers_of rows = record { album = rows.next_album; recording = rows.next_recording; take = rows.next_take }

-- The rows hold these tables. They keep no segments: their tallies stand for them.
pub record Holds (rows : CatalogueRows) (t : Tables) : Type 0 where
  pub numbers : numbers_of rows ≡ next_numbers t
  pub albums : map album_row rows.albums.items ≡ t.albums
  pub recordings : map recording_row rows.recordings.items ≡ t.recordings
  pub replies : replies.Holds rows.replies t.replies
  pub in_albums : AllByRecursion (IsInAlbum t) rows.albums.items
  pub beside : AllByRecursion (IsBeside t) rows.recordings.items
