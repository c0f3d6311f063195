-- What an album sums to after a change of one recording.
use Rattle.std.specs.Prelude.{◌≡◌, ◌≢◌, ◌≤◌, ◌⊎◌, ℕ, true, false, map, Some}
use Rattle.std.specs.List.{AllByRecursion}
use Rattle.lib_base.specs.declared.files.Summary.{Summary}
use Rattle.lib_base.specs.declared.limits.TheConstants.{MOST_MEMBERS}
use Rattle.keeper_store.specs.Puts.{put, without, recording_id, recording_less}
use Rattle.keeper_store.specs.declared.contents.Tables.{Tables}
use Rattle.keeper_store.specs.declared.row_types.RecordingRow.{RecordingRow}
use Rattle.album_merge.specs.Tallies.{Tallied, StandsForMeasured}
use Rattle.sound_model.specs.Albums.{IsAlbumSummary}
use Rattle.library_model.specs.RowRules.{has_album, is_in_album, measured_in, member_count, members_in}
use Rattle.catalogue_rows.specs.Making.{Moves}

-- the levels of the album's recordings in these tables
abbrev pub IsSumIn : Tables → ℕ → Summary → Type 0
IsSumIn t album summary = IsAlbumSummary (map (measured_in t) (members_in album t.recordings)) summary

-- of each recording but the one of this id the same is measured in both
abbrev pub MeasuresOthers : ℕ → Tables → Tables → Type 0
MeasuresOthers id t next = AllByRecursion (λ (r : RecordingRow). r.id ≢ id → measured_in next r ≡ measured_in t r) t.recordings

-- The next tables have this recording, over the one of its id, and the others as they are.
pub record PutsRow (row : RecordingRow) (t next : Tables) : Type 0 where
  pub recordings : next.recordings ≡ put recording_less row t.recordings
  pub others : MeasuresOthers row.id t next

-- The next tables have no recording of this id, and the others as they are.
pub record DropsRow (id : ℕ) (t next : Tables) : Type 0 where
  pub recordings : next.recordings ≡ without recording_id id t.recordings
  pub others : MeasuresOthers id t next

-- The next tables have the recording of this id in the album.
pub record Comes (album id : ℕ) (t next : Tables) : Type 0 where
  pub row : RecordingRow
  pub puts : PutsRow row t next
  pub same : row.id ≡ id
  pub inside : row.album ≡ Some album

-- It comes into the album, or stays there, and the tally stands for what is measured of it then.
pub record Joins (album id : ℕ) (tally : Tallied) (t next : Tables) : Type 0 where
  pub comes : Comes album id t next
  pub stands : StandsForMeasured tally (measured_in next comes.row)

-- It comes into the album from where it is, and the same is measured of it.
pub record MovesInto (album id : ℕ) (t next : Tables) : Type 0 where
  pub comes : Comes album id t next
  pub moves : Moves comes.row t
  pub measured : measured_in next comes.row ≡ measured_in t comes.row

-- The next tables have the recording of this id elsewhere.
pub record GoesElsewhere (album id : ℕ) (t next : Tables) : Type 0 where
  pub row : RecordingRow
  pub puts : PutsRow row t next
  pub same : row.id ≡ id
  pub outside : is_in_album album row.album ≡ false

-- the next tables have the recording of this id elsewhere, or not at all
abbrev pub LeavesAlbum : (album id : ℕ) → Tables → Tables → Type 0
LeavesAlbum album id t next = GoesElsewhere album id t next ⊎ DropsRow id t next

-- The album is there, and not crowded in the next tables.
pub record HasPlaceFor (album : ℕ) (t next : Tables) : Type 0 where
  pub there : has_album album t.albums ≡ true
  pub few : member_count album next.recordings ≤ MOST_MEMBERS
