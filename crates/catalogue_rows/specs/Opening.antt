-- Tables opened row by row.
use Rattle.std.specs.Prelude.{◌≡◌, ◌<◌, ℕ, true, List, Option, None, Some, length, Contains, if◌then◌else◌, ◌==◌, ◌⊎◌, ⊤}
use Rattle.std.specs.List.{AllByRecursion, AllZip}
use Rattle.lib_base.specs.declared.files.Measured.{Measured}
use Rattle.lib_base.specs.declared.limits.TheConstants.{MOST_MEMBERS}
use Rattle.keeper_store.specs.declared.contents.Tables.{Tables}
use Rattle.keeper_store.specs.declared.row_types.AlbumRow.{AlbumRow}
use Rattle.keeper_store.specs.declared.row_types.RecordingRow.{RecordingRow}
use Rattle.album_merge.specs.Members.{Kept, IsAlbumOf, ids_of, with_recording}
use Rattle.album_merge.specs.Tallies.{Tallied}
use Rattle.library_model.specs.declared.bad_rows.BadRow.{BadRow}
use Rattle.library_model.specs.RowRules.{measured_in, is_in_album, IsFirstBad, IsFirstWithout, IsSummedAlbum, IsSummedRecording, other_album_summary, other_recording_summary}
use Rattle.catalogue_rows.specs.declared.building.Built.{Built}
use Rattle.catalogue_rows.specs.declared.opening.NotOpened.{NotOpened}
use Rattle.catalogue_rows.specs.declared.opening.NotOpened.TheVariants.{BadRow as Bad, Memory}
use Rattle.catalogue_rows.specs.Holding.{HasOwn, album_of}

-- the first of the rows of which a fact does not hold, if there is one
abbrev pub IsFirstOther : {A : Type 0} → (A → Type 0) → (A → BadRow) → List A → Option BadRow → Type 0
IsFirstOther Fact told rows None = AllByRecursion Fact rows
IsFirstOther Fact told rows (Some bad) = IsFirstWithout Fact told rows bad

-- a row has not the fact, and is told as this bad row, or it has
abbrev pub IsOther : Type 0 → BadRow → Option BadRow → Type 0
IsOther Fact told None = Fact
IsOther Fact told (Some bad) = (¬ Fact) × (bad ≡ told)

-- what albums have by their ids, with a recording more in this one
abbrev pub with_one : (album id : ℕ) → Measured → (ℕ → List (ℕ × Measured)) → ℕ → List (ℕ × Measured)
with_one album id measured of other = if album == other then with_recording id measured (of other) else of other

-- and with that of a row, where it is in an album
abbrev pub with_row : RecordingRow → Measured → (ℕ → List (ℕ × Measured)) → ℕ → List (ℕ × Measured)
with_row row measured of other = if is_in_album other row.album then with_recording row.id measured (of other) else of other

-- albums, one for each row, stand for what each has by its id
abbrev pub AreAlbumsOf : (ℕ → List (ℕ × Measured)) → List AlbumRow → List Kept → Type 0
AreAlbumsOf of rows albums = AllZip (λ (row : AlbumRow) (album : Kept). IsAlbumOf album (of row.id)) rows albums

-- tallies, one for each row, stand for what is measured where they are
abbrev pub AreOwn : Tables → List RecordingRow → List (Option Tallied) → Type 0
AreOwn t rows tallies = AllZip (λ (row : RecordingRow) tally. HasOwn row.album tally (measured_in t row)) rows tallies

-- The rows of recordings that were seen are in their albums, or have their own tallies, and the first with another summary is told.
pub record IsBuilt (t : Tables) (seen : List RecordingRow) (built : Built) : Type 0 where
  pub albums : AreAlbumsOf (album_of t seen) t.albums built.albums.items
  pub tallies : AreOwn t seen built.tallies.items
  pub other : IsFirstOther (IsSummedRecording t) other_recording_summary seen built.other

-- all summaries are those of what the tables have
abbrev pub AreSummed : Tables → Type 0
AreSummed t = AllByRecursion (IsSummedAlbum t) t.albums × AllByRecursion (IsSummedRecording t) t.recordings

-- the first row, of albums and then of recordings, with another summary than its own
abbrev pub IsFirstSummary : Tables → BadRow → Type 0
IsFirstSummary t bad =
    IsFirstWithout (IsSummedAlbum t) other_album_summary t.albums bad
    ⊎ (AllByRecursion (IsSummedAlbum t) t.albums × IsFirstWithout (IsSummedRecording t) other_recording_summary t.recordings bad)

-- no row, or the first, with another summary
abbrev pub IsFirstAnswer : Tables → Option BadRow → Type 0
IsFirstAnswer t None = AreSummed t
IsFirstAnswer t (Some bad) = IsFirstSummary t bad

-- a refusal for a bad row tells the first one
abbrev pub TellsBad : Tables → NotOpened → Type 0
TellsBad t (Bad bad) = IsFirstBad t (Some bad)
TellsBad t Memory = ⊤

-- an album that has not this id, and fewer recordings than it can have
pub record HasPlace (id : ℕ) (album : Kept) : Type 0 where
  pub fresh : ¬ Contains (ids_of album) id
  pub few : length (ids_of album) < MOST_MEMBERS

-- of albums, one for each row, that of this id has a place
abbrev pub HavePlace : (album : Option ℕ) (id : ℕ) → List AlbumRow → List Kept → Type 0
HavePlace album id rows albums =
    AllZip (λ (row : AlbumRow) (kept : Kept). is_in_album row.id album ≡ true → HasPlace id kept) rows albums
