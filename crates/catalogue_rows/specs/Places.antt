-- Albums with their tallies, of which one changes.
use Rattle.std.specs.Prelude.{◌≡◌, ◌<◌, ◌≤◌, ◌==◌, ℕ, List, length, map, Option, None, Some, IfSome, if◌then◌else◌, Vec, vec_len, vec_capacity}
use Rattle.std.specs.List.{AllByRecursion}
use Rattle.lib_base.specs.declared.files.Measured.{Measured}
use Rattle.lib_base.specs.declared.limits.TheConstants.{MOST_MEMBERS}
use Rattle.keeper_store.specs.declared.contents.Tables.{Tables}
use Rattle.keeper_store.specs.Changes.{next_numbers}
use Rattle.keeper_store.specs.Puts.{without, recording_id}
use Rattle.album_merge.specs.Members.{IsAlbumOf, with_recording, without_recording}
use Rattle.album_merge.specs.Tallies.{Tallied, StandsForMeasured}
use Rattle.kept_replies.specs.Holding as replies
use Rattle.library_model.specs.RowRules.{is_in_album}
use Rattle.catalogue_rows.specs.declared.kept.KeptAlbum.{KeptAlbum}
use Rattle.catalogue_rows.specs.declared.kept.KeptRecording.{KeptRecording}
use Rattle.catalogue_rows.specs.declared.rows.CatalogueRows.{CatalogueRows}
use Rattle.catalogue_rows.specs.Holding.{IsBeside, album_of, album_row, numbers_of, recording_row}
use Rattle.catalogue_rows.specs.KeptOrders.{kept_recording_id}
use Rattle.catalogue_rows.specs.Room.{and_one}

-- each album stands for what is told of its id
abbrev pub AreMembersOf : (ℕ → List (ℕ × Measured)) → List KeptAlbum → Type 0
AreMembersOf of albums = AllByRecursion (λ (kept : KeptAlbum). IsAlbumOf kept.members (of kept.row.id)) albums

-- each has places for as many recordings more as are told of its id
abbrev pub HavePlaces : (ℕ → ℕ) → List KeptAlbum → Type 0
HavePlaces more albums = AllByRecursion (λ (kept : KeptAlbum). more kept.row.id ≤ kept.members.spare) albums

-- without a recording in one album
abbrev pub without_one : (album id : ℕ) → (ℕ → List (ℕ × Measured)) → ℕ → List (ℕ × Measured)
without_one album id of other = if album == other then without_recording id (of other) else of other

-- with a recording in the album that is named, if one is, over the one of its id
abbrev pub with_over : Option ℕ → ℕ → Measured → (ℕ → List (ℕ × Measured)) → ℕ → List (ℕ × Measured)
with_over album id measured of other =
    if is_in_album other album then with_recording id measured (without_recording id (of other)) else of other

-- the album that is named, if one is, is not full without a recording
abbrev pub IsFewIn : Option ℕ → ℕ → (ℕ → List (ℕ × Measured)) → Type 0
IsFewIn album id of = IfSome album (λ named. length (without_recording id (of named)) < MOST_MEMBERS)

-- the rows of the albums, their number and the room for them are as they were
pub record AreKept {Z : Type 0} (old new : Vec KeptAlbum Z) : Type 0 where
  pub rows : map album_row new.items ≡ map album_row old.items
  pub len : vec_len new ≡ vec_len old
  pub capacity : vec_capacity new ≡ vec_capacity old

-- The rows hold these tables, but the tally of the recording of this id is neither in its album nor beside it.
pub record HoldsBut (rows : CatalogueRows) (id : ℕ) (t : Tables) : Type 0 where
  pub numbers : numbers_of rows ≡ next_numbers t
  pub albums : map album_row rows.albums.items ≡ t.albums
  pub recordings : map recording_row rows.recordings.items ≡ t.recordings
  pub replies : replies.Holds rows.replies t.replies
  pub in_albums : AreMembersOf (album_of t (without recording_id id t.recordings)) rows.albums.items
  pub beside : AllByRecursion (IsBeside t) (without kept_recording_id id rows.recordings.items)

-- the albums have the places that are told, and that of the recording of this id, if it is in one, has one more for it
abbrev pub HasHome : CatalogueRows → ℕ → (ℕ → ℕ) → Type 0
HasHome rows id more =
    HavePlaces more rows.albums.items
    × AllByRecursion (λ (kept : KeptRecording). kept.row.id ≡ id → HavePlaces (and_one kept.row.album more) rows.albums.items)
    rows.recordings.items

-- a tally that stands for what is measured
abbrev pub IsTallyOf : Option Tallied → Measured → Type 0
IsTallyOf None measured = ⊥
IsTallyOf (Some tally) measured = StandsForMeasured tally measured
