-- The rows of albums whose recordings change.
use Rattle.std.specs.Prelude.{◌≡◌, ◌≢◌, ℕ, true, List, [], ◌∷◌, Option, None, Some, IfSome, is_some, ⊤}
use Rattle.album_merge.specs.Tallies.{Tallied}
use Rattle.catalogue_rows.specs.Room.{KeepsRoom}
use Rattle.catalogue_rows.specs.Trying.{HasPlaceFor, IsSumIn, Joins, LeavesAlbum, MovesInto}
use Rattle.lib_base.specs.declared.files.Summary.{Summary}
use Rattle.keeper_store.specs.declared.contents.Tables.{Tables}
use Rattle.keeper_store.specs.declared.row_types.AlbumRow.{AlbumRow}
use Rattle.library_model.specs.Batches.{IsResummed}
use Rattle.library_model.specs.RowRules.{has_album}
use Rattle.catalogue_core.specs.Kept.{HoldsAgain, numbers_of, released_of}
use Rattle.catalogue_core.specs.declared.libraries.Library.{Library}

-- The library holds what it held, with the room that there was.
pub record KeepsRows (old new : Library) : Type 0 where
  pub held : HoldsAgain old new
  pub numbers : numbers_of new ≡ numbers_of old
  pub released : released_of new ≡ released_of old
  pub room : KeepsRoom old.rows new.rows

-- The album is there, and these are its levels in the next tables.
pub record HasLevels (t next : Tables) (album : ℕ) (levels : Option Summary) : Type 0 where
  pub there : has_album album t.albums ≡ true
  pub some : is_some levels ≡ true
  pub sums : IfSome levels (IsSumIn next album)

-- the row of the album that is named, with its levels in the next tables, and none where none is named
abbrev pub IsResummedIn : Tables → Tables → Option ℕ → Option AlbumRow → Type 0
IsResummedIn t next None None = ⊤
IsResummedIn t next None (Some row) = ⊥
IsResummedIn t next (Some album) None = ⊥
IsResummedIn t next (Some album) (Some row) = IsResummed t.albums next album row

-- a recording with a new take comes into the album that is named, if one is, where there is a place for it
abbrev pub JoinsNamed : Option ℕ → ℕ → Tallied → Tables → Tables → Type 0
JoinsNamed None id tally t next = ⊤
JoinsNamed (Some album) id tally t next = Joins album id tally t next × HasPlaceFor album t next

-- a recording comes with its take into the album that is named, if one is, where there is a place for it
abbrev pub MovesIntoNamed : Option ℕ → ℕ → Tables → Tables → Type 0
MovesIntoNamed None id t next = ⊤
MovesIntoNamed (Some album) id t next = MovesInto album id t next × HasPlaceFor album t next

-- a recording leaves the album that is named, if one is, which is there
abbrev pub LeavesNamed : Option ℕ → ℕ → Tables → Tables → Type 0
LeavesNamed None id t next = ⊤
LeavesNamed (Some album) id t next = LeavesAlbum album id t next × (has_album album t.albums ≡ true)

-- an item as a list of one, or of none
abbrev pub in_list : {A : Type 0} → Option A → List A
in_list None = []
in_list (Some x) = x ∷ []
