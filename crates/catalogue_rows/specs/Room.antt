-- Room for what changes put.
use Rattle.std.specs.Prelude.{◌+◌, ◌≤◌, ℕ, List, [], ◌∷◌, length, Option, IfSome, if◌then◌else◌, vec_len, vec_capacity}
use Rattle.std.specs.List.{AllByRecursion}
use Rattle.keeper_store.specs.declared.contents.Change.{Change}
use Rattle.keeper_store.specs.declared.contents.Change.TheVariants.{Counters, PutAlbum, PutRecording, PutSegments, PutReply, DropAlbum, DropRecording, DropSegments}
use Rattle.album_merge.specs.Members.{Kept}
use Rattle.kept_replies.specs.Holding as replies
use Rattle.library_model.specs.RowRules.{is_in_album}
use Rattle.catalogue_rows.specs.declared.fresh.Fresh.{Fresh}
use Rattle.catalogue_rows.specs.declared.kept.KeptAlbum.{KeptAlbum}
use Rattle.catalogue_rows.specs.declared.rows.CatalogueRows.{CatalogueRows}

-- there is room for so many rows more, in each table
pub record HasRoom (rows : CatalogueRows) (more : ℕ) : Type 0 where
  pub albums : vec_len rows.albums + more ≤ vec_capacity rows.albums
  pub recordings : vec_len rows.recordings + more ≤ vec_capacity rows.recordings
  pub replies : replies.HasRoom rows.replies more

-- each album has places for as many recordings more as are told of its id
abbrev pub HasPlaces : CatalogueRows → (ℕ → ℕ) → Type 0
HasPlaces rows more = AllByRecursion (λ (kept : KeptAlbum). more kept.row.id ≤ kept.members.spare) rows.albums.items

-- one in the album that is named, if one is, and none in another
abbrev pub one_in : Option ℕ → ℕ → ℕ
one_in album id = if is_in_album id album then 1 else 0

-- one more in the album that is named, if one is
abbrev pub and_one : Option ℕ → (ℕ → ℕ) → ℕ → ℕ
and_one album more id = one_in album id + more id

-- the album that is named, if one is and is there, has a place for a recording more
abbrev pub HasPlaceIn : CatalogueRows → Option ℕ → Type 0
HasPlaceIn rows album = HasPlaces rows (one_in album)

-- there is the room that there was
pub record KeepsRoom (old new : CatalogueRows) : Type 0 where
  pub room : (more : ℕ) → HasRoom old more → HasRoom new more
  pub places : (more : ℕ → ℕ) → HasPlaces old more → HasPlaces new more

-- how many recordings a change puts into the album of an id
abbrev pub puts_one : Change → ℕ → ℕ
puts_one (Counters album recording take) id = 0
puts_one (PutAlbum row) id = 0
puts_one (PutRecording row) id = one_in row.album id
puts_one (PutSegments row) id = 0
puts_one (PutReply row) id = 0
puts_one (DropAlbum dropped) id = 0
puts_one (DropRecording dropped) id = 0
puts_one (DropSegments take) id = 0

-- and changes do together
abbrev pub puts_into : List Change → ℕ → ℕ
puts_into [] id = 0
puts_into (c ∷ cs) id = puts_one c id + puts_into cs id

-- There is the room that changes want: a row more in each table for each, and a place for each recording that they put into an
-- album, also into a new one.
pub record HasRoomFor (rows : CatalogueRows) (fresh : Fresh) (changes : List Change) : Type 0 where
  pub room : HasRoom rows (length changes)
  pub places : HasPlaces rows (puts_into changes)
  pub new : IfSome fresh.album (λ (album : Kept). (id : ℕ) → puts_into changes id ≤ album.spare)
