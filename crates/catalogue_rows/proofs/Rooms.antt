-- Room that is left.
use Rattle.std.proofs.Common.{◌≡◌, ◌≤◌, ◌+◌, ℕ, List, [], ◌∷◌, length, Option, None, Some, subst, arith}
use Rattle.std.specs.Prelude.{IfSome}
use Rattle.keeper_store.specs.declared.contents.Change.{Change}
use Rattle.keeper_store.specs.declared.contents.Change.TheVariants.{PutAlbum}
use Rattle.keeper_store.specs.declared.row_types.AlbumRow.{AlbumRow}
use Rattle.album_merge.specs.Members.{Kept}
use Rattle.catalogue_rows.specs.declared.fresh.Fresh.{Fresh}
use Rattle.catalogue_rows.specs.declared.rows.CatalogueRows.{CatalogueRows}
use Rattle.catalogue_rows.specs.Room.{HasPlaces, HasRoom, HasRoomFor, puts_into, puts_one}
use Rattle.catalogue_rows.proofs.Laws.{places_less}

-- room for so many is room for fewer
pub less_room : (rows : CatalogueRows) (more less : ℕ) → less ≤ more → HasRoom rows more → HasRoom rows less
less_room rows more less fewer has = record {
  albums = omega (arith, fewer, has.albums);
  recordings = omega (arith, fewer, has.recordings);
  replies = omega (arith, fewer, has.replies);
}

-- a new album with places for more has them for fewer
pub new_less : (album : Option Kept) (more less : ℕ → ℕ) → ((id : ℕ) → less id ≤ more id) → IfSome album (λ a. (id : ℕ) → more id ≤ a.spare)
    → IfSome album (λ a. (id : ℕ) → less id ≤ a.spare)
new_less None more less fewer has = tt
new_less (Some a) more less fewer has = λ id. let few = fewer id in let its = has id in omega (arith, few, its)

-- room for changes is room for the first of them
pub first_room : (rows : CatalogueRows) (fresh : Fresh) (c : Change) (cs : List Change) → HasRoomFor rows fresh (c ∷ cs)
    → HasRoomFor rows fresh (c ∷ [])
first_room rows fresh c cs has = record {
  room = less_room rows (length (c ∷ cs)) 1 (omega arith) has.room;
  places = places_less (puts_into (c ∷ cs)) (puts_into (c ∷ [])) rows.albums.items (λ id. omega arith) has.places;
  new = new_less fresh.album (puts_into (c ∷ cs)) (puts_into (c ∷ [])) (λ id. omega arith) has.new;
}

-- After a change that keeps all room but for a row, there is room for the changes behind it.
pub room_after : (rows next : CatalogueRows) (fresh left : Fresh) (c : Change) (cs : List Change)
    → ((more : ℕ) → HasRoom rows (more + 1) → HasRoom next more) → (HasPlaces rows (puts_into (c ∷ cs)) → HasPlaces next (puts_into cs))
    → (IfSome fresh.album (λ a. (id : ℕ) → puts_into (c ∷ cs) id ≤ a.spare) → IfSome left.album (λ a. (id : ℕ) → puts_into cs id ≤ a.spare))
    → HasRoomFor rows fresh (c ∷ cs) → HasRoomFor next left cs
room_after rows next fresh left c cs room places new has = record {
  room = room (length cs) (less_room rows (length (c ∷ cs)) (length cs + 1) (omega arith) has.room);
  places = places has.places;
  new = new has.new;
}

-- After one that puts no recording into an album, the same places are there.
pub room_same : (rows next : CatalogueRows) (fresh : Fresh) (c : Change) (cs : List Change) → ((id : ℕ) → puts_one c id ≡ 0)
    → ((more : ℕ) → HasRoom rows (more + 1) → HasRoom next more) → ((more : ℕ → ℕ) → HasPlaces rows more → HasPlaces next more)
    → HasRoomFor rows fresh (c ∷ cs) → HasRoomFor next fresh cs
room_same rows next fresh c cs none room places has =
    room_after rows next fresh fresh c cs room
    (λ all. places (puts_into cs)
    (places_less (puts_into (c ∷ cs)) (puts_into cs) rows.albums.items (λ id. omega arith) all))
    (new_less fresh.album (puts_into (c ∷ cs)) (puts_into cs) (λ id. omega arith)) has

-- the room that is kept, told with one row more
pub room_or_less : (rows next : CatalogueRows) → ((more : ℕ) → HasRoom rows more → HasRoom next more) → (more : ℕ) → HasRoom rows (more + 1)
    → HasRoom next more
room_or_less rows next keeps more has = keeps more (less_room rows (more + 1) more (omega arith) has)

-- After an album's row is put, with what is new.
pub room_album : (rows next : CatalogueRows) (fresh : Fresh) (row : AlbumRow) (cs : List Change)
    → ((more : ℕ) → HasRoom rows (more + 1) → HasRoom next more)
    → ((more : ℕ → ℕ) → HasPlaces rows more → IfSome fresh.album (λ a. more row.id ≤ a.spare) → HasPlaces next more)
    → HasRoomFor rows fresh (PutAlbum row ∷ cs) → HasRoomFor next (record fresh { album = None }) cs
room_album rows next fresh row cs room places has = record {
  room = room (length cs) (less_room rows (length (PutAlbum row ∷ cs)) (length cs + 1) (omega arith) has.room);
  places = places (puts_into cs)
      (places_less (puts_into (PutAlbum row ∷ cs)) (puts_into cs) rows.albums.items (λ id. omega arith) has.places) (spare fresh.album has.new);
  new = tt;
}
  where
    spare : (album : Option Kept) → IfSome album (λ a. (id : ℕ) → puts_into (PutAlbum row ∷ cs) id ≤ a.spare)
        → IfSome album (λ a. puts_into cs row.id ≤ a.spare)
    spare None its = tt
    spare (Some a) its = let at = its row.id in omega (arith, at)
