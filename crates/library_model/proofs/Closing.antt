-- Albums that get other levels, row by row.
use Rattle.std.proofs.Common.{◌≡◌, ◌==◌, ◌∙◌, ℕ, Bool, true, false, cond, nat_lt, Option, None, Some, List, [], ◌∷◌, ◌++◌, map, refl, sym, ap, subst, arith}
use Rattle.std.specs.Prelude.{⊤}
use Rattle.std.specs.List.{AllByRecursion, list_any}
use Rattle.std.specs.Option.{option_map}
use Rattle.std.proofs.lemmas.Bool.Decides.{nat_tests}
use Rattle.lib_base.specs.declared.files.Measured.{Measured}
use Rattle.keeper_store.specs.Changes.{changed, changed_all}
use Rattle.keeper_store.specs.Orders.{albums_in_order}
use Rattle.keeper_store.specs.Puts.{Ascends, IsOrder, album_less, put}
use Rattle.keeper_store.specs.declared.contents.Change.{Change}
use Rattle.keeper_store.specs.declared.contents.Change.TheVariants.{PutAlbum}
use Rattle.keeper_store.specs.declared.contents.Tables.{Tables}
use Rattle.keeper_store.specs.declared.row_types.AlbumRow.{AlbumRow}
use Rattle.keeper_store.proofs.Putting.{Ascends-put, map-put}
use Rattle.sound_model.specs.Albums.{IsAlbumSummary}
use Rattle.library_model.specs.Batches.{AreResummed, IsResummed}
use Rattle.library_model.specs.Machine.{album_of, with_albums}
use Rattle.library_model.specs.RowRules.{IsSummedAlbum, measured_in, members_in}
use Rattle.library_model.specs.Stands.{IsSummed, Resums, album_row, measured_all, members, tables_of}
use Rattle.library_model.specs.State.{Album, Recording, State, album_before}
use Rattle.library_model.proofs.Imports.{AllByRecursion-weaker}
use Rattle.library_model.proofs.Looking.{album_named, found_albums}

-- ---- the albums of rows

-- the album of a row
abbrev pub album_in : AlbumRow → Album
album_in row = record { id = row.id; name = row.name; summary = row.summary }

-- albums with those of rows put over them
abbrev pub put_over : List AlbumRow → List Album → List Album
put_over [] albums = albums
put_over (row ∷ rows) albums = put_over rows (put album_before (album_in row) albums)

-- The tables with these albums are the changes of their rows.
pub tables_of-put_over : (rows : List AlbumRow) (u : State)
    → changed_all (map PutAlbum rows) (tables_of u) ≡ tables_of (with_albums u (put_over rows u.albums))
tables_of-put_over [] u = refl
tables_of-put_over (row ∷ rows) u =
    ap (λ (albums : List AlbumRow). changed_all (map PutAlbum rows) (record (tables_of u) { albums = albums }))
    (sym (map-put album_before album_less album_row (λ a b. refl) (album_in row) u.albums))
    ∙ tables_of-put_over rows (with_albums u (put album_before (album_in row) u.albums))

-- changes after changes
pub changed_all-append : (xs ys : List Change) (t : Tables) → changed_all (xs ++ ys) t ≡ changed_all ys (changed_all xs t)
changed_all-append [] ys t = refl
changed_all-append (x ∷ xs) ys t = changed_all-append xs ys (changed x t)

pub albums_before_in_order : IsOrder album_before
albums_before_in_order = record {
  chain = λ a b c. albums_in_order.chain (album_row a) (album_row b) (album_row c);
  level = λ a b c. albums_in_order.level (album_row a) (album_row b) (album_row c);
}

-- ---- albums of the same ids and names

-- each album has the id and the name of the one in its place
abbrev pub Alike : List Album → List Album → Type 0
Alike [] [] = ⊤
Alike [] (b ∷ bs) = ⊥
Alike (a ∷ olds) [] = ⊥
Alike (a ∷ olds) (b ∷ bs) = (b.id ≡ a.id) × (b.name ≡ a.name) × Alike olds bs

pub Alike-same : (olds : List Album) → Alike olds olds
Alike-same [] = tt
Alike-same (a ∷ olds) = (refl, refl, Alike-same olds)

Alike-then : (olds bs cs : List Album) → Alike olds bs → Alike bs cs → Alike olds cs
Alike-then [] [] [] one other = tt
Alike-then [] [] (c ∷ cs) one other = absurd other
Alike-then [] (b ∷ bs) cs one other = absurd one
Alike-then (a ∷ olds) [] cs one other = absurd one
Alike-then (a ∷ olds) (b ∷ bs) [] one other = absurd other
Alike-then (a ∷ olds) (b ∷ bs) (c ∷ cs) one other = (other.0 ∙ one.0, other.1 ∙ one.1, Alike-then olds bs cs one.2 other.2)

-- the one of an id has the name that it had
Alike-found : (olds bs : List Album) (id : ℕ) (a : Album) → Alike olds bs → album_of id olds ≡ Some a
    → (b : Album) × (album_of id bs ≡ Some b) × (b.name ≡ a.name)
Alike-found [] bs id a alike is = absurd (cc is)
Alike-found (x ∷ olds) [] id a alike is = absurd alike
Alike-found (x ∷ olds) (y ∷ bs) id a alike is =
    cases (x.id == id) (ap (λ (n : ℕ). n == id) alike.0) (Alike-found olds bs id a alike.2) is
  where
    cases : (here : Bool) → (y.id == id) ≡ here
        → (album_of id olds ≡ Some a → (b : Album) × (album_of id bs ≡ Some b) × (b.name ≡ a.name))
        → cond here (Some x) (album_of id olds) ≡ Some a → (b : Album) × (album_of id (y ∷ bs) ≡ Some b) × (b.name ≡ a.name)
    cases true same rest is =
        let one : x ≡ a = cc is in (y, rw same refl, alike.1 ∙ ap (λ (z : Album). z.name) one)
    cases false same rest is =
        let found = rest is in (found.0, rw same found.1, found.2)

-- An album put over one of its id and its name leaves ids and names.
Alike-put : (new : Album) (bs : List Album) (b : Album) → Ascends album_before bs → album_of new.id bs ≡ Some b → new.name ≡ b.name
    → Alike bs (put album_before new bs)
Alike-put new [] b rise is name = absurd (cc is)
Alike-put new (x ∷ bs) b rise is name =
    cases (nat_lt x.id new.id) (nat_lt new.id x.id) (x.id == new.id) refl refl refl
    (λ found. Alike-put new bs b rise.1 found name) is
  where
    later : (rest : List Album) → nat_lt new.id x.id ≡ true → AllByRecursion (λ (y : Album). nat_lt x.id y.id ≡ true) rest
        → album_of new.id rest ≡ Some b → ⊥
    later [] above rise found = absurd (cc found)
    later (y ∷ rest) above rise found =
        let after = rise.0 in
        let other : (y.id == new.id) ≡ false = grind (arith, nat_tests) in
        later rest above rise.1 (rw other at found)

    cases : (first second here : Bool) → nat_lt x.id new.id ≡ first → nat_lt new.id x.id ≡ second → (x.id == new.id) ≡ here
        → (album_of new.id bs ≡ Some b → Alike bs (put album_before new bs)) → cond here (Some x) (album_of new.id bs) ≡ Some b
        → Alike (x ∷ bs) (cond first (x ∷ put album_before new bs) (cond second (new ∷ x ∷ bs) (new ∷ bs)))
    cases true second true below above same rest is = absurd (grind (arith, nat_tests))
    cases true second false below above same rest is = (refl, refl, rest is)
    cases false true true below above same rest is = absurd (grind (arith, nat_tests))
    cases false true false below above same rest is = absurd (later bs above rise.0 is)
    cases false false false below above same rest is = absurd (grind (arith, nat_tests))
    cases false false true below above same rest is =
        let one : x ≡ b = cc is in
        let id : new.id ≡ x.id = grind (arith, nat_tests) in
        (id, name ∙ sym (ap (λ (z : Album). z.name) one), Alike-same bs)

-- ---- levels

-- the id is one of these
abbrev pub is_among : ℕ → List ℕ → Bool
is_among id ids = list_any (λ (n : ℕ). n == id) ids

-- what all have but those of ids
abbrev pub ButFor : List ℕ → (Album → Type 0) → Album → Type 0
ButFor ids P a = is_among a.id ids ≡ false → P a

-- What all albums have but those of some ids, all but those of the others have once the one of the first id has it.
ButFor-put : (P : Album → Type 0) (ids : List ℕ) (new : Album) (bs : List Album) → Ascends album_before bs → P new
    → AllByRecursion (ButFor (new.id ∷ ids) P) bs → AllByRecursion (ButFor ids P) (put album_before new bs)
ButFor-put P ids new [] rise own all = (λ _. own, tt)
ButFor-put P ids new (b ∷ bs) rise own all =
    cases (nat_lt b.id new.id) (nat_lt new.id b.id) refl refl (ButFor-put P ids new bs rise.1 own all.1)
  where
    other : (x : Album) → (new.id == x.id) ≡ false → ButFor (new.id ∷ ids) P x → ButFor ids P x
    other x differs has = λ outside. has (rw differs outside)

    above_all : (rest : List Album) → nat_lt b.id new.id ≡ false → AllByRecursion (λ (x : Album). nat_lt b.id x.id ≡ true) rest
        → AllByRecursion (ButFor (new.id ∷ ids) P) rest → AllByRecursion (ButFor ids P) rest
    above_all [] level rise all = tt
    above_all (x ∷ rest) level rise all =
        let after = rise.0 in
        let differs : (new.id == x.id) ≡ false = grind (arith, nat_tests) in
        (other x differs all.0, above_all rest level rise.1 all.1)

    cases : (first second : Bool) → nat_lt b.id new.id ≡ first → nat_lt new.id b.id ≡ second
        → AllByRecursion (ButFor ids P) (put album_before new bs)
        → AllByRecursion (ButFor ids P) (cond first (b ∷ put album_before new bs) (cond second (new ∷ b ∷ bs) (new ∷ bs)))
    cases true second below above rest =
        let differs : (new.id == b.id) ≡ false = grind (arith, nat_tests) in (other b differs all.0, rest)
    cases false true below above rest =
        let differs : (new.id == b.id) ≡ false = grind (arith, nat_tests) in
        (λ _. own, (other b differs all.0, above_all bs below rise.0 all.1))
    cases false false below above rest = (λ _. own, above_all bs below rise.0 all.1)

-- Albums of the same ids and names that have their levels are the first ones summed.
Resums-alike : (rs : List Recording) (olds bs : List Album) → Alike olds bs → AllByRecursion (IsSummed rs) bs → Resums rs olds bs
Resums-alike rs [] [] alike summed = tt
Resums-alike rs [] (b ∷ bs) alike summed = absurd alike
Resums-alike rs (a ∷ olds) [] alike summed = absurd alike
Resums-alike rs (a ∷ olds) (b ∷ bs) alike summed = (alike.0, alike.1, summed.0, Resums-alike rs olds bs alike.2 summed.1)

-- what the tables have as measured of an album's recordings is what is measured of their sounds
abbrev pub Measures : Tables → List Recording → Type 0
Measures n rs = (id : ℕ) → map (measured_in n) (members_in id n.recordings) ≡ measured_all (members id rs)

-- So a row that has the levels by the tables has those of its recordings.
summed_row : (n : Tables) (rs : List Recording) (row : AlbumRow) → Measures n rs → IsSummedAlbum n row → IsSummed rs (album_in row)
summed_row n rs row measures summed = subst (λ (ms : List Measured). IsAlbumSummary ms row.summary) (measures row.id) summed

-- the row of an album of that id has its id and its name
resummed_found : (olds : List Album) (n : Tables) (id : ℕ) (row : AlbumRow) → IsResummed (map album_row olds) n id row
    → (a : Album) × (album_of row.id olds ≡ Some a) × (row.name ≡ a.name) × (row.id ≡ id)
resummed_found olds n id row is = by_found (album_of id olds) refl
  where
    by_found : (found : Option Album) → album_of id olds ≡ found
        → (a : Album) × (album_of row.id olds ≡ Some a) × (row.name ≡ a.name) × (row.id ≡ id)
    by_found None told = absurd (cc (sym is.found ∙ found_albums id olds ∙ ap (option_map album_row) told))
    by_found (Some a) told =
        let one : Some (album_row a) ≡ Some is.old = sym (ap (option_map album_row) told) ∙ sym (found_albums id olds) ∙ is.found in
        let same : album_row a ≡ is.old = cc one in
        let row_id : row.id ≡ id = ap (λ (x : AlbumRow). x.id) is.row_is ∙ album_named id (map album_row olds) is.old is.found in
        let name : row.name ≡ a.name = ap (λ (x : AlbumRow). x.name) is.row_is ∙ sym (ap (λ (x : AlbumRow). x.name) same) in
        (a, subst (λ (m : ℕ). album_of m olds ≡ Some a) (sym row_id) told, name, row_id)

-- Where all albums but those of some ids have their levels, and rows of these ids have theirs, the albums with these put over them
-- are the first ones summed.
pub Resums-put_over : (rs : List Recording) (n : Tables) (ids : List ℕ) (rows : List AlbumRow) (olds bs : List Album) → Measures n rs
    → Alike olds bs → Ascends album_before bs → AreResummed (map album_row olds) n ids rows → AllByRecursion (ButFor ids (IsSummed rs)) bs
    → Resums rs olds (put_over rows bs)
Resums-put_over rs n [] [] olds bs measures alike rise are others =
    Resums-alike rs olds bs alike (AllByRecursion-weaker (ButFor [] (IsSummed rs)) (IsSummed rs) bs (λ b has. has refl) others)
Resums-put_over rs n [] (row ∷ rows) olds bs measures alike rise are others = absurd are
Resums-put_over rs n (id ∷ ids) [] olds bs measures alike rise are others = absurd are
Resums-put_over rs n (id ∷ ids) (row ∷ rows) olds bs measures alike rise are others =
    let first : IsResummed (map album_row olds) n id row = are.0 in
    let at = resummed_found olds n id row first in
    let there = Alike-found olds bs row.id at.0 alike at.1 in
    let new : Album = album_in row in
    let next : Alike olds (put album_before new bs) =
    Alike-then olds bs (put album_before new bs) alike (Alike-put new bs there.0 rise there.1 (at.2 ∙ sym there.2)) in
    let own : IsSummed rs new = summed_row n rs row measures first.summed in
    let left : AllByRecursion (ButFor (row.id ∷ ids) (IsSummed rs)) bs =
    subst (λ (m : ℕ). AllByRecursion (ButFor (m ∷ ids) (IsSummed rs)) bs) (sym at.3) others in
    Resums-put_over rs n ids rows olds (put album_before new bs) measures next (Ascends-put album_before albums_before_in_order new bs rise)
    are.1 (ButFor-put (IsSummed rs) ids new bs rise own left)
