-- One of ascending albums changes.
use Rattle.std.proofs.Common.{◌≡◌, ◌≢◌, ◌<◌, ◌≤◌, ◌+◌, ◌==◌, ℕ, zero, suc, Bool, true, false, cond, List, [], ◌∷◌, length, map, nat_lt, Option, None, Some, is_some, refl, sym, ap, ◌∙◌, subst, arith, All, Contains}
use Rattle.std.specs.Prelude.{IfNone, IfSome, IfOk, OnOk, Result, Ok, Err}
use Rattle.std.proofs.Math.ListN.{get_or, set}
use Rattle.std.proofs.lemmas.Bool.Decides.{nat_tests}
use Rattle.std.proofs.lemmas.List.Elements.{All-head, All-tail}
use Rattle.std.specs.List.{AllByRecursion}
use Rattle.lib_base.specs.declared.files.Measured.{Measured}
use Rattle.keeper_store.specs.declared.row_types.AlbumRow.{AlbumRow}
use Rattle.keeper_store.specs.Puts.{put, Ascends, IsFirstOfNumber, album_less}
use Rattle.keeper_store.proofs.Putting.{AllByRecursion-put, AllByRecursion-weaken, All-at}
use Rattle.album_merge.specs.Members.{Kept, IsAlbumOf, ids_of, recording_id, with_recording, without_recording}
use Rattle.album_merge.proofs.Joining.{Contains-map, ids_joined}
use Rattle.library_model.specs.RowRules.{has_album}
use Rattle.catalogue_rows.specs.declared.kept.KeptAlbum.{KeptAlbum}
use Rattle.catalogue_rows.specs.Holding.{album_row}
use Rattle.catalogue_rows.specs.KeptOrders.{kept_album_id, kept_album_less}
use Rattle.catalogue_rows.specs.Places.{AreMembersOf, HavePlaces, with_over, without_one}
use Rattle.catalogue_rows.specs.Room.{and_one, one_in}
use Rattle.catalogue_rows.proofs.Placed.{Ascends-parts}

-- what holds of all rows holds otherwise where no row has a number
pub otherwise : (P Q : KeptAlbum → Type 0) (album : ℕ) (ks : List KeptAlbum) → ((k : KeptAlbum) → k.row.id ≢ album → P k → Q k)
    → All (λ (k : KeptAlbum). kept_album_id k ≢ album) ks → AllByRecursion P ks → AllByRecursion Q ks
otherwise P Q album [] follows none all = tt
otherwise P Q album (k ∷ ks) follows none all = (
  follows k (All-head (λ (x : KeptAlbum). kept_album_id x ≢ album) k ks none) all.0,
  otherwise P Q album ks follows (All-tail (λ (x : KeptAlbum). kept_album_id x ≢ album) k ks none) all.1,
)

-- an album in the place of the one of its id
pub set_all : (P Q : KeptAlbum → Type 0) (album : ℕ) (ks : List KeptAlbum) (place : ℕ) (kept : KeptAlbum) → Ascends kept_album_less ks
    → IsFirstOfNumber kept_album_id album ks place → ((k : KeptAlbum) → k.row.id ≢ album → P k → Q k) → Q kept → AllByRecursion P ks
    → AllByRecursion Q (set ks place kept)
set_all P Q album [] place kept rise at follows here all = tt
set_all P Q album (k ∷ ks) zero kept rise at follows here all = (here, others ks rise.0 all.1)
  where
    same : k.row.id ≡ album
    same = at.same k

    others : (rest : List KeptAlbum) → AllByRecursion (λ (x : KeptAlbum). kept_album_less k x ≡ true) rest → AllByRecursion P rest
        → AllByRecursion Q rest
    others [] later held = tt
    others (x ∷ rest) later held =
        let up : nat_lt k.row.id x.row.id ≡ true = later.0 in
        (follows x (λ is. grind (arith, nat_tests, up, same, is)) held.0, others rest later.1 held.1)
set_all P Q album (k ∷ ks) (suc place) kept rise at follows here all =
    let inside = at.inside in (
      follows k (at.before zero k (omega arith)) all.0,
      set_all P Q album ks place kept rise.1
          (record {
            inside = omega (arith, inside);
            same = at.same;
            before = λ i d less. at.before (suc i) d (omega (arith, less));
          }) follows here all.1,
    )

-- rows that are as they were
pub rows_set : (ks : List KeptAlbum) (place : ℕ) (kept : KeptAlbum) → kept.row ≡ (get_or ks place kept).row
    → map album_row (set ks place kept) ≡ map album_row ks
rows_set [] place kept same = refl
rows_set (k ∷ ks) zero kept same = ap (λ (row : AlbumRow). row ∷ map album_row ks) same
rows_set (k ∷ ks) (suc place) kept same = ap (λ (l : List AlbumRow). k.row ∷ l) (rows_set ks place kept same)

-- albums ascend as their rows do
ascend_rows : (ks : List KeptAlbum) → Ascends kept_album_less ks → Ascends album_less (map album_row ks)
ascend_rows [] rise = tt
ascend_rows (k ∷ ks) rise = (above ks rise.0, ascend_rows ks rise.1)
  where
    above : (rest : List KeptAlbum) → AllByRecursion (λ (x : KeptAlbum). kept_album_less k x ≡ true) rest
        → AllByRecursion (λ (row : AlbumRow). album_less k.row row ≡ true) (map album_row rest)
    above [] all = tt
    above (x ∷ rest) all = (all.0, above rest all.1)

-- an album that is there is not missing
pub not_missing : (album : ℕ) (ks : List KeptAlbum) → has_album album (map album_row ks) ≡ true
    → All (λ (k : KeptAlbum). kept_album_id k ≢ album) ks → ⊥
not_missing album [] has none = absurd (cc has)
not_missing album (k ∷ ks) has none =
    let first : k.row.id ≢ album = All-head (λ (x : KeptAlbum). kept_album_id x ≢ album) k ks none in
    let test : (k.row.id == album) ≡ false = grind (arith, nat_tests, first) in
    not_missing album ks (rw test at has) (All-tail (λ (x : KeptAlbum). kept_album_id x ≢ album) k ks none)

-- Of ascending albums the one of an id gets other members.
pub record Sets (album : ℕ) (was : KeptAlbum) (members : Kept) (old new : List KeptAlbum) : Type 0 where
  pub rise : Ascends kept_album_less old
  pub place : ℕ
  pub at : IsFirstOfNumber kept_album_id album old place
  pub was_is : was ≡ get_or old place was
  pub new_is : new ≡ set old place (record was { members = members })

-- what is at a place, whatever is said where there is no place
at_any : (ks : List KeptAlbum) (place : ℕ) (k d : KeptAlbum) → place < length ks → k ≡ get_or ks place k → k ≡ get_or ks place d
at_any [] place k d inside is = absurd (omega (arith, inside))
at_any (x ∷ ks) zero k d inside is = is
at_any (x ∷ ks) (suc place) k d inside is = at_any ks place k d (omega (arith, inside)) is

-- its id, and what holds of it since it holds of all
pub was_id : (album : ℕ) (was : KeptAlbum) (members : Kept) (old new : List KeptAlbum) (s : Sets album was members old new) → was.row.id ≡ album
was_id album was members old new s = ap kept_album_id s.was_is ∙ s.at.same was

pub was_holds : (P : KeptAlbum → Type 0) (album : ℕ) (was : KeptAlbum) (members : Kept) (old new : List KeptAlbum) (s : Sets album was members old new)
    → AllByRecursion P old → P was
was_holds P album was members old new s all = subst P (sym s.was_is) (All-at P old all s.place was s.at.inside)

-- the rows are as they were, and ascend
pub sets_rows : (album : ℕ) (was : KeptAlbum) (members : Kept) (old new : List KeptAlbum) → Sets album was members old new → map album_row new ≡ map album_row old
sets_rows album was members old new s =
    let kept : KeptAlbum = record was { members = members } in
    ap (map album_row) s.new_is ∙ rows_set old s.place kept (ap album_row (at_any old s.place was kept s.at.inside s.was_is))

pub sets_ascend : (album : ℕ) (was : KeptAlbum) (members : Kept) (old new : List KeptAlbum) → Sets album was members old new → Ascends kept_album_less new
sets_ascend album was members old new s =
    Ascends-parts album_less album_row new
    (subst (Ascends album_less) (sym (sets_rows album was members old new s)) (ascend_rows old s.rise))

-- what the albums stand for, where the others stand for the same
pub sets_members : (of next : ℕ → List (ℕ × Measured)) (album : ℕ) (was : KeptAlbum) (members : Kept) (old new : List KeptAlbum)
    (s : Sets album was members old new) → ((other : ℕ) → other ≢ album → of other ≡ next other)
    → (IsAlbumOf was.members (of album) → IsAlbumOf members (next album)) → AreMembersOf of old → AreMembersOf next new
sets_members of next album was members old new s others here all =
    let P : KeptAlbum → Type 0 = λ k. IsAlbumOf k.members (of k.row.id) in
    let Q : KeptAlbum → Type 0 = λ k. IsAlbumOf k.members (next k.row.id) in
    let id = was_id album was members old new s in
    let stood : IsAlbumOf was.members (of album) =
    subst (λ (n : ℕ). IsAlbumOf was.members (of n)) id (was_holds P album was members old new s all) in
    let now : IsAlbumOf members (next was.row.id) = subst (λ (n : ℕ). IsAlbumOf members (next n)) (sym id) (here stood) in
    subst (AllByRecursion Q) (sym s.new_is)
    (set_all P Q album old s.place (record was { members = members }) s.rise s.at
    (λ k apart holds. subst (IsAlbumOf k.members) (others k.row.id apart) holds) now all)

-- their places, where the others have the same
pub sets_places : (more next : ℕ → ℕ) (album : ℕ) (was : KeptAlbum) (members : Kept) (old new : List KeptAlbum) (s : Sets album was members old new)
    → ((other : ℕ) → other ≢ album → next other ≡ more other) → (more album ≤ was.members.spare → next album ≤ members.spare)
    → HavePlaces more old → HavePlaces next new
sets_places more next album was members old new s others here all =
    let P : KeptAlbum → Type 0 = λ k. more k.row.id ≤ k.members.spare in
    let Q : KeptAlbum → Type 0 = λ k. next k.row.id ≤ k.members.spare in
    let id = was_id album was members old new s in
    let had : more album ≤ was.members.spare =
    subst (λ (n : ℕ). more n ≤ was.members.spare) id (was_holds P album was members old new s all) in
    let now : next was.row.id ≤ members.spare = subst (λ (n : ℕ). next n ≤ members.spare) (sym id) (here had) in
    subst (AllByRecursion Q) (sym s.new_is)
    (set_all P Q album old s.place (record was { members = members }) s.rise s.at
    (λ k apart holds. subst (λ (n : ℕ). n ≤ k.members.spare) (sym (others k.row.id apart)) holds) now all)

-- ---- what is told of albums by their ids

pub without_apart : (album id : ℕ) (of : ℕ → List (ℕ × Measured)) (other : ℕ) → other ≢ album → of other ≡ without_one album id of other
without_apart album id of other apart = let test : (album == other) ≡ false = grind (arith, nat_tests, apart) in rw test refl

pub without_here : (album id : ℕ) (of : ℕ → List (ℕ × Measured)) → without_one album id of album ≡ without_recording id (of album)
without_here album id of = let test : (album == album) ≡ true = grind (arith, nat_tests) in rw test refl

pub over_apart : (album id : ℕ) (m : Measured) (of : ℕ → List (ℕ × Measured)) (other : ℕ) → other ≢ album
    → of other ≡ with_over (Some album) id m of other
over_apart album id m of other apart = let test : (album == other) ≡ false = grind (arith, nat_tests, apart) in rw test refl

pub over_here : (album id : ℕ) (m : Measured) (of : ℕ → List (ℕ × Measured))
    → with_over (Some album) id m of album ≡ with_recording id m (without_recording id (of album))
over_here album id m of = let test : (album == album) ≡ true = grind (arith, nat_tests) in rw test refl

pub one_apart : (album : ℕ) (more : ℕ → ℕ) (other : ℕ) → other ≢ album → and_one (Some album) more other ≡ more other
one_apart album more other apart = let test : (album == other) ≡ false = grind (arith, nat_tests, apart) in rw test (omega arith)

pub one_here : (album : ℕ) (more : ℕ → ℕ) → and_one (Some album) more album ≡ 1 + more album
one_here album more = let test : (album == album) ≡ true = grind (arith, nat_tests) in rw test refl

pub one_in_here : (album : ℕ) → one_in (Some album) album ≡ 1
one_in_here album = let test : (album == album) ≡ true = grind (arith, nat_tests) in rw test refl

-- ---- as calls tell it

-- the album at the place that was found gets other members
pub sets_of : (album : ℕ) (members : Kept) (old slice : List KeptAlbum) (place : ℕ) (was : KeptAlbum) → Ascends kept_album_less old
    → slice ≡ old → IsFirstOfNumber kept_album_id album slice place → was ≡ get_or old place was
    → Sets album was members old (set old place (record was { members = members }))
sets_of album members old slice place was rise same at is = record {
  rise = rise;
  place = place;
  at = subst (λ (l : List KeptAlbum). IsFirstOfNumber kept_album_id album l place) same at;
  was_is = is;
  new_is = refl;
}

-- what it stood for
pub was_album : (of : ℕ → List (ℕ × Measured)) (album : ℕ) (was : KeptAlbum) (members : Kept) (old new : List KeptAlbum) (s : Sets album was members old new)
    → AreMembersOf of old → IsAlbumOf was.members (of album)
was_album of album was members old new s all =
    subst (λ (n : ℕ). IsAlbumOf was.members (of n)) (was_id album was members old new s)
    (was_holds (λ (k : KeptAlbum). IsAlbumOf k.members (of k.row.id)) album was members old new s all)

-- no album of the id was found
pub none_there : (album : ℕ) (ks slice : List KeptAlbum) → slice ≡ ks → has_album album (map album_row ks) ≡ true
    → All (λ (k : KeptAlbum). kept_album_id k ≢ album) slice → ⊥
none_there album ks slice same has none =
    not_missing album ks has (subst (λ (l : List KeptAlbum). All (λ (k : KeptAlbum). kept_album_id k ≢ album) l) same none)

-- so each stands for what is told otherwise of this id alone
pub members_elsewhere : (of next : ℕ → List (ℕ × Measured)) (album : ℕ) (ks slice : List KeptAlbum) → slice ≡ ks
    → All (λ (k : KeptAlbum). kept_album_id k ≢ album) slice → ((other : ℕ) → other ≢ album → of other ≡ next other)
    → AreMembersOf of ks → AreMembersOf next ks
members_elsewhere of next album ks slice same none others all =
    otherwise (λ (k : KeptAlbum). IsAlbumOf k.members (of k.row.id)) (λ (k : KeptAlbum). IsAlbumOf k.members (next k.row.id)) album ks
    (λ k apart holds. subst (IsAlbumOf k.members) (others k.row.id apart) holds)
    (subst (λ (l : List KeptAlbum). All (λ (k : KeptAlbum). kept_album_id k ≢ album) l) same none) all

pub places_elsewhere : (more next : ℕ → ℕ) (album : ℕ) (ks slice : List KeptAlbum) → slice ≡ ks
    → All (λ (k : KeptAlbum). kept_album_id k ≢ album) slice → ((other : ℕ) → other ≢ album → next other ≡ more other)
    → HavePlaces more ks → HavePlaces next ks
places_elsewhere more next album ks slice same none others all =
    otherwise (λ (k : KeptAlbum). more k.row.id ≤ k.members.spare) (λ (k : KeptAlbum). next k.row.id ≤ k.members.spare) album ks
    (λ k apart holds. subst (λ (n : ℕ). n ≤ k.members.spare) (sym (others k.row.id apart)) holds)
    (subst (λ (l : List KeptAlbum). All (λ (k : KeptAlbum). kept_album_id k ≢ album) l) same none) all

-- an answer that is there where it can't be missing
pub some_unless : {A P : Type 0} (found : Option A) → IfNone found (¬ P) → P → is_some found ≡ true
some_unless (Some x) none has = refl
some_unless None none has = absurd (none has)

-- a recording of an album has its id among the album's
pub has_id : (album : Kept) (recordings : List (ℕ × Measured)) (id : ℕ) (m : Measured) → IsAlbumOf album recordings
    → Contains recordings (id, m) → Contains (ids_of album) id
has_id album recordings id m stands has =
    subst (λ (l : List ℕ). Contains l id) (sym (ids_joined album.members recordings stands.members))
    (Contains-map recording_id (id, m) recordings has)

-- no place is lost where a recording is taken out, or nothing changes
pub spare_stays : {A : Type 0} (taken : Option A) (old new : Kept) → IfSome taken (λ _. new.spare ≡ old.spare + 1) → IfNone taken (new ≡ old)
    → old.spare ≤ new.spare
spare_stays None old new more same = omega (arith, ap (λ (k : Kept). k.spare) same)
spare_stays (Some x) old new more same = omega (arith, more)

-- places beside one more are places
pub places_beside : (album : Option ℕ) (more : ℕ → ℕ) (ks : List KeptAlbum) → HavePlaces (and_one album more) ks → HavePlaces more ks
places_beside album more ks all =
    AllByRecursion-weaken (λ (k : KeptAlbum). and_one album more k.row.id ≤ k.members.spare) (λ (k : KeptAlbum). more k.row.id ≤ k.members.spare)
    (λ k has. omega (arith, has)) ks all

-- one place, where no more are told
pub place_alone : (album : Option ℕ) (ks : List KeptAlbum) → HavePlaces (and_one album (λ _. 0)) ks → HavePlaces (one_in album) ks
place_alone album ks all =
    AllByRecursion-weaken (λ (k : KeptAlbum). and_one album (λ _. 0) k.row.id ≤ k.members.spare) (λ (k : KeptAlbum). one_in album k.row.id ≤ k.members.spare)
    (λ k has. omega (arith, has)) ks all

-- no album, no more place
pub places_none : (more : ℕ → ℕ) (ks : List KeptAlbum) → HavePlaces more ks → HavePlaces (and_one None more) ks
places_none more ks all =
    AllByRecursion-weaken (λ (k : KeptAlbum). more k.row.id ≤ k.members.spare) (λ (k : KeptAlbum). and_one None more k.row.id ≤ k.members.spare)
    (λ k has. omega (arith, has)) ks all

-- each album has no place more than it has
pub no_places : (ks : List KeptAlbum) → HavePlaces (λ _. 0) ks
no_places [] = tt
no_places (k ∷ ks) = (omega arith, no_places ks)

-- the places of albums with one put among them
pub put_places : (more : ℕ → ℕ) (ks next : List KeptAlbum) (row : AlbumRow) (members : Kept)
    → next ≡ put kept_album_less (record { row = row; members = members }) ks → more row.id ≤ members.spare → HavePlaces more ks
    → HavePlaces more next
put_places more ks next row members is here all =
    subst (HavePlaces more) (sym is)
    (AllByRecursion-put (λ (k : KeptAlbum). more k.row.id ≤ k.members.spare) kept_album_less (record { row = row; members = members }) ks here all)

-- a place in one album
pub place_made : (album : ℕ) (was : KeptAlbum) (members : Kept) (old new : List KeptAlbum) → Sets album was members old new → 1 ≤ members.spare
    → HavePlaces (one_in (Some album)) new
place_made album was members old new s made =
    sets_places (λ _. 0) (one_in (Some album)) album was members old new s
    (λ other apart. let test : (album == other) ≡ false = grind (arith, nat_tests, apart) in rw test refl)
    (λ had. let one = one_in_here album in omega (arith, one, made)) (no_places old)

-- a place in the album that is named
pub place_made_in : (named : Option ℕ) (album : ℕ) (was : KeptAlbum) (members : Kept) (old new : List KeptAlbum) → named ≡ Some album
    → Sets album was members old new → 1 ≤ members.spare → HavePlaces (one_in named) new
place_made_in named album was members old new is s made =
    subst (λ (n : Option ℕ). HavePlaces (one_in n) new) (sym is) (place_made album was members old new s made)

-- what follows where a call succeeds
pub ok_then : {T E P Q : Type 0} (r : Result T E) → IfOk r (λ _. P) → (P → Q) → OnOk r Q
ok_then (Ok x) held follows = follows held
ok_then (Err e) held follows = tt
