-- Recordings of albums, taken in one after another.
use Rattle.std.proofs.Common.{◌≡◌, ◌≢◌, ◌<◌, ◌≤◌, ℕ, zero, suc, Bool, true, false, cond, List, [], ◌∷◌, ◌++◌, length, map, filter, take, set, nat_lt, ◌==◌, Some, refl, sym, ap, ◌∙◌, subst, arith, Contains}
use Rattle.std.specs.Prelude.{All, OnOk, Result}
use Rattle.std.specs.List.{AllByRecursion, AllZip}
use Rattle.std.proofs.Math.ListN.{get_or}
use Rattle.std.proofs.lemmas.Bool.Decides.{nat_tests}
use Rattle.std.proofs.lemmas.List.{map-append, length-map}
use Rattle.std.proofs.lemmas.List.Elements.{All-from_recursion, All-head, All-tail, filter-append}
use Rattle.std.proofs.lemmas.Result.{on_ok_weaker}
use Rattle.std.proofs.lemmas.List.Sums.{length-filter}
use Rattle.lib_base.specs.declared.files.Measured.{Measured}
use Rattle.lib_base.specs.declared.limits.TheConstants.{MOST_MEMBERS}
use Rattle.keeper_store.specs.declared.contents.Tables.{Tables}
use Rattle.keeper_store.specs.declared.row_types.AlbumRow.{AlbumRow}
use Rattle.keeper_store.specs.declared.row_types.RecordingRow.{RecordingRow}
use Rattle.keeper_store.specs.Puts.{Ascends, album_less, recording_less}
use Rattle.keeper_store.proofs.Putting.{AllByRecursion-weaken, All-at}
use Rattle.album_merge.specs.Members.{Kept, IsAlbumOf, ids_of, placed, recording_id, with_recording}
use Rattle.album_merge.proofs.Joining.{has_none, ids_joined}
use Rattle.library_model.specs.RowRules.{measured_in, members_in, is_in_album, member_count, has_album}
use Rattle.catalogue_rows.specs.Opening.{AreAlbumsOf, HasPlace, HavePlace, with_one, with_row}
use Rattle.catalogue_rows.specs.Holding.{album_of}

-- what follows where a call succeeds
pub OnOk_then : {T E P Q : Type 0} (r : Result T E) → OnOk r P → (P → Q) → OnOk r Q
OnOk_then r held follows = on_ok_weaker r follows held

-- ---- rows and what stands beside them

-- what holds of each pair holds with one more
pub AllZip-more : {A B : Type 0} (R : A → B → Type 0) (xs : List A) (ys : List B) (x : A) (y : B)
    → AllZip R xs ys → R x y → AllZip R (xs ++ x ∷ []) (ys ++ y ∷ [])
AllZip-more R [] [] x y all here = (here, tt)
AllZip-more R [] (z ∷ ys) x y all here = absurd all
AllZip-more R (z ∷ xs) [] x y all here = absurd all
AllZip-more R (w ∷ xs) (z ∷ ys) x y all here = (all.0, AllZip-more R xs ys x y all.1 here)

-- lists of which each has its pair are as long
pub AllZip-long : {A B : Type 0} (R : A → B → Type 0) (xs : List A) (ys : List B) → AllZip R xs ys → length xs ≡ length ys
AllZip-long R [] [] all = refl
AllZip-long R [] (y ∷ ys) all = absurd all
AllZip-long R (x ∷ xs) [] all = absurd all
AllZip-long R (x ∷ xs) (y ∷ ys) all = let rest = AllZip-long R xs ys all.1 in omega (arith, rest)

-- what follows of each pair whose first part has a property
pub AllZip-weaken : {A B : Type 0} (P : A → Type 0) (R S : A → B → Type 0) → ((x : A) (y : B) → P x → R x y → S x y)
    → (xs : List A) (ys : List B) → AllByRecursion P xs → AllZip R xs ys → AllZip S xs ys
AllZip-weaken P R S follows [] [] each all = tt
AllZip-weaken P R S follows [] (y ∷ ys) each all = absurd all
AllZip-weaken P R S follows (x ∷ xs) [] each all = absurd all
AllZip-weaken P R S follows (x ∷ xs) (y ∷ ys) each all =
    (follows x y each.0 all.0, AllZip-weaken P R S follows xs ys each.1 all.1)

-- any property that needs no premise holds of all
pub AllByRecursion-any : {A : Type 0} (P : A → Type 0) → ((x : A) → P x) → (xs : List A) → AllByRecursion P xs
AllByRecursion-any P any [] = tt
AllByRecursion-any P any (x ∷ xs) = (any x, AllByRecursion-any P any xs)

-- the pair at a place
pub AllZip-at : {A B : Type 0} (R : A → B → Type 0) (xs : List A) (ys : List B) (i : ℕ) (d : A) (e : B) → AllZip R xs ys → i < length xs
    → R (get_or xs i d) (get_or ys i e)
AllZip-at R [] ys i d e all within = absurd (omega (arith, within))
AllZip-at R (x ∷ xs) [] i d e all within = absurd all
AllZip-at R (x ∷ xs) (y ∷ ys) zero d e all within = all.0
AllZip-at R (x ∷ xs) (y ∷ ys) (suc i) d e all within = AllZip-at R xs ys i d e all.1 (omega (arith, within))

-- the pair that was read
pub AllZip-read : {A B : Type 0} (R : A → B → Type 0) (xs : List A) (ys : List B) (i : ℕ) (x : A) (y : B) → AllZip R xs ys → i < length xs
    → x ≡ get_or xs i x → y ≡ get_or ys i y → R x y
AllZip-read {A} {B} R xs ys i x y all inside x_is y_is =
    subst (λ (a : A). R a y) (sym x_is) (subst (λ (b : B). R (get_or xs i x) b) (sym y_is) (AllZip-at R xs ys i x y all inside))

-- lists that are the same
pub AllZip-as : {A B : Type 0} (R : A → B → Type 0) (xs xs' : List A) (ys ys' : List B) → xs' ≡ xs → ys' ≡ ys → AllZip R xs ys
    → AllZip R xs' ys'
AllZip-as {A} {B} R xs xs' ys ys' x_is y_is all =
    subst (λ (l : List A). AllZip R l ys') (sym x_is) (subst (λ (l : List B). AllZip R xs l) (sym y_is) all)

-- pairs that are parts of one thing
pub AllZip-parts : {K A B : Type 0} (R : A → B → Type 0) (f : K → A) (g : K → B) (ks : List K) → AllZip R (map f ks) (map g ks)
    → AllByRecursion (λ k. R (f k) (g k)) ks
AllZip-parts R f g [] all = tt
AllZip-parts R f g (k ∷ ks) all = (all.0, AllZip-parts R f g ks all.1)

-- rows ascend whose parts do
pub Ascends-parts : {K A : Type 0} (less : A → A → Bool) (f : K → A) (ks : List K) → Ascends less (map f ks)
    → Ascends (λ a b. less (f a) (f b)) ks
Ascends-parts less f [] rise = tt
Ascends-parts {K} less f (k ∷ ks) rise = (parts ks rise.0, Ascends-parts less f ks rise.1)
  where
    parts : (rest : List K) → AllByRecursion (λ a. less (f k) a ≡ true) (map f rest) → AllByRecursion (λ a. less (f k) (f a) ≡ true) rest
    parts [] all = tt
    parts (r ∷ rest) all = (all.0, parts rest all.1)

-- ---- one more recording

-- the last of numbers that ascend is placed at the end
placed_last : {A : Type 0} (number : A → ℕ) (item : A) (xs : List A) → AllByRecursion (λ x. number x < number item) xs
    → xs ++ item ∷ [] ≡ placed number item xs
placed_last number item [] below = refl
placed_last {A} number item (x ∷ xs) below =
    let first : number x < number item = below.0 in
    let test : nat_lt (number x) (number item) ≡ true = grind (arith, nat_tests, first) in
    rw test (ap (λ (l : List A). x ∷ l) (placed_last number item xs below.1))

-- rows with lesser ids have lesser ids in their album
below_in : (t : Tables) (id other : ℕ) (rows : List RecordingRow) → AllByRecursion (λ (r : RecordingRow). nat_lt r.id id ≡ true) rows
    → AllByRecursion (λ (x : ℕ × Measured). x.0 < id) (album_of t rows other)
below_in t id other [] below = tt
below_in t id other (r ∷ rows) below = cases (below_in t id other rows below.1) (is_in_album other r.album)
  where
    first : nat_lt r.id id ≡ true
    first = below.0

    cases : AllByRecursion (λ (x : ℕ × Measured). x.0 < id) (album_of t rows other) → (here : Bool)
        → AllByRecursion (λ (x : ℕ × Measured). x.0 < id)
        (map (λ (s : RecordingRow). (s.id, measured_in t s)) (cond here (r ∷ members_in other rows) (members_in other rows)))
    cases rest true = (grind (arith, nat_tests, first), rest)
    cases rest false = rest

-- what an album has with a row more
pub album_more : (t : Tables) (rows : List RecordingRow) (row : RecordingRow) (other : ℕ)
    → AllByRecursion (λ (r : RecordingRow). nat_lt r.id row.id ≡ true) rows
    → with_row row (measured_in t row) (album_of t rows) other ≡ album_of t (rows ++ row ∷ []) other
album_more t rows row other below =
    sym (ap (map f) (filter-append (λ (r : RecordingRow). is_in_album other r.album) rows (row ∷ [])) ∙ cases (is_in_album other row.album))
  where
    f : RecordingRow → ℕ × Measured
    f s = (s.id, measured_in t s)

    cases : (here : Bool) → map (λ (s : RecordingRow). (s.id, measured_in t s)) (members_in other rows ++ cond here (row ∷ []) [])
        ≡ cond here (with_recording row.id (measured_in t row) (album_of t rows other)) (album_of t rows other)
    cases true =
        map-append (λ (s : RecordingRow). (s.id, measured_in t s)) (members_in other rows) (row ∷ [])
        ∙ placed_last recording_id (row.id, measured_in t row) (album_of t rows other) (below_in t row.id other rows below)
    cases false = ap (map (λ (s : RecordingRow). (s.id, measured_in t s))) (append_none (members_in other rows))
      where
        append_none : (xs : List RecordingRow) → xs ++ [] ≡ xs
        append_none [] = refl
        append_none (x ∷ xs) = ap (λ (l : List RecordingRow). x ∷ l) (append_none xs)

-- rows that stand before a row have lesser ids
pub earlier : {A : Type 0} (less : A → A → Bool) (xs : List A) (i : ℕ) (x : A) → Ascends less xs → i < length xs → x ≡ get_or xs i x
    → AllByRecursion (λ y. less y x ≡ true) (take i xs)
earlier less [] i x rise inside is = absurd (omega (arith, inside))
earlier less (y ∷ xs) zero x rise inside is = tt
earlier {A} less (y ∷ xs) (suc i) x rise inside is =
    let up : less y (get_or xs i x) ≡ true = All-at (λ (a : A). less y a ≡ true) xs rise.0 i x (omega (arith, inside)) in
    (subst (λ (a : A). less y a ≡ true) (sym is) up, earlier less xs i x rise.1 (omega (arith, inside)) is)

-- of the elements before one that passes fewer pass than of all
fewer : {A : Type 0} (p : A → Bool) (xs : List A) (i : ℕ) (x : A) → i < length xs → x ≡ get_or xs i x → p x ≡ true
    → length (filter p (take i xs)) < length (filter p xs)
fewer p [] i x inside is passes = absurd (omega (arith, inside))
fewer p (y ∷ xs) zero x inside is passes =
    let here : p y ≡ true = ap p (sym is) ∙ passes in
    rw here (omega arith)
fewer {A} p (y ∷ xs) (suc i) x inside is passes = cases (fewer p xs i x (omega (arith, inside)) is passes) (p y)
  where
    cases : length (filter p (take i xs)) < length (filter p xs) → (here : Bool)
        → length (cond here (y ∷ filter p (take i xs)) (filter p (take i xs))) < length (cond here (y ∷ filter p xs) (filter p xs))
    cases rest true = omega (arith, rest)
    cases rest false = rest

-- an album of the rows before a row, of which few name it, has a place for that of the row
pub has_place : (t : Tables) (i : ℕ) (row : RecordingRow) (other : ℕ) (album : Kept) → Ascends recording_less t.recordings
    → i < length t.recordings → row ≡ get_or t.recordings i row → member_count other t.recordings ≤ MOST_MEMBERS
    → IsAlbumOf album (album_of t (take i t.recordings) other) → is_in_album other row.album ≡ true → HasPlace row.id album
has_place t i row other album rise inside is few stands in_it =
    let seen = take i t.recordings in
    let its : List (ℕ × Measured) = album_of t seen other in
    let ids : ids_of album ≡ map recording_id its = ids_joined album.members its stands.members in
    let below = below_in t row.id other seen (earlier recording_less t.recordings i row rise inside is) in
    let apart : All (λ (x : ℕ × Measured). recording_id x ≡ row.id → ⊥) its =
    All-from_recursion (λ (x : ℕ × Measured). recording_id x ≡ row.id → ⊥) its
    (AllByRecursion-weaken (λ (x : ℕ × Measured). x.0 < row.id) (λ (x : ℕ × Measured). recording_id x ≡ row.id → ⊥)
    (λ x less same. omega (arith, less, same)) its below) in
    let less = fewer (λ (r : RecordingRow). is_in_album other r.album) t.recordings i row inside is in_it in
    let counted = length-filter (λ (r : RecordingRow). is_in_album other r.album) t.recordings in
    let long : length (ids_of album) ≡ length (members_in other seen) =
    ap (λ (l : List ℕ). length l) ids ∙ length-map its recording_id ∙ length-map (members_in other seen) (λ (s : RecordingRow). (s.id, measured_in t s)) in
    record {
      fresh = subst (λ (l : List ℕ). Contains l row.id → ⊥) (sym ids) (has_none recording_id row.id its apart);
      few = omega (arith, long, less, counted, few);
    }

-- a recording put into the album at the place of an id
pub put_one : (of next : ℕ → List (ℕ × Measured)) (album : ℕ) (rows : List AlbumRow) (albums : List Kept) (place : ℕ) (kept : Kept)
    → Ascends album_less rows → place < length rows → ((d : AlbumRow) → (get_or rows place d).id ≡ album)
    → ((other : ℕ) → other ≢ album → of other ≡ next other) → IsAlbumOf kept (next album)
    → AreAlbumsOf of rows albums → AreAlbumsOf next rows (set albums place kept)
put_one of next album [] albums place kept rise inside same others here all = absurd (omega (arith, inside))
put_one of next album (r ∷ rows) [] place kept rise inside same others here all = absurd all
put_one of next album (r ∷ rows) (a ∷ albums) zero kept rise inside same others here all =
    let its : r.id ≡ album = same r in (
      subst (λ (id : ℕ). IsAlbumOf kept (next id)) (sym its) here,
      AllZip-weaken (λ (s : AlbumRow). album_less r s ≡ true) (λ s x. IsAlbumOf x (of s.id)) (λ s x. IsAlbumOf x (next s.id))
          (λ s x later stands.
          let apart : s.id ≢ album = apart_from r.id s.id album later its in
          subst (λ (l : List (ℕ × Measured)). IsAlbumOf x l) (others s.id apart) stands) rows albums rise.0 all.1,
    )
  where
    apart_from : (a b n : ℕ) → nat_lt a b ≡ true → a ≡ n → b ≢ n
    apart_from a b n later same_as is = grind (arith, nat_tests, later, same_as, is)
put_one of next album (r ∷ rows) (a ∷ albums) (suc place) kept rise inside same others here all =
    let up : album_less r (get_or rows place r) ≡ true =
    All-at (λ (s : AlbumRow). album_less r s ≡ true) rows rise.0 place r (omega (arith, inside)) in
    let its : (get_or rows place r).id ≡ album = same r in
    let apart : r.id ≢ album = before r.id (get_or rows place r).id album up its in (
      subst (λ (l : List (ℕ × Measured)). IsAlbumOf a l) (others r.id apart) all.0,
      put_one of next album rows albums place kept rise.1 (omega (arith, inside)) same others here all.1,
    )
  where
    before : (a b n : ℕ) → nat_lt a b ≡ true → b ≡ n → a ≢ n
    before a b n later same_as is = grind (arith, nat_tests, later, same_as, is)

-- an album that is there has a row
pub album_missing : (album : ℕ) (rows : List AlbumRow) → has_album album rows ≡ true → All (λ (a : AlbumRow). a.id ≢ album) rows → ⊥
album_missing album [] has none = false_true has
  where
    false_true : false ≡ true → ⊥
    false_true is = cc is
album_missing album (r ∷ rows) has none =
    let first : r.id ≢ album = All-head (λ (a : AlbumRow). a.id ≢ album) r rows none in
    let test : (r.id == album) ≡ false = grind (arith, nat_tests, first) in
    album_missing album rows (rw test at has) (All-tail (λ (a : AlbumRow). a.id ≢ album) r rows none)

-- the album at the place of an id has a place for the recording
pub place_in : (album id : ℕ) (rows : List AlbumRow) (albums : List Kept) (place : ℕ) (d : AlbumRow) (e : Kept)
    → HavePlace (Some album) id rows albums → place < length rows → (get_or rows place d).id ≡ album → HasPlace id (get_or albums place e)
place_in album id rows albums place d e have inside same =
    let test : (album == (get_or rows place d).id) ≡ true = grind (arith, nat_tests, same) in
    AllZip-at (λ (r : AlbumRow) (kept : Kept). is_in_album r.id (Some album) ≡ true → HasPlace id kept) rows albums place d e have inside test

-- whatever is said where there is no row
pub place_in_any : (album id : ℕ) (rows : List AlbumRow) (albums : List Kept) (place : ℕ) (e : Kept) → HavePlace (Some album) id rows albums
    → place < length rows → ((d : AlbumRow) → (get_or rows place d).id ≡ album) → HasPlace id (get_or albums place e)
place_in_any album id [] albums place e have inside same = absurd (omega (arith, inside))
place_in_any album id (r ∷ rows) albums place e have inside same = place_in album id (r ∷ rows) albums place r e have inside (same r)

-- albums of which one has a recording more
pub put_at_place : (of : ℕ → List (ℕ × Measured)) (album id : ℕ) (m : Measured) (rows : List AlbumRow) (albums : List Kept) (place : ℕ)
    (kept : Kept) → Ascends album_less rows → place < length rows → ((d : AlbumRow) → (get_or rows place d).id ≡ album)
    → IsAlbumOf kept (with_recording id m (of album)) → AreAlbumsOf of rows albums
    → AreAlbumsOf (with_one album id m of) rows (set albums place kept)
put_at_place of album id m rows albums place kept rise inside same here all =
    let this : (album == album) ≡ true = grind (arith, nat_tests) in
    put_one of (with_one album id m of) album rows albums place kept rise inside same others (rw this here) all
  where
    others : (other : ℕ) → other ≢ album → of other ≡ with_one album id m of other
    others other apart = let test : (album == other) ≡ false = grind (arith, nat_tests, apart) in rw test refl

-- what the album at a place stands for
pub stands_at : (of : ℕ → List (ℕ × Measured)) (album : ℕ) (rows : List AlbumRow) (albums : List Kept) (place : ℕ) (d : AlbumRow) (e : Kept)
    → place < length rows → (get_or rows place d).id ≡ album → AreAlbumsOf of rows albums → IsAlbumOf (get_or albums place e) (of album)
stands_at of album rows albums place d e inside same all =
    subst (λ (n : ℕ). IsAlbumOf (get_or albums place e) (of n)) same
    (AllZip-at (λ (r : AlbumRow) (kept : Kept). IsAlbumOf kept (of r.id)) rows albums place d e all inside)

-- with a recording of a row more, where the row is in an album
pub with_row_in : (of : ℕ → List (ℕ × Measured)) (row : RecordingRow) (album : ℕ) (m : Measured) (rows : List AlbumRow) (albums : List Kept)
    → row.album ≡ Some album → AreAlbumsOf (with_one album row.id m of) rows albums → AreAlbumsOf (with_row row m of) rows albums
with_row_in of row album m rows albums is all =
    AllZip-weaken (λ (a : AlbumRow). Unit {0}) (λ a kept. IsAlbumOf kept (with_one album row.id m of a.id))
    (λ a kept. IsAlbumOf kept (with_row row m of a.id))
    (λ a kept any stands. subst (λ (l : List (ℕ × Measured)). IsAlbumOf kept l) (same a.id) stands)
    rows albums (AllByRecursion-any (λ (a : AlbumRow). Unit {0}) (λ a. tt) rows) all
  where
    same : (other : ℕ) → with_one album row.id m of other ≡ with_row row m of other
    same other = rw is refl

pub stands_any : (of : ℕ → List (ℕ × Measured)) (album : ℕ) (rows : List AlbumRow) (albums : List Kept) (place : ℕ) (e : Kept)
    → place < length rows → ((d : AlbumRow) → (get_or rows place d).id ≡ album) → AreAlbumsOf of rows albums
    → IsAlbumOf (get_or albums place e) (of album)
stands_any of album [] albums place e inside same all = absurd (omega (arith, inside))
stands_any of album (r ∷ rows) albums place e inside same all = stands_at of album (r ∷ rows) albums place r e inside (same r) all
