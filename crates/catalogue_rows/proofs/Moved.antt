-- What albums have once a recording is put or dropped.
use Rattle.std.proofs.Common.{◌≡◌, ◌≢◌, ◌<◌, ◌≤◌, ◌==◌, ℕ, zero, suc, Bool, true, false, not, cond, List, [], ◌∷◌, length, map, filter, nat_lt, Option, None, Some, refl, sym, ap, ◌∙◌, subst, arith}
use Rattle.std.specs.List.{AllByRecursion, find}
use Rattle.std.proofs.Math.ListN.{get_or, set}
use Rattle.std.proofs.lemmas.Bool.Decides.{nat_tests}
use Rattle.lib_base.specs.declared.files.Measured.{Measured}
use Rattle.keeper_store.specs.declared.contents.Tables.{Tables}
use Rattle.keeper_store.specs.declared.row_types.RecordingRow.{RecordingRow}
use Rattle.keeper_store.specs.Puts.{put, without, recording_less, recording_id, Ascends, IsFirstOfNumber}
use Rattle.keeper_store.proofs.Putting.{All-at}
use Rattle.album_merge.specs.Members.{placed, measured_of, with_recording, without_recording, recording_id as id_of}
use Rattle.library_model.specs.RowRules.{measured_in, members_in, is_in_album}
use Rattle.catalogue_rows.specs.Holding.{album_of}
use Rattle.catalogue_rows.specs.Opening.{with_row}

-- ---- rows above a row

-- the least of numbers that ascend is placed in front
placed_first : {A : Type 0} (number : A → ℕ) (item : A) (xs : List A) → AllByRecursion (λ x. number item < number x) xs
    → item ∷ xs ≡ placed number item xs
placed_first number item [] above = refl
placed_first number item (x ∷ xs) above =
    let first : number item < number x = above.0 in
    let test : nat_lt (number x) (number item) ≡ false = grind (arith, nat_tests, first) in
    rw test refl

-- rows with greater ids have greater ids in their album
above_in : (t : Tables) (id other : ℕ) (rows : List RecordingRow) → AllByRecursion (λ (r : RecordingRow). nat_lt id r.id ≡ true) rows
    → AllByRecursion (λ (x : ℕ × Measured). id < x.0) (album_of t rows other)
above_in t id other [] above = tt
above_in t id other (r ∷ rows) above = cases (above_in t id other rows above.1) (is_in_album other r.album)
  where
    first : nat_lt id r.id ≡ true
    first = above.0

    cases : AllByRecursion (λ (x : ℕ × Measured). id < x.0) (album_of t rows other) → (here : Bool)
        → AllByRecursion (λ (x : ℕ × Measured). id < x.0)
        (map (λ (s : RecordingRow). (s.id, measured_in t s)) (cond here (r ∷ members_in other rows) (members_in other rows)))
    cases rest true = (grind (arith, nat_tests, first), rest)
    cases rest false = rest

-- a row in front of rows with greater ids
front : (t : Tables) (row : RecordingRow) (rows : List RecordingRow) (other : ℕ)
    → AllByRecursion (λ (r : RecordingRow). nat_lt row.id r.id ≡ true) rows
    → album_of t (row ∷ rows) other ≡ with_row row (measured_in t row) (album_of t rows) other
front t row rows other above = cases (is_in_album other row.album)
  where
    cases : (here : Bool) → map (λ (s : RecordingRow). (s.id, measured_in t s)) (cond here (row ∷ members_in other rows) (members_in other rows))
        ≡ cond here (with_recording row.id (measured_in t row) (album_of t rows other)) (album_of t rows other)
    cases true = placed_first id_of (row.id, measured_in t row) (album_of t rows other) (above_in t row.id other rows above)
    cases false = refl

-- rows that stand behind one with a greater id have greater ids
chained : (id : ℕ) (r : RecordingRow) (rows : List RecordingRow) → nat_lt id r.id ≡ true
    → AllByRecursion (λ (s : RecordingRow). nat_lt r.id s.id ≡ true) rows → AllByRecursion (λ (s : RecordingRow). nat_lt id s.id ≡ true) rows
chained id r [] first all = tt
chained id r (s ∷ rows) first all =
    let next : nat_lt r.id s.id ≡ true = all.0 in
    (grind (arith, nat_tests, first, next), chained id r rows first all.1)

-- ---- rows in the order of numbers

-- without a number that all rows are above, they are as they were
pub without_below : {A : Type 0} (number : A → ℕ) (n : ℕ) (xs : List A) → AllByRecursion (λ x. nat_lt n (number x) ≡ true) xs
    → without number n xs ≡ xs
without_below number n [] above = refl
without_below {A} number n (x ∷ xs) above =
    let first : nat_lt n (number x) ≡ true = above.0 in
    let differs : (number x == n) ≡ false = grind (arith, nat_tests, first) in
    rw differs (ap (λ (l : List A). x ∷ l) (without_below number n xs above.1))

-- rows above one of the same number
as_high : {A : Type 0} (number : A → ℕ) (x y : A) (xs : List A) → number x ≡ number y
    → AllByRecursion (λ z. nat_lt (number x) (number z) ≡ true) xs → AllByRecursion (λ z. nat_lt (number y) (number z) ≡ true) xs
as_high number x y [] same all = tt
as_high number x y (z ∷ xs) same all =
    let first : nat_lt (number x) (number z) ≡ true = all.0 in
    (grind (arith, nat_tests, first, same), as_high number x y xs same all.1)

-- ---- put and dropped

-- With a recording put, each album has what it had without it, and its own has it.
pub album_put : (t : Tables) (row : RecordingRow) (rows : List RecordingRow) (other : ℕ) → Ascends recording_less rows
    → album_of t (put recording_less row rows) other
    ≡ with_row row (measured_in t row) (album_of t (without recording_id row.id rows)) other
album_put t row [] other rise = front t row [] other tt
album_put t row (r ∷ rows) other rise =
    cases (album_put t row rows other rise.1) (nat_lt r.id row.id) refl (nat_lt row.id r.id) refl
  where
    f : RecordingRow → ℕ × Measured
    f s = (s.id, measured_in t s)

    Left : List RecordingRow
    Left = without recording_id row.id rows

    later : nat_lt r.id row.id ≡ true → (inside here : Bool)
        → album_of t (put recording_less row rows) other
        ≡ cond here (with_recording row.id (measured_in t row) (album_of t Left other)) (album_of t Left other)
        → map (λ (s : RecordingRow). (s.id, measured_in t s))
        (cond inside (r ∷ members_in other (put recording_less row rows)) (members_in other (put recording_less row rows)))
        ≡ cond here
        (with_recording row.id (measured_in t row)
        (map (λ (s : RecordingRow). (s.id, measured_in t s)) (cond inside (r ∷ members_in other Left) (members_in other Left))))
        (map (λ (s : RecordingRow). (s.id, measured_in t s)) (cond inside (r ∷ members_in other Left) (members_in other Left)))
    later less true true rest = rw less (ap (λ (l : List (ℕ × Measured)). f r ∷ l) rest)
    later less true false rest = ap (λ (l : List (ℕ × Measured)). f r ∷ l) rest
    later less false here rest = rest

    cases : album_of t (put recording_less row rows) other ≡ with_row row (measured_in t row) (album_of t Left) other
        → (first : Bool) → nat_lt r.id row.id ≡ first → (second : Bool) → nat_lt row.id r.id ≡ second
        → album_of t (cond first (r ∷ put recording_less row rows) (cond second (row ∷ r ∷ rows) (row ∷ rows))) other
        ≡ with_row row (measured_in t row) (album_of t (without recording_id row.id (r ∷ rows))) other
    cases rest true is second also =
        let differs : (r.id == row.id) ≡ false = grind (arith, nat_tests, is) in
        rw differs (later is (is_in_album other r.album) (is_in_album other row.album) rest)
    cases rest false is true also =
        let above : AllByRecursion (λ (s : RecordingRow). nat_lt row.id s.id ≡ true) (r ∷ rows) =
        (also, chained row.id r rows also rise.0) in
        front t row (r ∷ rows) other above
        ∙ ap (λ (l : List RecordingRow). with_row row (measured_in t row) (album_of t l) other)
        (sym (without_below recording_id row.id (r ∷ rows) above))
    cases rest false is false also =
        let same : r.id ≡ row.id = grind (arith, nat_tests, is, also) in
        let test : (r.id == row.id) ≡ true = grind (arith, nat_tests, same) in
        let above = as_high recording_id r row rows same rise.0 in
        rw test
        (front t row rows other above
        ∙ ap (λ (l : List RecordingRow). with_row row (measured_in t row) (album_of t l) other)
        (sym (without_below recording_id row.id rows above)))

-- With a recording dropped, each album has what it had without it.
pub album_without : (t : Tables) (id : ℕ) (rows : List RecordingRow) (other : ℕ)
    → album_of t (without recording_id id rows) other ≡ without_recording id (album_of t rows other)
album_without t id [] other = refl
album_without t id (r ∷ rows) other =
    cases (album_without t id rows other) (r.id == id) refl (is_in_album other r.album) refl
  where
    f : RecordingRow → ℕ × Measured
    f s = (s.id, measured_in t s)

    Left : List RecordingRow
    Left = without recording_id id rows

    cases : album_of t Left other ≡ without_recording id (album_of t rows other) → (same : Bool) → (r.id == id) ≡ same
        → (inside : Bool) → is_in_album other r.album ≡ inside
        → album_of t (cond (not same) (r ∷ Left) Left) other
        ≡ without_recording id (map (λ (s : RecordingRow). (s.id, measured_in t s)) (cond inside (r ∷ members_in other rows) (members_in other rows)))
    cases rest true is true at = rw is rest
    cases rest true is false at = rest
    cases rest false is true at = rw (at, is) (ap (λ (l : List (ℕ × Measured)). f r ∷ l) rest)
    cases rest false is false at = rw at rest

-- An album that has not the recording has the same without it.
pub album_other : (t : Tables) (id : ℕ) (rows : List RecordingRow) (other : ℕ)
    → AllByRecursion (λ (r : RecordingRow). r.id ≡ id → is_in_album other r.album ≡ false) rows
    → album_of t (without recording_id id rows) other ≡ album_of t rows other
album_other t id [] other apart = refl
album_other t id (r ∷ rows) other apart =
    cases (album_other t id rows other apart.1) (r.id == id) refl (is_in_album other r.album) refl
  where
    f : RecordingRow → ℕ × Measured
    f s = (s.id, measured_in t s)

    Left : List RecordingRow
    Left = without recording_id id rows

    cases : album_of t Left other ≡ album_of t rows other → (same : Bool) → (r.id == id) ≡ same
        → (inside : Bool) → is_in_album other r.album ≡ inside
        → album_of t (cond (not same) (r ∷ Left) Left) other
        ≡ map (λ (s : RecordingRow). (s.id, measured_in t s)) (cond inside (r ∷ members_in other rows) (members_in other rows))
    cases rest true is true at =
        let same : r.id ≡ id = grind (arith, nat_tests, is) in
        let outside : is_in_album other r.album ≡ false = apart.0 same in
        absurd (cc (sym at ∙ outside))
    cases rest true is false at = rest
    cases rest false is true at = rw at (ap (λ (l : List (ℕ × Measured)). f r ∷ l) rest)
    cases rest false is false at = rw at rest

-- What is measured the same of the others gives the same albums of them.
pub album_measured : (t next : Tables) (id : ℕ) (rows : List RecordingRow) (other : ℕ)
    → AllByRecursion (λ (r : RecordingRow). r.id ≢ id → measured_in next r ≡ measured_in t r) rows
    → album_of next (without recording_id id rows) other ≡ album_of t (without recording_id id rows) other
album_measured t next id [] other same = refl
album_measured t next id (r ∷ rows) other same =
    cases (album_measured t next id rows other same.1) (r.id == id) refl (is_in_album other r.album) refl
  where
    Left : List RecordingRow
    Left = without recording_id id rows

    cases : album_of next Left other ≡ album_of t Left other → (this : Bool) → (r.id == id) ≡ this
        → (inside : Bool) → is_in_album other r.album ≡ inside
        → album_of next (cond (not this) (r ∷ Left) Left) other ≡ album_of t (cond (not this) (r ∷ Left) Left) other
    cases rest true is inside at = rest
    cases rest false is true at =
        let apart : r.id ≢ id = grind (arith, nat_tests, is) in
        let first : measured_in next r ≡ measured_in t r = same.0 apart in
        rw at
        (ap (λ (m : Measured). (r.id, m) ∷ album_of next Left other) first
        ∙ ap (λ (l : List (ℕ × Measured)). (r.id, measured_in t r) ∷ l) rest)
    cases rest false is false at = rw at rest

-- what is measured of an album's recordings
pub measured_album : (t : Tables) (rows : List RecordingRow) (id : ℕ)
    → measured_of (album_of t rows id) ≡ map (measured_in t) (members_in id rows)
measured_album t rows id = parts (members_in id rows)
  where
    parts : (rs : List RecordingRow) → measured_of (map (λ (s : RecordingRow). (s.id, measured_in t s)) rs) ≡ map (measured_in t) rs
    parts [] = refl
    parts (r ∷ rs) = ap (λ (l : List Measured). measured_in t r ∷ l) (parts rs)

-- ---- rows of one number

-- A row put where those of its number were dropped is put over them.
pub put-without : {A : Type 0} (less : A → A → Bool) (number : A → ℕ) → ((a b : A) → less a b ≡ nat_lt (number a) (number b))
    → (row : A) (rows : List A) → Ascends less rows → put less row (without number (number row) rows) ≡ put less row rows
put-without less number told row [] rise = refl
put-without {A} less number told row (r ∷ rows) rise =
    cases (put-without less number told row rows rise.1) (nat_lt (number r) (number row)) refl (nat_lt (number row) (number r)) refl
  where
    Left : List A
    Left = without number (number row) rows

    higher : (rs : List A) → AllByRecursion (λ s. less r s ≡ true) rs → AllByRecursion (λ s. nat_lt (number r) (number s) ≡ true) rs
    higher [] all = tt
    higher (s ∷ rs) all = (sym (told r s) ∙ all.0, higher rs all.1)

    in_front : (rs : List A) → AllByRecursion (λ s. nat_lt (number row) (number s) ≡ true) rs → put less row rs ≡ row ∷ rs
    in_front [] all = refl
    in_front (s ∷ rs) all =
        let first : nat_lt (number row) (number s) ≡ true = all.0 in
        let not_below : nat_lt (number s) (number row) ≡ false = grind (arith, nat_tests, first) in
        rw (told s row, told row s, not_below, first) refl

    through : (rs : List A) → nat_lt (number row) (number r) ≡ true → AllByRecursion (λ s. nat_lt (number r) (number s) ≡ true) rs
        → AllByRecursion (λ s. nat_lt (number row) (number s) ≡ true) rs
    through [] less_row all = tt
    through (s ∷ rs) less_row all =
        let next : nat_lt (number r) (number s) ≡ true = all.0 in
        (grind (arith, nat_tests, less_row, next), through rs less_row all.1)

    cases : put less row Left ≡ put less row rows
        → (first : Bool) → nat_lt (number r) (number row) ≡ first → (second : Bool) → nat_lt (number row) (number r) ≡ second
        → put less row (without number (number row) (r ∷ rows)) ≡ put less row (r ∷ rows)
    cases rest true is second also =
        let differs : (number r == number row) ≡ false = grind (arith, nat_tests, is) in
        rw (differs, told r row, is) (ap (λ (l : List A). r ∷ l) rest)
    cases rest false is true also =
        let above = through rows also (higher rows rise.0) in
        ap (put less row) (without_below number (number row) (r ∷ rows) (also, above))
    cases rest false is false also =
        let same : number r ≡ number row = grind (arith, nat_tests, is, also) in
        let test : (number r == number row) ≡ true = grind (arith, nat_tests, same) in
        let above = as_high number r row rows same (higher rows rise.0) in
        rw (test, told r row, told row r, is, also)
        (ap (put less row) (without_below number (number row) rows above) ∙ in_front rows above)

-- A row in the place of the one of its number is put over it.
pub set_is_put : {A : Type 0} (less : A → A → Bool) (number : A → ℕ) → ((a b : A) → less a b ≡ nat_lt (number a) (number b))
    → (row : A) (n : ℕ) (xs : List A) (place : ℕ) → Ascends less xs → IsFirstOfNumber number n xs place → number row ≡ n
    → set xs place row ≡ put less row xs
set_is_put less number told row n [] place rise at same = let inside = at.inside in absurd (omega (arith, inside))
set_is_put less number told row n (x ∷ xs) zero rise at same =
    let here = at.same x in
    let not_below : nat_lt (number x) (number row) ≡ false = grind (arith, nat_tests, here, same) in
    let not_above : nat_lt (number row) (number x) ≡ false = grind (arith, nat_tests, here, same) in
    rw (told x row, told row x, not_below, not_above) refl
set_is_put {A} less number told row n (x ∷ xs) (suc place) rise at same =
    let inside = at.inside in
    let up : nat_lt (number x) (number (get_or xs place x)) ≡ true =
    sym (told x (get_or xs place x)) ∙ All-at (λ y. less x y ≡ true) xs rise.0 place x (omega (arith, inside)) in
    let there = at.same x in
    let below : nat_lt (number x) (number row) ≡ true = grind (arith, nat_tests, up, there, same) in
    rw (told x row, below)
    (ap (λ (l : List A). x ∷ l)
    (set_is_put less number told row n xs place rise.1
    (record {
      inside = omega (arith, inside);
      same = at.same;
      before = λ i d less_i. at.before (suc i) d (omega (arith, less_i));
    }) same))

-- rows with another at a place, without its number
pub without-set : {A : Type 0} (number : A → ℕ) (n : ℕ) (xs : List A) (place : ℕ) (x : A) → number x ≡ n
    → ((d : A) → number (get_or xs place d) ≡ n) → without number n (set xs place x) ≡ without number n xs
without-set number n [] place x same at = refl
without-set number n (y ∷ xs) zero x same at =
    let here : (number x == n) ≡ true = grind (arith, nat_tests, same) in
    let first = at x in
    let there : (number y == n) ≡ true = grind (arith, nat_tests, first) in
    rw (here, there) refl
without-set {A} number n (y ∷ xs) (suc place) x same at = cases (without-set number n xs place x same at) (number y == n)
  where
    cases : without number n (set xs place x) ≡ without number n xs → (here : Bool)
        → cond (not here) (y ∷ without number n (set xs place x)) (without number n (set xs place x))
        ≡ cond (not here) (y ∷ without number n xs) (without number n xs)
    cases rest true = rest
    cases rest false = ap (λ (l : List A). y ∷ l) rest

-- Of ascending rows the one that is found by its id is the only one of it.
pub only_found : (id : ℕ) (rows : List RecordingRow) (row : RecordingRow) → Ascends recording_less rows
    → find (λ (r : RecordingRow). r.id == id) rows ≡ Some row → AllByRecursion (λ (r : RecordingRow). r.id ≡ id → r ≡ row) rows
only_found id [] row rise found = tt
only_found id (r ∷ rows) row rise found = cases (λ more. only_found id rows row rise.1 more) (r.id == id) refl found
  where
    others : (rs : List RecordingRow) → r.id ≡ id → AllByRecursion (λ (s : RecordingRow). nat_lt r.id s.id ≡ true) rs
        → AllByRecursion (λ (s : RecordingRow). s.id ≡ id → s ≡ row) rs
    others [] is all = tt
    others (s ∷ rs) is all =
        let up : nat_lt r.id s.id ≡ true = all.0 in
        ((λ same. absurd (grind (arith, nat_tests, up, is, same))), others rs is all.1)

    cases : (find (λ (s : RecordingRow). s.id == id) rows ≡ Some row → AllByRecursion (λ (s : RecordingRow). s.id ≡ id → s ≡ row) rows)
        → (here : Bool) → (r.id == id) ≡ here → cond here (Some r) (find (λ (s : RecordingRow). s.id == id) rows) ≡ Some row
        → AllByRecursion (λ (s : RecordingRow). s.id ≡ id → s ≡ row) (r ∷ rows)
    cases rest true is at =
        let same : r.id ≡ id = grind (arith, nat_tests, is) in
        ((λ _. cc at), others rows same rise.0)
    cases rest false is at = ((λ same. absurd (grind (arith, nat_tests, is, same))), rest at)
