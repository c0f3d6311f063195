-- Rows taken out of their places, and rows put where they are.
use Rattle.std.proofs.Common.{◌≡◌, ◌≢◌, ◌==◌, ◌<◌, ◌≤◌, ℕ, Bool, true, false, not, nat_lt, List, [], ◌∷◌, cond, length, zero, suc, refl, sym, ap, ◌∙◌, subst, inl, inr, arith}
use Rattle.std.proofs.Math.ListN.{get_or}
use Rattle.std.proofs.lemmas.Bool.Decides.{nat_tests, leb_tells, eqb_tells}
use Rattle.std.proofs.lemmas.List.Elements.{at_read}
use Rattle.std.specs.Prelude.{map, remove}
use Rattle.std.specs.List.{AllByRecursion}
use Rattle.keeper_store.specs.Puts.{put, without, Ascends, IsPlaceOfNumber}
use Rattle.keeper_store.proofs.Putting.{All-at, Ascends-at}

-- rows taken out, seen through a function that keeps the numbers
pub map-without : {A B : Type 0} → (number : A → ℕ) (number' : B → ℕ) (f : A → B) → ((a : A) → number' (f a) ≡ number a)
    → (n : ℕ) (xs : List A) → map f (without number n xs) ≡ without number' n (map f xs)
map-without number number' f same n [] = refl
map-without {A} number number' f same n (x ∷ xs) =
    rw (same x, ← map-without number number' f same n xs) (cases (number x == n))
  where
    cases : (here : Bool)
        → map f (cond (not here) (x ∷ without number n xs) (without number n xs))
        ≡ cond (not here) (f x ∷ map f (without number n xs)) (map f (without number n xs))
    cases true = refl
    cases false = refl

-- what holds of all rows holds of those that are left
pub AllByRecursion-without : {A : Type 0} → (P : A → Type 0) (number : A → ℕ) (n : ℕ) (xs : List A)
    → AllByRecursion P xs → AllByRecursion P (without number n xs)
AllByRecursion-without P number n [] all = tt
AllByRecursion-without {A} P number n (x ∷ xs) all = cases (AllByRecursion-without P number n xs all.1) (number x == n)
  where
    cases : AllByRecursion P (without number n xs) → (here : Bool)
        → AllByRecursion P (cond (not here) (x ∷ without number n xs) (without number n xs))
    cases rest true = rest
    cases rest false = (all.0, rest)

-- rows that ascend still do where rows are taken out
pub Ascends-without : {A : Type 0} → (less : A → A → Bool) (number : A → ℕ) (n : ℕ) (xs : List A)
    → Ascends less xs → Ascends less (without number n xs)
Ascends-without less number n [] rise = tt
Ascends-without {A} less number n (x ∷ xs) rise = cases (Ascends-without less number n xs rise.1) (number x == n)
  where
    cases : Ascends less (without number n xs) → (here : Bool)
        → Ascends less (cond (not here) (x ∷ without number n xs) (without number n xs))
    cases rest true = rest
    cases rest false = (AllByRecursion-without (λ a. less x a ≡ true) number n xs rise.0, rest)

-- where no row has the number, none is taken out
pub without-none : {A : Type 0} → (number : A → ℕ) (n : ℕ) (xs : List A)
    → ((k : ℕ) (d : A) → k < length xs → number (get_or xs k d) ≢ n) → without number n xs ≡ xs
without-none number n [] none = refl
without-none {A} number n (x ∷ xs) none =
    let first = none zero x (omega arith) in
    let differs : (number x == n) ≡ false = grind (arith, nat_tests, first) in
    rw differs
    (ap (λ (l : List A). x ∷ l) (without-none number n xs (λ k d within. none (suc k) d (omega (arith, within)))))

-- where one row has the number, that one is taken out
pub without-one : {A : Type 0} → (number : A → ℕ) (n : ℕ) (xs : List A) (place : ℕ) → place < length xs
    → ((d : A) → number (get_or xs place d) ≡ n)
    → ((k : ℕ) (d : A) → k < length xs → k ≢ place → number (get_or xs k d) ≢ n) → without number n xs ≡ remove xs place
without-one number n [] place within is others = absurd (omega (arith, within))
without-one number n (x ∷ xs) zero within is others =
    let first = is x in
    let same : (number x == n) ≡ true = grind (arith, nat_tests, first) in
    rw same (without-none number n xs (λ k d here. others (suc k) d (omega (arith, here)) (omega arith)))
without-one {A} number n (x ∷ xs) (suc place) within is others =
    let first = others zero x (omega arith) (omega arith) in
    let differs : (number x == n) ≡ false = grind (arith, nat_tests, first) in
    rw differs
    (ap (λ (l : List A). x ∷ l)
    (without-one number n xs place (omega (arith, within)) is
    (λ k d here apart. others (suc k) d (omega (arith, here)) (omega (arith, apart)))))

-- rows with lesser numbers stand in front
pub lesser_in_front : {A : Type 0} → (less : A → A → Bool) (number : A → ℕ)
    → ((a b : A) → less a b ≡ nat_lt (number a) (number b)) → (n : ℕ) (xs : List A) → Ascends less xs
    → (i j : ℕ) (d : A) → i ≤ j → j < length xs
    → nat_lt (number (get_or xs j d)) n ≡ true → nat_lt (number (get_or xs i d)) n ≡ true
lesser_in_front less number told n xs rise i j d at_most within below =
    elim (eqb_tells i j) [
      | inl h ↦ subst (λ (k : ℕ). nat_lt (number (get_or xs k d)) n ≡ true) (sym h.1) below
      | inr h ↦
          let differs = h.1 in
          let up : nat_lt (number (get_or xs i d)) (number (get_or xs j d)) ≡ true =
          sym (told (get_or xs i d) (get_or xs j d)) ∙ Ascends-at less xs rise i j d (omega (arith, at_most, differs)) within in
          grind (arith, nat_tests, up, below)
    ]

-- of ascending rows none has a number but the one at its place
pub others_differ : {A : Type 0} → (less : A → A → Bool) (number : A → ℕ)
    → ((a b : A) → less a b ≡ nat_lt (number a) (number b)) → (n : ℕ) (xs : List A) (place : ℕ) → Ascends less xs
    → IsPlaceOfNumber number n xs place → place < length xs
    → (k : ℕ) (d : A) → k < length xs → k ≢ place → number (get_or xs k d) ≢ n
others_differ less number told n xs place rise at inside k d within apart =
    elim (leb_tells place k) [
      | inr h ↦ let below = at.before k d h.1 in omega (arith, below)
      | inl h ↦
          let behind = h.1 in
          let up : nat_lt (number (get_or xs place d)) (number (get_or xs k d)) ≡ true =
          sym (told (get_or xs place d) (get_or xs k d))
          ∙ Ascends-at less xs rise place k d (omega (arith, apart, behind)) within in
          let greater : number (get_or xs place d) < number (get_or xs k d) = grind (arith, nat_tests, up) in
          let least = at.behind place d (omega arith) inside in
          omega (arith, greater, least)
    ]

-- the row at the place of its number is what a drop takes out
pub without-at : {A : Type 0} → (less : A → A → Bool) (number : A → ℕ)
    → ((a b : A) → less a b ≡ nat_lt (number a) (number b)) → (n : ℕ) (xs : List A) (place : ℕ) (row : A) → Ascends less xs
    → IsPlaceOfNumber number n xs place → place < length xs → row ≡ get_or xs place row → number row ≡ n
    → without number n xs ≡ remove xs place
without-at {A} less number told n xs place row rise at inside is same =
    without-one number n xs place inside (at_read xs (λ (a : A). number a ≡ n) place row inside is same)
    (others_differ less number told n xs place rise at inside)

-- where the row at the place has another number, none is taken out
pub without-missing_at : {A : Type 0} → (less : A → A → Bool) (number : A → ℕ)
    → ((a b : A) → less a b ≡ nat_lt (number a) (number b)) → (n : ℕ) (xs : List A) (place : ℕ) (row : A) → Ascends less xs
    → IsPlaceOfNumber number n xs place → place < length xs → row ≡ get_or xs place row → number row ≢ n
    → without number n xs ≡ xs
without-missing_at {A} less number told n xs place row rise at inside is differs = without-none number n xs other
  where
    there : (d : A) → number (get_or xs place d) ≢ n
    there = at_read xs (λ (a : A). number a ≢ n) place row inside is differs

    other : (k : ℕ) (d : A) → k < length xs → number (get_or xs k d) ≢ n
    other k d within = elim (eqb_tells k place) [
      | inl e ↦ subst (λ (i : ℕ). number (get_or xs i d) ≢ n) (sym e.1) (there d)
      | inr e ↦ others_differ less number told n xs place rise at inside k d within e.1
    ]

-- or where the place is past the last row
pub without-missing_past : {A : Type 0} → (number : A → ℕ) (n : ℕ) (xs : List A) (place : ℕ)
    → IsPlaceOfNumber number n xs place → length xs ≤ place → without number n xs ≡ xs
without-missing_past number n xs place at past =
    without-none number n xs (λ k d within. let below = at.before k d (omega (arith, within, past)) in omega (arith, below))

-- a put over a row that is already there in that form changes nothing
pub put-there : {A : Type 0} → (less : A → A → Bool) (x : A) (xs : List A) → less x x ≡ false → Ascends less xs
    → (i : ℕ) → i < length xs → x ≡ get_or xs i x → put less x xs ≡ xs
put-there less x [] level rise i within is = absurd (omega (arith, within))
put-there less x (y ∷ ys) level rise zero within is = rw (sym is) (rw level refl)
put-there {A} less x (y ∷ ys) level rise (suc i) within is =
    let there : less y (get_or ys i x) ≡ true = All-at (λ a. less y a ≡ true) ys rise.0 i x (omega (arith, within)) in
    let below : less y x ≡ true = subst (λ (a : A). less y a ≡ true) (sym is) there in
    rw below (ap (λ (l : List A). y ∷ l) (put-there less x ys level rise.1 i (omega (arith, within)) is))

-- no number is less than itself
pub lt-itself : (n : ℕ) → nat_lt n n ≡ false
lt-itself n = grind (arith, nat_tests)
