-- Rows put in their places.
use Rattle.std.proofs.Common.{◌≡◌, ◌↔◌, true≢false, ◌<◌, ◌≤◌, ◌+◌, ℕ, Bool, true, false, List, [], ◌∷◌, ◌++◌, cond, length, take, drop, refl, sym, ap, ◌∙◌, add-one, zero, suc, arith}
use Rattle.std.proofs.Math.ListN.{get_or, set}
use Rattle.std.proofs.Math.Seq.{drop-cons}
use Rattle.std.proofs.lemmas.List.{take-append-drop, take-set, drop-set}
use Rattle.std.specs.Prelude.{map}
use Rattle.std.specs.List.{AllByRecursion, IsAllAdjacentAnswer}
use Rattle.keeper_store.specs.Puts.{put, IsOrder, Ascends}

-- a put seen through a function that keeps the order
pub map-put : {A B : Type 0} → (less : A → A → Bool) (less' : B → B → Bool) (f : A → B)
    → ((a b : A) → less' (f a) (f b) ≡ less a b) → (x : A) (xs : List A)
    → map f (put less x xs) ≡ put less' (f x) (map f xs)
map-put less less' f same x [] = refl
map-put {A} {B} less less' f same x (y ∷ ys) =
    rw (same y x, same x y, ← map-put less less' f same x ys) (cases (less y x) (less x y))
  where
    cases : (first second : Bool)
        → map f (cond first (y ∷ put less x ys) (cond second (x ∷ y ∷ ys) (x ∷ ys)))
        ≡ cond first (f y ∷ map f (put less x ys)) (cond second (f x ∷ f y ∷ map f ys) (f x ∷ map f ys))
    cases true second = refl
    cases false true = refl
    cases false false = refl

-- a row put over the row that stands in its place
pub put-over : {A : Type 0} → (less : A → A → Bool) (row x : A) (xs : List A) (i : ℕ) → i < length xs → x ≡ get_or xs i x
    → less x row ≡ false → less row x ≡ false → put less row xs ≡ take i xs ++ put less row (drop i xs)
    → set xs i row ≡ put less row xs
put-over less row x xs i within is not_below not_above split =
    let cut : drop i xs ≡ x ∷ drop (i + 1) xs =
    rw add-one (drop-cons xs i x within ∙ ap (λ y. y ∷ drop (suc i) xs) (sym is)) in
    let there : put less row (drop i xs) ≡ row ∷ drop (i + 1) xs = rw cut (rw (not_below, not_above) refl) in
    sym (take-append-drop i (set xs i row)) ∙ rw (take-set xs i row, drop-set xs i row within, ← there) (sym split)

-- what holds of all rows holds of the one at a place
pub All-at : {A : Type 0} → (P : A → Type 0) (xs : List A) → AllByRecursion P xs → (i : ℕ) (d : A) → i < length xs → P (get_or xs i d)
All-at P [] all i d within = absurd (omega (arith, within))
All-at P (x ∷ xs) all zero d within = all.0
All-at P (x ∷ xs) all (suc i) d within = All-at P xs all.1 i d (omega (arith, within))

-- of two ascending rows the former is less
pub Ascends-at : {A : Type 0} → (less : A → A → Bool) (xs : List A) → Ascends less xs → (i j : ℕ) (d : A) → i < j → j < length xs
    → less (get_or xs i d) (get_or xs j d) ≡ true
Ascends-at less [] rise i j d before within = absurd (omega (arith, within))
Ascends-at less (x ∷ xs) rise i zero d before within = absurd (omega (arith, before))
Ascends-at less (x ∷ xs) rise zero (suc j) d before within = All-at (λ a. less x a ≡ true) xs rise.0 j d (omega (arith, within))
Ascends-at less (x ∷ xs) rise (suc i) (suc j) d before within =
    Ascends-at less xs rise.1 i j d (omega (arith, before)) (omega (arith, within))

-- no row comes before one that it follows, so those that are less than a row stand in front
pub before_less : {A : Type 0} → (less : A → A → Bool) → IsOrder less → (row : A) (xs : List A) → Ascends less xs
    → (i j : ℕ) (d : A) → i ≤ j → j < length xs → less (get_or xs j d) row ≡ true → less (get_or xs i d) row ≡ true
before_less less order row [] rise i j d at_most within below = absurd (omega (arith, within))
before_less less order row (x ∷ xs) rise zero zero d at_most within below = below
before_less less order row (x ∷ xs) rise zero (suc j) d at_most within below =
    order.chain x (get_or xs j d) row (All-at (λ a. less x a ≡ true) xs rise.0 j d (omega (arith, within))) below
before_less less order row (x ∷ xs) rise (suc i) zero d at_most within below = absurd (omega (arith, at_most))
before_less less order row (x ∷ xs) rise (suc i) (suc j) d at_most within below =
    before_less less order row xs rise.1 i j d (omega (arith, at_most)) (omega (arith, within)) below

-- a row is put behind rows that are less
pub put-behind : {A : Type 0} → (less : A → A → Bool) (row : A) (xs : List A) (n : ℕ) → n ≤ length xs
    → ((k : ℕ) (d : A) → k < n → less (get_or xs k d) row ≡ true) → put less row xs ≡ take n xs ++ put less row (drop n xs)
put-behind less row [] zero within below = refl
put-behind less row [] (suc n) within below = absurd (omega (arith, within))
put-behind less row (x ∷ xs) zero within below = refl
put-behind {A} less row (x ∷ xs) (suc n) within below =
    rw (below zero x (omega arith))
    (ap (λ (l : List A). x ∷ l) (put-behind less row xs n (omega (arith, within)) (λ k d here. below (suc k) d (omega (arith, here)))))

-- a put takes no row away
pub le-length-put : {A : Type 0} → (less : A → A → Bool) (x : A) (xs : List A) → length xs ≤ length (put less x xs)
le-length-put less x [] = omega arith
le-length-put {A} less x (y ∷ ys) = cases (le-length-put less x ys) (less y x) (less x y)
  where
    cases : length ys ≤ length (put less x ys) → (first second : Bool)
        → length (y ∷ ys) ≤ length (cond first (y ∷ put less x ys) (cond second (x ∷ y ∷ ys) (x ∷ ys)))
    cases more true second = omega arith
    cases more false true = omega arith
    cases more false false = omega arith

-- a put adds one row at most
pub length-put-le : {A : Type 0} → (less : A → A → Bool) (x : A) (xs : List A) → length (put less x xs) ≤ length xs + 1
length-put-le less x [] = omega arith
length-put-le {A} less x (y ∷ ys) = cases (length-put-le less x ys) (less y x) (less x y)
  where
    cases : length (put less x ys) ≤ length ys + 1 → (first second : Bool)
        → length (cond first (y ∷ put less x ys) (cond second (x ∷ y ∷ ys) (x ∷ ys))) ≤ length (y ∷ ys) + 1
    cases more true second = omega arith
    cases more false true = omega arith
    cases more false false = omega arith

-- what holds of a row and of all rows holds of all of them after the row is put
pub AllByRecursion-put : {A : Type 0} → (P : A → Type 0) (less : A → A → Bool) (x : A) (xs : List A)
    → P x → AllByRecursion P xs → AllByRecursion P (put less x xs)
AllByRecursion-put P less x [] here all = (here, tt)
AllByRecursion-put {A} P less x (y ∷ ys) here all =
    cases (AllByRecursion-put P less x ys here all.1) (less y x) (less x y)
  where
    cases : AllByRecursion P (put less x ys) → (first second : Bool)
        → AllByRecursion P (cond first (y ∷ put less x ys) (cond second (x ∷ y ∷ ys) (x ∷ ys)))
    cases more true second = (all.0, more)
    cases more false true = (here, all)
    cases more false false = (here, all.1)

-- a fact that follows from another holds of all rows of which the other does
pub AllByRecursion-weaken : {A : Type 0} → (P Q : A → Type 0) → ((a : A) → P a → Q a) → (xs : List A)
    → AllByRecursion P xs → AllByRecursion Q xs
AllByRecursion-weaken P Q follows [] all = tt
AllByRecursion-weaken P Q follows (x ∷ xs) all = (follows x all.0, AllByRecursion-weaken P Q follows xs all.1)

-- rows that ascend still do after a put
pub Ascends-put : {A : Type 0} → (less : A → A → Bool) → IsOrder less → (x : A) (xs : List A)
    → Ascends less xs → Ascends less (put less x xs)
Ascends-put less order x [] rise = (tt, tt)
Ascends-put {A} less order x (y ∷ ys) rise =
    cases (Ascends-put less order x ys rise.1) (less y x) (less x y) refl refl
  where
    cases : Ascends less (put less x ys) → (first second : Bool) → less y x ≡ first → less x y ≡ second
        → Ascends less (cond first (y ∷ put less x ys) (cond second (x ∷ y ∷ ys) (x ∷ ys)))
    cases more true second below above =
        (AllByRecursion-put (λ a. less y a ≡ true) less x ys below rise.0, more)
    cases more false true below above = (
      (above, AllByRecursion-weaken (λ a. less y a ≡ true) (λ a. less x a ≡ true) (λ a. order.chain x y a above) ys rise.0),
      rise,
    )
    cases more false false below above = (
      AllByRecursion-weaken (λ a. less y a ≡ true) (λ a. less x a ≡ true) (λ a. order.level x y a above below) ys rise.0,
      rise.1,
    )

-- rows of which each is less than the next ascend
pub Ascends-next : {A : Type 0} → (less : A → A → Bool) → IsOrder less → (xs : List A)
    → ((k : ℕ) (d : A) → suc k < length xs → less (get_or xs k d) (get_or xs (suc k) d) ≡ true) → Ascends less xs
Ascends-next less order [] next = tt
Ascends-next less order (x ∷ []) next = (tt, tt)
Ascends-next less order (x ∷ y ∷ ys) next =
    let rest = Ascends-next less order (y ∷ ys) (λ k d within. next (suc k) d (omega (arith, within))) in
    let first : less x y ≡ true = next zero x (omega arith) in (
      (first, AllByRecursion-weaken (λ a. less y a ≡ true) (λ a. less x a ≡ true) (λ a. order.chain x y a first) ys rest.0),
      rest,
    )

-- a test of each row and the next tells whether rows ascend
pub tested_Ascends : {A : Type 0} → (less : A → A → Bool) → IsOrder less → (xs : List A) (tested : Bool)
    → IsAllAdjacentAnswer (λ x y b. b ≡ less x y) xs tested → (tested ≡ true) ↔ Ascends less xs
tested_Ascends less order xs true answer =
    (λ _. Ascends-next less order xs (λ k d within. sym (rw add-one at (answer k d (omega (arith, within))))), λ _. refl)
tested_Ascends less order [] false (k, within, differs) = absurd (omega (arith, within))
tested_Ascends less order (x ∷ xs) false (k, within, differs) = (
  λ is. absurd (true≢false (sym is)),
  λ rise. absurd (true≢false (sym (Ascends-at less (x ∷ xs) rise k (k + 1) x (omega arith) within) ∙ sym (differs x))),
)
