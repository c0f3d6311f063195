-- Rows found by their numbers.
use Rattle.std.proofs.Common.{◌≡◌, ◌≢◌, ◌==◌, ◌<◌, ◌≤◌, ℕ, true, false, nat_lt, Bool, Option, None, Some, List, [], ◌∷◌, length, zero, suc, refl, sym, subst, arith, inl, inr}
use Rattle.std.proofs.Math.ListN.{get_or}
use Rattle.std.specs.Prelude.{All}
use Rattle.std.specs.List.{find}
use Rattle.std.proofs.lemmas.Bool.Decides.{nat_tests, eqb_tells}
use Rattle.std.proofs.lemmas.List.Elements.{at_read, All-head, All-tail}
use Rattle.keeper_store.specs.Puts.{Ascends, IsPlaceOfNumber, IsFirstOfNumber}
use Rattle.keeper_store.proofs.Dropping.{others_differ}

-- the row at the place of its number is the first of it
pub first_at : {A : Type 0} → (number : A → ℕ) (n : ℕ) (xs : List A) (place : ℕ) (row : A)
    → IsPlaceOfNumber number n xs place → place < length xs → row ≡ get_or xs place row → number row ≡ n → IsFirstOfNumber number n xs place
first_at number n xs place row at inside is same = record {
  inside = inside;
  same = at_read xs (λ a. number a ≡ n) place row inside is same;
  before = λ k d here. let below = at.before k d here in omega (arith, below);
}

-- where the row at the place has another number, none has it
pub none_at : {A : Type 0} → (less : A → A → Bool) (number : A → ℕ) → ((a b : A) → less a b ≡ nat_lt (number a) (number b))
    → (n : ℕ) (xs : List A) (place : ℕ) (row : A) → Ascends less xs → IsPlaceOfNumber number n xs place → place < length xs
    → row ≡ get_or xs place row → number row ≢ n → All (λ a. number a ≢ n) xs
none_at {A} less number told n xs place row rise at inside is differs k d within = elim (eqb_tells k place) [
  | inl e ↦ subst (λ (i : ℕ). number (get_or xs i d) ≢ n) (sym e.1) (at_read xs (λ (a : A). number a ≢ n) place row inside is differs d)
  | inr e ↦ others_differ less number told n xs place rise at inside k d within e.1
]

-- past the last row none has it
pub none_past : {A : Type 0} → (number : A → ℕ) (n : ℕ) (xs : List A) (place : ℕ) → IsPlaceOfNumber number n xs place
    → length xs ≤ place → All (λ a. number a ≢ n) xs
none_past number n xs place at past k d within = let below = at.before k d (omega (arith, within, past)) in omega (arith, below)

-- a number that no row has is not found
pub not_found : {A : Type 0} → (number : A → ℕ) (n : ℕ) (xs : List A) → All (λ a. number a ≢ n) xs
    → None ≡ find (λ a. number a == n) xs
not_found number n [] none = refl
not_found number n (x ∷ xs) none =
    let first = All-head (λ a. number a ≢ n) x xs none in
    let differs : (number x == n) ≡ false = grind (arith, nat_tests, first) in
    rw differs (not_found number n xs (All-tail (λ a. number a ≢ n) x xs none))

-- the first row of a number is found
pub found_first : {A : Type 0} → (number : A → ℕ) (n : ℕ) (xs : List A) (place : ℕ) (row : A) → IsFirstOfNumber number n xs place
    → row ≡ get_or xs place row → Some row ≡ find (λ a. number a == n) xs
found_first number n [] place row at is = let inside = at.inside in absurd (omega (arith, inside))
found_first number n (x ∷ xs) zero row at is =
    let same = at.same x in
    let this : (number x == n) ≡ true = grind (arith, nat_tests, same) in
    rw this (rw (sym is) refl)
found_first number n (x ∷ xs) (suc place) row at is =
    let inside = at.inside in
    let first = at.before zero x (omega arith) in
    let differs : (number x == n) ≡ false = grind (arith, nat_tests, first) in
    rw differs
    (found_first number n xs place row
    (record { inside = omega (arith, inside); same = at.same; before = λ k d here. at.before (suc k) d (omega (arith, here)) }) is)
