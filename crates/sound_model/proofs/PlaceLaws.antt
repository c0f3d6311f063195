-- Counts of numbers that pass a test, and the number at a place told by such counts alone.
use Rattle.std.proofs.Common.{◌≡◌, ◌<◌, ◌≤◌, ◌+◌, ℕ, suc, Bool, true, false, not, List, [], ◌∷◌, length, nat_lt, nat_le, ◌==◌, refl, sym, ap, ◌∙◌, arith, cond, zero-add}
use Rattle.std.specs.Prelude.{Contains, count_by, sum_by, filter, ◌&&◌}
use Rattle.std.specs.List.Sorted.{IsPermutation}
use Rattle.std.proofs.lemmas.Bool.Decides.{nat_tests}
use Rattle.std.proofs.lemmas.List.Sums.{sum_by-cons, length-filter}
use Rattle.std.proofs.lemmas.List.Sorted.{sum_by-IsPermutation}
use Rattle.sound_model.specs.Ranges.{IsAtPlace}

-- the sum over what passes a test, as one over the whole list
pub sum_by-filter : (f : ℕ → ℕ) (p : ℕ → Bool) (xs : List ℕ) → sum_by f (filter p xs) ≡ sum_by (λ x. cond (p x) (f x) 0) xs
sum_by-filter f p [] = refl
sum_by-filter f p (x ∷ xs) =
    let rest = sum_by-filter f p xs in
    sym (sum_by-cons (λ x. cond (p x) (f x) 0) x xs ∙ at (p x) rest)
  where
    at : (b : Bool) → sum_by f (filter p xs) ≡ sum_by (λ x. cond (p x) (f x) 0) xs
        → cond b (f x) 0 + sum_by (λ x. cond (p x) (f x) 0) xs ≡ sum_by f (cond b (x ∷ filter p xs) (filter p xs))
    at true rest = ap (λ n. f x + n) (sym rest) ∙ sym (sum_by-cons f x (filter p xs))
    at false rest = zero-add _ ∙ sym rest

-- it doesn't see the order
pub sum_by-filter-permutation : (f : ℕ → ℕ) (p : ℕ → Bool) (xs ys : List ℕ) → IsPermutation xs ys
    → sum_by f (filter p ys) ≡ sum_by f (filter p xs)
sum_by-filter-permutation f p xs ys moved =
    sum_by-filter f p ys ∙ sum_by-IsPermutation (λ x. cond (p x) (f x) 0) xs ys moved ∙ sym (sum_by-filter f p xs)

-- nor does the length
pub length-filter-permutation : (p : ℕ → Bool) (xs ys : List ℕ) → IsPermutation xs ys → length (filter p ys) ≡ length (filter p xs)
length-filter-permutation p xs ys moved =
    length-filter p ys ∙ sum_by-IsPermutation (λ x. cond (p x) 1 0) xs ys moved ∙ sym (length-filter p xs)

-- a filter of a filter keeps what passes both tests
pub filter-filter : (p q : ℕ → Bool) (xs : List ℕ) → filter q (filter p xs) ≡ filter (λ x. p x && q x) xs
filter-filter p q [] = refl
filter-filter p q (x ∷ xs) =
    let rest = filter-filter p q xs in
    elim (p x) as (λ b. filter q (cond b (x ∷ filter p xs) (filter p xs)) ≡ cond (b && q x) (x ∷ filter (λ y. p y && q y) xs) (filter (λ y. p y && q y) xs)) [
      | true ↦ ap (λ (ys : List ℕ). cond (q x) (x ∷ ys) ys) rest
      | false ↦ rest
    ]

-- where fewer are less than a number than are no greater, the number is among them
Contains-between : (e : ℕ) (xs : List ℕ) → count_by (λ (x : ℕ). nat_lt x e) xs < count_by (λ (x : ℕ). nat_le x e) xs → Contains xs e
Contains-between e [] more = absurd (omega arith)
Contains-between e (x ∷ xs) more =
    let less = sum_by-cons (λ x. cond (nat_lt x e) 1 0) x xs in
    let no_greater = sum_by-cons (λ x. cond (nat_le x e) 1 0) x xs in
    at (Contains-between e xs) (nat_lt x e) (nat_le x e) refl refl (rw (less, no_greater) at more)
  where
    at : (count_by (λ (x : ℕ). nat_lt x e) xs < count_by (λ (x : ℕ). nat_le x e) xs → Contains xs e)
        → (b c : Bool) → nat_lt x e ≡ b → nat_le x e ≡ c
        → cond b 1 0 + count_by (λ (x : ℕ). nat_lt x e) xs < cond c 1 0 + count_by (λ (x : ℕ). nat_le x e) xs → Contains (x ∷ xs) e
    at rest false true above within more = (0, omega arith, grind (arith, nat_tests))
    at rest true true above within more = let later = rest (omega arith) in (suc later.0, omega arith, later.2)
    at rest false false above within more = let later = rest (omega arith) in (suc later.0, omega arith, later.2)
    at rest true false above within more = absurd (grind (arith, nat_tests))

-- the two counts tell what stands at a place
pub IsAtPlace-from_counts : (xs : List ℕ) (place e : ℕ) → count_by (λ (x : ℕ). nat_lt x e) xs ≤ place
    → place < count_by (λ (x : ℕ). nat_le x e) xs → IsAtPlace xs place e
IsAtPlace-from_counts xs place e less no_greater = record {
  among = Contains-between e xs (omega arith);
  less = less;
  no_greater = no_greater;
}

-- a count of what passes a test is at most that of what passes one that lets through more
pub count_by-weaker : (p q : ℕ → Bool) (xs : List ℕ) → ((x : ℕ) → p x ≡ true → q x ≡ true) → count_by p xs ≤ count_by q xs
count_by-weaker p q [] more = omega arith
count_by-weaker p q (x ∷ xs) more =
    let rest = count_by-weaker p q xs more in
    rw (sum_by-cons (λ x. cond (p x) 1 0) x xs, sum_by-cons (λ x. cond (q x) 1 0) x xs) (at (p x) (q x) refl refl rest)
  where
    at : (b c : Bool) → p x ≡ b → q x ≡ c → count_by p xs ≤ count_by q xs
        → cond b 1 0 + count_by p xs ≤ cond c 1 0 + count_by q xs
    at true true first second rest = omega arith
    at false c first second rest = omega arith
    at true false first second rest = absurd (let passes = more x first in cc)

-- what is less than the next number is no greater than this one
pub count_by-next : (e : ℕ) (xs : List ℕ) → count_by (λ (x : ℕ). nat_lt x (e + 1)) xs ≤ count_by (λ (x : ℕ). nat_le x e) xs
count_by-next e xs = count_by-weaker (λ (x : ℕ). nat_lt x (e + 1)) (λ (x : ℕ). nat_le x e) xs (λ x less. grind (arith, nat_tests))

-- no number passes a test that none does
pub count_by-none : (p : ℕ → Bool) (xs : List ℕ) → ((x : ℕ) → p x ≡ false) → count_by p xs ≡ 0
count_by-none p [] fails = refl
count_by-none p (x ∷ xs) fails = sum_by-cons (λ x. cond (p x) 1 0) x xs ∙ rw (fails x, count_by-none p xs fails) refl
