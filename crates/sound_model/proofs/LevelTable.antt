-- The table of levels: each number of its three lists is the greatest whose power is within that of ten, and its entries rise.
use Rattle.std.proofs.Common.{◌≡◌, ◌<◌, ◌≤◌, ◌+◌, ◌*◌, ◌^◌, ℕ, zero, suc, Bool, true, false, List, [], ◌∷◌, length, refl, ap, ◌∙◌, subst, nat_lt, nat_le, slice_index, arith, inl, inr, ◌⊎◌, add-zero, zero-add, add-one}
use Rattle.std.specs.Prelude.{◌&&◌}
use Rattle.std.proofs.Math.Nat.{mul-le-mul_right}
use Rattle.std.specs.List.{list_all, range_with_len}
use Rattle.std.proofs.lemmas.Bool.Decides.{nat_tests}
use Rattle.std.proofs.lemmas.List.Folds.{list_all_at}
use Rattle.std.proofs.lemmas.Bool.{cases_lt}
use Rattle.std.proofs.lemmas.List.FromFn.{get_or-range_with_len, length-range_with_len}
use Rattle.sound_model.specs.Levels.{IsRootOfTen, whole_decibels, tenths, half_hundredths, entry}

-- the test that each number of a list is the root of that degree of 10^p, 10^(p + 1), and so on
abbrev are_roots : ℕ → ℕ → List ℕ → Bool
are_roots n p [] = true
are_roots n p (m ∷ ms) = nat_le (m ^ n) (10 ^ p) && nat_lt (10 ^ p) ((m + 1) ^ n) && are_roots n (p + 1) ms

all_three : (a b c : Bool) → (a && b && c) ≡ true → (a ≡ true) × (b ≡ true) × (c ≡ true)
all_three true true true is = (refl, refl, refl)
all_three true true false is = absurd cc
all_three true false c is = absurd cc
all_three false b c is = absurd cc

root_from_tests : (n p m : ℕ) → nat_le (m ^ n) (10 ^ p) ≡ true → nat_lt (10 ^ p) ((m + 1) ^ n) ≡ true → IsRootOfTen n p m
root_from_tests n p m within greatest = record { within = grind (arith, nat_tests); greatest = grind (arith, nat_tests) }

-- the test gives the rule at each number
IsRootOfTen-from_test : (n p : ℕ) (ms : List ℕ) → are_roots n p ms ≡ true → (i : ℕ) → i < length ms
    → IsRootOfTen n (p + i) (slice_index ms i)
IsRootOfTen-from_test n p [] test i within = absurd (omega (arith, within))
IsRootOfTen-from_test n p (m ∷ ms) test zero within =
    let parts = all_three (nat_le (m ^ n) (10 ^ p)) (nat_lt (10 ^ p) ((m + 1) ^ n)) (are_roots n (p + 1) ms) test in
    rw add-zero (root_from_tests n p m parts.0 parts.1)
IsRootOfTen-from_test n p (m ∷ ms) test (suc i) within =
    let parts = all_three (nat_le (m ^ n) (10 ^ p)) (nat_lt (10 ^ p) ((m + 1) ^ n)) (are_roots n (p + 1) ms) test in
    let At : ℕ → Type 0 = λ q. IsRootOfTen n q (slice_index ms i) in
    let same : (p + 1) + i ≡ p + suc i = omega arith in
    subst At same (IsRootOfTen-from_test n (p + 1) ms parts.2 i (omega arith))

-- 10^9 times 10^(i/10), at most: its tenth power is within 10^(90 + i), that of its successor is not
pub whole_decibels_are_roots : (i : ℕ) → i < 10 → IsRootOfTen 10 (90 + i) (slice_index whole_decibels i)
whole_decibels_are_roots = IsRootOfTen-from_test 10 90 whole_decibels refl

-- the same of tenths, by hundredth powers
pub tenths_are_roots : (i : ℕ) → i < 10 → IsRootOfTen 100 (900 + i) (slice_index tenths i)
tenths_are_roots = IsRootOfTen-from_test 100 900 tenths refl

-- the same of half hundredths, by two thousandth powers
pub half_hundredths_are_roots : (i : ℕ) → i < 20 → IsRootOfTen 2000 (18000 + i) (slice_index half_hundredths i)
half_hundredths_are_roots = IsRootOfTen-from_test 2000 18000 half_hundredths refl

-- the test that each entry is below the next
entries_rise_test : list_all (λ k. nat_lt (entry k) (entry (k + 1))) (range_with_len 0 1999) ≡ true
unfolding entry
entries_rise_test = refl

passes_at : (p : ℕ → Bool) (n k : ℕ) → list_all p (range_with_len 0 n) ≡ true → k < n → p k ≡ true
passes_at p n k all within = cases (p k) refl
  where
    cases : (answer : Bool) → p k ≡ answer → answer ≡ true
    cases true is = refl
    cases false is =
        let there = get_or-range_with_len 0 n k 0 within ∙ zero-add k in
        let fails = list_all_at p (range_with_len 0 n) k 0 (omega (arith, length-range_with_len 0 n)) (ap p there ∙ is) in
        cc

-- each entry is below the next
pub entry_below_next : (k : ℕ) → k < 1999 → entry k < entry (k + 1)
entry_below_next k within =
    let passes = passes_at (λ i. nat_lt (entry i) (entry (i + 1))) 1999 k entries_rise_test within in
    grind (arith, nat_tests)

-- an entry is below each later one
pub entries_rise : (j k : ℕ) → j < k → k < 2000 → entry j < entry k
entries_rise j zero before within = absurd (omega arith)
entries_rise j (suc k) before within =
    cases (rw add-one at (entry_below_next k (omega arith))) (λ below. entries_rise j k below (omega arith)) (cases_lt j k)
  where
    cases : entry k < entry (suc k) → (j < k → entry j < entry k) → (j < k) ⊎ (k ≤ j) → entry j < entry (suc k)
    cases step so_far (inl below) = let before_it = so_far below in omega arith
    cases step so_far (inr not_below) = let same : j ≡ k = omega arith in rw same step

-- the entries lie between 1 and 10
pub first_entry : entry 0 ≡ 10 ^ 9
unfolding entry
first_entry = refl

last_entry : entry 1999 < 10 ^ 10
unfolding entry
last_entry = omega arith

pub entry_below : (k : ℕ) → k < 2000 → entry k < 10 ^ 10
entry_below k within = cases (cases_lt k 1999)
  where
    cases : (k < 1999) ⊎ (1999 ≤ k) → entry k < 10 ^ 10
    cases (inl before) = let rises = entries_rise k 1999 before (omega arith) in let last = last_entry in omega (arith, rises, last)
    cases (inr at_end) = let same : 1999 ≡ k = omega arith in let Below : ℕ → Type 0 = λ i. entry i < 10 ^ 10 in subst Below same last_entry

-- where a place isn't reached, no later one is
pub later_places_pass : (k limit b : ℕ) → limit < entry k * b → (j : ℕ) → k ≤ j → j < 2000 → limit < entry j * b
later_places_pass k limit b next j after within = cases (cases_lt k j)
  where
    cases : (k < j) ⊎ (j ≤ k) → limit < entry j * b
    cases (inl later) =
        let more : entry k * b ≤ entry j * b = mul-le-mul_right b (let rises = entries_rise k j later within in omega arith) in
        omega arith
    cases (inr no_later) =
        let same : k ≡ j = omega arith in
        let Passed : ℕ → Type 0 = λ i. limit < entry i * b in
        subst Passed same next
