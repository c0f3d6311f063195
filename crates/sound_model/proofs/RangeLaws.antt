-- Numbers at places in ascending order: those of a sorted list, of a list in another order, and that there is one only.
use Rattle.std.proofs.Common.{◌≡◌, ◌<◌, ◌≤◌, ◌+◌, ℕ, suc, Bool, true, false, List, [], ◌∷◌, length, take, drop, get_or, nat_lt, nat_le, refl, sym, ap, ◌∙◌, subst, arith, inl, inr, ◌⊎◌, cond, length-take, length-drop, zero-add}
use Rattle.std.specs.Prelude.{All, count_by, filter, ℤ, Option, Some, None}
use Rattle.std.specs.List.Sorted.{IsNonDecreasing, IsPermutation}
use Rattle.std.proofs.lemmas.Bool.{cases_lt}
use Rattle.std.proofs.lemmas.Bool.Decides.{nat_tests}
use Rattle.std.proofs.lemmas.List.{take-append-drop, get_or-take, get_or-drop}
use Rattle.std.proofs.lemmas.List.Elements.{Contains-get_or, All-filter, filter_passes}
use Rattle.std.proofs.lemmas.List.Sums.{sum_by-append, count_by-le-length, length-filter}
use Rattle.std.proofs.lemmas.List.Sorted.{sum_by-IsPermutation, Contains-permutation, length_permutation}
use Rattle.sound_model.specs.Levels.{IsLevel, hundredths}
use Rattle.sound_model.specs.Ranges.{IsAtPlace, IsRangeOf, IsRangeWithin, IsRange, gated_windows, is_window_audible, is_window_near, percentile_place_of}
use Rattle.sound_model.proofs.LevelLaws.{level-unique}

count_by-cons : (p : ℕ → Bool) (x : ℕ) (xs : List ℕ) → count_by p (x ∷ xs) ≡ cond (p x) 1 0 + count_by p xs
count_by-cons p x xs =
    let joined = sum_by-append (λ e. cond (p e) 1 0) (x ∷ []) xs in
    let first = zero-add (cond (p x) 1 0) in
    rw first at joined

-- no number passes
count_none : (p : ℕ → Bool) (xs : List ℕ) → ((k : ℕ) → k < length xs → p (get_or xs k 0) ≡ false) → count_by p xs ≡ 0
count_none p [] fail = refl
count_none p (x ∷ xs) fail =
    let first : p x ≡ false = fail 0 (omega arith) in
    let others = count_none p xs (λ k within. fail (suc k) (omega arith)) in
    rw first others

-- each number passes
count_all : (p : ℕ → Bool) (xs : List ℕ) → ((k : ℕ) → k < length xs → p (get_or xs k 0) ≡ true) → count_by p xs ≡ length xs
count_all p [] pass = refl
count_all p (x ∷ xs) pass =
    let first : p x ≡ true = pass 0 (omega arith) in
    let others = count_all p xs (λ k within. pass (suc k) (omega arith)) in
    count_by-cons p x xs ∙ rw first (omega (arith, others))

count_by_parts : (p : ℕ → Bool) (n : ℕ) (xs : List ℕ) → count_by p xs ≡ count_by p (take n xs) + count_by p (drop n xs)
count_by_parts p n xs =
    ap (count_by p) (sym (take-append-drop n xs)) ∙ sum_by-append (λ x. cond (p x) 1 0) (take n xs) (drop n xs)

-- the number at a place of a sorted list stands at that place
pub at_place_of_sorted : (xs : List ℕ) (place : ℕ) → IsNonDecreasing xs → place < length xs → IsAtPlace xs place (get_or xs place 0)
at_place_of_sorted xs place rises within = record {
  among = Contains-get_or xs place 0 within;
  less =
      let parts = count_by_parts is_less place xs in
      let front = count_by-le-length is_less (take place xs) in
      let front_length = length-take place xs in
      let back : count_by is_less (drop place xs) ≡ 0 = count_none is_less (drop place xs) from_place_on in
      omega arith;
  no_greater =
      let parts = count_by_parts is_no_greater (place + 1) xs in
      let front : count_by is_no_greater (take (place + 1) xs) ≡ length (take (place + 1) xs) =
      count_all is_no_greater (take (place + 1) xs) up_to_place in
      let front_length = length-take (place + 1) xs in
      omega arith;
}
  where
    is_less : ℕ → Bool
    is_less e = nat_lt e (get_or xs place 0)

    is_no_greater : ℕ → Bool
    is_no_greater e = nat_le e (get_or xs place 0)

    from_place_on : (k : ℕ) → k < length (drop place xs) → is_less (get_or (drop place xs) k 0) ≡ false
    from_place_on k below =
        let left = length-drop place xs in
        let later = rises place (place + k) 0 (omega arith) (omega arith) in
        rw (get_or-drop place xs k 0) (grind (arith, nat_tests))

    up_to_place : (k : ℕ) → k < length (take (place + 1) xs) → is_no_greater (get_or (take (place + 1) xs) k 0) ≡ true
    up_to_place k below =
        let left = length-take (place + 1) xs in
        let early : k < place + 1 = omega arith in
        let earlier = rises k place 0 (omega arith) within in
        rw (get_or-take (place + 1) xs k 0 early) (grind (arith, nat_tests))

-- the order of the list doesn't matter
pub IsAtPlace-permutation : (xs ys : List ℕ) (place energy : ℕ) → IsPermutation xs ys → IsAtPlace xs place energy → IsAtPlace ys place energy
IsAtPlace-permutation xs ys place energy moved at = record {
  among = Contains-permutation xs ys energy moved at.among;
  less = let same = sum_by-IsPermutation (λ e. cond (nat_lt e energy) 1 0) xs ys moved in let less = at.less in omega arith;
  no_greater = let same = sum_by-IsPermutation (λ e. cond (nat_le e energy) 1 0) xs ys moved in let no_greater = at.no_greater in omega arith;
}

-- if one number is less than another, those that are no greater than the one are less than the other
count_by_order : (low high : ℕ) (xs : List ℕ) → low < high
    → count_by (λ (e : ℕ). nat_le e low) xs ≤ count_by (λ (e : ℕ). nat_lt e high) xs
count_by_order low high [] less = omega arith
count_by_order low high (x ∷ xs) less =
    let others = count_by_order low high xs less in
    rw (count_by-cons (λ (e : ℕ). nat_le e low) x xs, count_by-cons (λ (e : ℕ). nat_lt e high) x xs)
    (cases (nat_le x low) (nat_lt x high) refl refl others)
  where
    cases : (first second : Bool) → nat_le x low ≡ first → nat_lt x high ≡ second
        → count_by (λ (e : ℕ). nat_le e low) xs ≤ count_by (λ (e : ℕ). nat_lt e high) xs
        → cond first 1 0 + count_by (λ (e : ℕ). nat_le e low) xs ≤ cond second 1 0 + count_by (λ (e : ℕ). nat_lt e high) xs
    cases true true below above others = omega arith
    cases false second below above others = omega arith
    cases true false below above others = absurd (grind (arith, nat_tests))

-- one number stands at a place
pub IsAtPlace-unique : (xs : List ℕ) (place d e : ℕ) → IsAtPlace xs place d → IsAtPlace xs place e → d ≡ e
IsAtPlace-unique xs place d e first second = cases (cases_lt d e) (cases_lt e d)
  where
    cases : (d < e) ⊎ (e ≤ d) → (e < d) ⊎ (d ≤ e) → d ≡ e
    cases (inl less) other =
        let order = count_by_order d e xs less in let above = first.no_greater in let below = second.less in absurd (omega arith)
    cases (inr no_less) (inl less) =
        let order = count_by_order e d xs less in let above = second.no_greater in let below = first.less in absurd (omega arith)
    cases (inr no_less) (inr no_greater) = omega arith

-- nor does it for the range
pub IsRangeOf-permutation : (xs ys : List ℕ) (range : ℤ) → IsPermutation xs ys → IsRangeOf xs range → IsRangeOf ys range
IsRangeOf-permutation xs ys range moved is =
    let same = sym (length_permutation xs ys moved) in
    let At : ℕ → ℕ → ℕ → Type 0 = λ percent energy count. IsAtPlace ys (percentile_place_of count percent) energy in
    record {
      low = is.low;
      high = is.high;
      level = is.level;
      low_place = subst (At 10 is.low) same (IsAtPlace-permutation xs ys _ is.low moved is.low_place);
      high_place = subst (At 95 is.high) same (IsAtPlace-permutation xs ys _ is.high moved is.high_place);
      of_ratio = is.of_ratio;
      rounded = is.rounded;
    }

pub IsRangeWithin-permutation : (xs ys : List ℕ) (range : Option ℤ) → IsPermutation xs ys → IsRangeWithin xs range → IsRangeWithin ys range
IsRangeWithin-permutation [] [] range moved is = is
IsRangeWithin-permutation [] (y ∷ ys) range moved is = absurd (let same = length_permutation [] (y ∷ ys) moved in omega arith)
IsRangeWithin-permutation (x ∷ xs) [] range moved is = absurd (let same = length_permutation (x ∷ xs) [] moved in omega arith)
IsRangeWithin-permutation (x ∷ xs) (y ∷ ys) None moved is = is
IsRangeWithin-permutation (x ∷ xs) (y ∷ ys) (Some range) moved is = IsRangeOf-permutation (x ∷ xs) (y ∷ ys) range moved is

IsRangeOf-unique : (xs : List ℕ) (r s : ℤ) → IsRangeOf xs r → IsRangeOf xs s → r ≡ s
IsRangeOf-unique xs r s first second =
    let low = IsAtPlace-unique xs _ first.low second.low first.low_place second.low_place in
    let high = IsAtPlace-unique xs _ first.high second.high first.high_place second.high_place in
    let Of : ℕ → ℕ → Type 0 = λ a b. IsLevel a b first.level in
    let level = level-unique second.high second.low first.level second.level
    (subst (λ (a : ℕ). Of a second.low) high (subst (λ (b : ℕ). Of first.high b) low first.of_ratio)) second.of_ratio in
    first.rounded ∙ ap hundredths level ∙ sym second.rounded

IsRangeWithin-unique : (xs : List ℕ) (r s : Option ℤ) → IsRangeWithin xs r → IsRangeWithin xs s → r ≡ s
IsRangeWithin-unique [] None None first second = refl
IsRangeWithin-unique [] None (Some s) first second = absurd second
IsRangeWithin-unique [] (Some r) s first second = absurd first
IsRangeWithin-unique (x ∷ xs) None s first second = absurd first
IsRangeWithin-unique (x ∷ xs) (Some r) None first second = absurd second
IsRangeWithin-unique (x ∷ xs) (Some r) (Some s) first second = ap Some (IsRangeOf-unique (x ∷ xs) r s first second)

-- windows have one range
pub IsRange-unique : (windows : List ℕ) (r s : Option ℤ) → IsRange windows r → IsRange windows s → r ≡ s
IsRange-unique windows = IsRangeWithin-unique (gated_windows windows)

-- the range of windows that are there
pub IsRangeWithin-from_windows : (xs : List ℕ) (range : ℤ) → 0 < length xs → IsRangeOf xs range → IsRangeWithin xs (Some range)
IsRangeWithin-from_windows [] range some is = absurd (omega arith)
IsRangeWithin-from_windows (x ∷ xs) range some is = is

-- a window from the first gate on is above 0
audible_above_0 : (energy : ℕ) → is_window_audible energy ≡ true → 0 < energy
unfolding is_window_audible
audible_above_0 energy audible = cases (cases_lt 0 energy)
  where
    cases : (0 < energy) ⊎ (energy ≤ 0) → 0 < energy
    cases (inl above) = above
    cases (inr none) = let zero_is : energy ≡ 0 = omega arith in absurd (grind (arith, nat_tests))

pub gated_windows_above_0 : (windows : List ℕ) → All (λ (z : ℕ). 0 < z) (gated_windows windows)
gated_windows_above_0 windows =
    let audible = filter is_window_audible windows in
    All-filter (is_window_near audible) (λ (z : ℕ). 0 < z) audible
    (λ k d within. audible_above_0 _ (filter_passes is_window_audible windows k d within))

-- what holds of all windows holds of those that pass the gates
pub All-gated_windows : (P : ℕ → Type 0) (windows : List ℕ) → All P windows → All P (gated_windows windows)
All-gated_windows P windows all =
    let audible = filter is_window_audible windows in
    All-filter (is_window_near audible) P audible (All-filter is_window_audible P windows all)

-- the gates add none
pub length-gated_windows-le : (windows : List ℕ) → length (gated_windows windows) ≤ length windows
length-gated_windows-le windows =
    let audible = filter is_window_audible windows in
    let first = filtered is_window_audible windows in
    let second = filtered (is_window_near audible) audible in
    omega arith
  where
    filtered : (p : ℕ → Bool) (xs : List ℕ) → length (filter p xs) ≤ length xs
    filtered p xs = let same = length-filter p xs in let within = count_by-le-length p xs in omega arith
