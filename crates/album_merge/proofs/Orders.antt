-- The gates, and the places of percentiles, of energies in another order.
use Rattle.std.proofs.Common.{◌≡◌, ◌<◌, ◌≤◌, ◌+◌, ◌*◌, ℕ, ℤ, Bool, true, false, List, [], ◌∷◌, length, filter, cond, nat_lt, nat_le, sum, sum_by, count_by, Some, None, refl, sym, ap, ◌∙◌, subst, arith, All, IsPermutation}
use Rattle.std.specs.Prelude.{◌&&◌}
use Rattle.std.proofs.lemmas.Bool.Decides.{nat_tests}
use Rattle.std.proofs.lemmas.List.Elements.{All-head, All-tail, All-filter, All-weaker, filter_agree}
use Rattle.std.proofs.lemmas.List.Sums.{sum_by-cons, length-filter}
use Rattle.std.proofs.lemmas.List.Sorted.{IsPermutation-sym, All-permutation, length_permutation, sum_by-IsPermutation}
use Rattle.sound_model.specs.Levels.{IsLevel, hundredths}
use Rattle.sound_model.specs.Loudness.{is_audible, is_near, gated}
use Rattle.sound_model.specs.Ranges.{IsAtPlace, IsRange, IsRangeWithin, gated_windows, is_window_audible, is_window_near, percentile_place_of}
use Rattle.sound_model.proofs.PlaceLaws.{sum_by-filter, sum_by-filter-permutation, length-filter-permutation, IsAtPlace-from_counts, count_by-none, count_by-weaker}
use Rattle.sound_model.proofs.RangeLaws.{IsRangeWithin-from_windows}
use Rattle.gate_blocks.specs.Bounds.{IsTallyOf}

-- the second gate of blocks doesn't see their order
near_same : (xs ys : List ℕ) (e : ℕ) → IsPermutation xs ys → is_near ys e ≡ is_near xs e
unfolding is_near
near_same xs ys e moved =
    ap (λ total. nat_lt total (10 * length ys * e)) (sum_by-IsPermutation (λ x. x) xs ys moved)
    ∙ ap (λ n. nat_lt (sum xs) (10 * n * e)) (length_permutation xs ys moved)

-- a tally of the near ones of audible blocks in some order is one of the blocks that pass both gates
pub gated_tally : (blocks joined : List ℕ) (count total : ℕ) → IsPermutation (filter is_audible blocks) joined
    → IsTallyOf (filter (is_near joined) joined) count total → IsTallyOf (gated blocks) count total
gated_tally blocks joined count total moved tally =
    let audible = filter is_audible blocks in
    let agree = filter_agree (is_near joined) (is_near audible) (λ e. near_same audible joined e moved) joined in
    record {
      counted = tally.counted ∙ ap length agree ∙ length-filter-permutation (is_near audible) audible joined moved;
      summed = tally.summed ∙ ap sum agree ∙ sum_by-filter-permutation (λ x. x) (is_near audible) audible joined moved;
    }

-- sums of what is equal for each
sum_by-agree : (f g : ℕ → ℕ) (xs : List ℕ) → ((x : ℕ) → f x ≡ g x) → sum_by f xs ≡ sum_by g xs
sum_by-agree f g [] same = refl
sum_by-agree f g (x ∷ xs) same =
    sum_by-cons f x xs ∙ ap (λ n. n + sum_by f xs) (same x) ∙ ap (λ n. g x + n) (sum_by-agree f g xs same) ∙ sym (sum_by-cons g x xs)

-- the second gate of windows doesn't see their order
near_windows_same : (xs ys : List ℕ) (e : ℕ) → IsPermutation xs ys → is_window_near ys e ≡ is_window_near xs e
unfolding is_window_near
near_windows_same xs ys e moved =
    ap (λ total. nat_le total (100 * length ys * e)) (sum_by-IsPermutation (λ x. x) xs ys moved)
    ∙ ap (λ n. nat_le (sum xs) (100 * n * e)) (length_permutation xs ys moved)

-- Windows that pass both gates are the audible ones, in whatever order, from a least energy on: a test counts the same in both.
counts_joined : (windows joined : List ℕ) (least : ℕ) (test : ℕ → Bool) → IsPermutation (filter is_window_audible windows) joined
    → ((e : ℕ) → nat_le least e ≡ (is_window_audible e && is_window_near joined e))
    → count_by test (gated_windows windows) ≡ count_by (λ (e : ℕ). nat_le least e && test e) joined
counts_joined windows joined least test moved passes =
    let audible = filter is_window_audible windows in
    let Far : ℕ → ℕ = λ e. cond (is_window_near audible e) (cond (test e) 1 0) 0 in
    let From : ℕ → ℕ = λ e. cond (nat_le least e && test e) 1 0 in
    sum_by-filter (λ e. cond (test e) 1 0) (is_window_near audible) audible
    ∙ sum_by-filter Far is_window_audible windows
    ∙ sum_by-agree (λ e. cond (is_window_audible e) (Far e) 0) (λ e. cond (is_window_audible e) (From e) 0) windows
    (λ e. at (is_window_audible e) (is_window_near audible e) (test e) (nat_le least e)
    (passes e ∙ ap (λ b. is_window_audible e && b) (near_windows_same audible joined e moved)))
    ∙ sym (sum_by-filter From is_window_audible windows)
    ∙ sym (sum_by-IsPermutation From audible joined moved)
  where
    at : (a n t l : Bool) → l ≡ (a && n) → cond {A = ℕ} a (cond n (cond t 1 0) 0) 0 ≡ cond a (cond (l && t) 1 0) 0
    at true true t l is = rw is refl
    at true false t l is = rw is refl
    at false n t l is = refl

-- as many as there are pass a test that each passes
count_by-all : (test : ℕ → Bool) (xs : List ℕ) → All (λ x. test x ≡ true) xs → count_by test xs ≡ length xs
count_by-all test [] all = refl
count_by-all test (x ∷ xs) all =
    let first = All-head (λ y. test y ≡ true) x xs all in
    let rest = count_by-all test xs (All-tail (λ y. test y ≡ true) x xs all) in
    sum_by-cons (λ y. cond (test y) 1 0) x xs ∙ rw first (omega (arith, rest))

-- how many windows pass both gates: those from the least energy on to the greatest
pub gated_length : (windows joined : List ℕ) (least most : ℕ) → IsPermutation (filter is_window_audible windows) joined
    → ((e : ℕ) → nat_le least e ≡ (is_window_audible e && is_window_near joined e)) → All (λ e. e ≤ most) joined
    → length (gated_windows windows) ≡ count_by (λ (e : ℕ). nat_le least e && nat_le e most) joined
gated_length windows joined least most moved passes within =
    let audible = filter is_window_audible windows in
    let Within : ℕ → Type 0 = λ e. e ≤ most in
    let gated_within = All-filter (is_window_near audible) Within audible
    (All-permutation Within joined audible (IsPermutation-sym audible joined moved) within) in
    let tests : All (λ e. nat_le e most ≡ true) (gated_windows windows) =
    All-weaker Within (λ e. nat_le e most ≡ true) (λ e below. grind (arith, nat_tests, below)) (gated_windows windows) gated_within in
    sym (count_by-all (λ e. nat_le e most) (gated_windows windows) tests) ∙ counts_joined windows joined least (λ e. nat_le e most) moved passes

-- a list of no length has no range
no_range : (xs : List ℕ) → length xs ≡ 0 → IsRangeWithin xs None
no_range [] none = tt
no_range (x ∷ xs) none = absurd (omega arith)

pub IsRange-none : (windows joined : List ℕ) (least most : ℕ) → IsPermutation (filter is_window_audible windows) joined
    → ((e : ℕ) → nat_le least e ≡ (is_window_audible e && is_window_near joined e)) → All (λ e. e ≤ most) joined
    → count_by (λ (e : ℕ). nat_le least e && nat_le e most) joined ≡ 0 → IsRange windows None
IsRange-none windows joined least most moved passes within none =
    no_range (gated_windows windows) (gated_length windows joined least most moved passes within ∙ none)

-- what a number at a place is told by
pub record IsAt (joined : List ℕ) (least place number : ℕ) : Type 0 where
  pub less : count_by (λ (e : ℕ). nat_le least e && nat_lt e number) joined ≤ place
  pub no_greater : place < count_by (λ (e : ℕ). nat_le least e && nat_le e number) joined

-- the range, by the numbers at both places
pub IsRange-from_places : (windows joined : List ℕ) (least most count low high : ℕ) (level range : ℤ)
    → IsPermutation (filter is_window_audible windows) joined
    → ((e : ℕ) → nat_le least e ≡ (is_window_audible e && is_window_near joined e)) → All (λ e. e ≤ most) joined
    → count ≡ count_by (λ (e : ℕ). nat_le least e && nat_le e most) joined → (count ≡ 0 → ⊥)
    → IsAt joined least (percentile_place_of count 10) low → IsAt joined least (percentile_place_of count 95) high
    → IsLevel high low level → range ≡ hundredths level → IsRange windows (Some range)
IsRange-from_places windows joined least most count low high level range moved passes within counted some low_at high_at of_ratio rounded =
    let gated = gated_windows windows in
    let long : count ≡ length gated = counted ∙ sym (gated_length windows joined least most moved passes within) in
    IsRangeWithin-from_windows gated range (omega (arith, long, some)) (record {
      low = low;
      high = high;
      level = level;
      low_place = subst (λ (n : ℕ). IsAtPlace gated (percentile_place_of n 10) low) long (at (percentile_place_of count 10) low low_at);
      high_place = subst (λ (n : ℕ). IsAtPlace gated (percentile_place_of n 95) high) long (at (percentile_place_of count 95) high high_at);
      of_ratio = of_ratio;
      rounded = rounded;
    })
  where
    at : (place number : ℕ) → IsAt joined least place number → IsAtPlace (gated_windows windows) place number
    at place number is =
        IsAtPlace-from_counts (gated_windows windows) place number
        (rw (counts_joined windows joined least (λ e. nat_lt e number) moved passes) is.less)
        (rw (counts_joined windows joined least (λ e. nat_le e number) moved passes) is.no_greater)

-- none from a number on is less than it
pub between_none : (least place : ℕ) (xs : List ℕ) → count_by (λ (e : ℕ). nat_le least e && nat_lt e least) xs ≤ place
between_none least place xs =
    let none = count_by-none (λ (e : ℕ). nat_le least e && nat_lt e least) xs (λ e. grind (arith, nat_tests)) in omega (arith, none)

-- fewer are less than a lesser number
pub between_fewer : (least low high place : ℕ) (xs : List ℕ) → low ≤ high → count_by (λ (e : ℕ). nat_le least e && nat_lt e high) xs ≤ place
    → count_by (λ (e : ℕ). nat_le least e && nat_lt e low) xs ≤ place
between_fewer least low high place xs lesser few =
    let fewer = count_by-weaker (λ (e : ℕ). nat_le least e && nat_lt e low) (λ (e : ℕ). nat_le least e && nat_lt e high) xs
    (λ e passes. grind (arith, nat_tests, passes, lesser)) in
    omega (arith, fewer, few)
