use Rattle.std.proofs.Common.{◌<◌, ◌^◌, ℕ, List, sym, subst, arith}
use Rattle.std.specs.List.Sorted.{IsNonDecreasing, IsPermutation}
use Rattle.std.proofs.lemmas.List.Sorted.{IsNonDecreasingBy-from_sort, IsPermutation-sym, All-permutation, length_permutation}
use Rattle.sound_model.specs.Ranges.{gated_windows}
use Rattle.sound_model.proofs.RangeLaws.{gated_windows_above_0, All-gated_windows, length-gated_windows-le, IsRangeWithin-permutation}
use Rattle.loudness_range.proofs.ranges.range.Goals as goal
use Rattle.loudness_range.proofs.ranges.range.Goals.{After-deref}

-- the sorted windows are those that passed the gates
moved : (c : After-deref) → IsPermutation (gated_windows c.args.windows.now) c.deref.result.now
moved c =
    let From : List ℕ → Type 0 = λ xs. IsPermutation xs c.deref.result.now in
    let To : List ℕ → Type 0 = λ ys. IsPermutation c.in_ok-gated.gated.items ys in
    subst From c.in_ok-gated.ensures (subst To (sym c.deref.ensures.value) c.sort_unstable.ensures.permutation)

pub range_of_sorted-requires-clause-few : goal.range_of_sorted-requires-clause-few
range_of_sorted-requires-clause-few c =
    let same = length_permutation _ _ (moved c) in
    let fewer = length-gated_windows-le c.args.windows.now in
    omega arith

pub range_of_sorted-requires-clause-ascends : goal.range_of_sorted-requires-clause-ascends
range_of_sorted-requires-clause-ascends c =
    subst IsNonDecreasing (sym c.deref.ensures.value) (IsNonDecreasingBy-from_sort (λ z. z) _ c.sort_unstable.ensures.sorted)

pub range_of_sorted-requires-clause-above_0 : goal.range_of_sorted-requires-clause-above_0
range_of_sorted-requires-clause-above_0 c = All-permutation (λ (z : ℕ). 0 < z) _ _ (moved c) (gated_windows_above_0 c.args.windows.now)

pub range_of_sorted-requires-clause-small : goal.range_of_sorted-requires-clause-small
range_of_sorted-requires-clause-small c =
    All-permutation (λ (z : ℕ). z < 2 ^ 87) _ _ (moved c)
    (All-gated_windows (λ (z : ℕ). z < 2 ^ 87) c.args.windows.now c.requires.small)

pub returns : goal.returns
returns c =
    IsRangeWithin-permutation _ _ c.range_of_sorted.result (IsPermutation-sym _ _ (moved (goal.at.returns c).After-deref)) c.range_of_sorted.ensures
