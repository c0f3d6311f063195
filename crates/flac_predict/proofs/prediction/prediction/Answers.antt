use Rattle.std.proofs.Common.{◌≡◌, ◌≤◌, ◌-◌, ◌^◌, ◌∙◌, ◌+ℤ◌, ◌*ℤ◌, ℕ, ℤ, pos, List, length, take, get_or, ap, sym, rules, arith, unsigned_abs, w64, w32, FitsSigned, to_z}
use Rattle.std.proofs.lemmas.Int.{to_z-of_z, ints}
use Rattle.std.proofs.lemmas.List.{take_all}
use Rattle.file_model.specs.Predict.{weighted_before}
use Rattle.flac_predict.proofs.Weighing.{weighted_before-more, weighted_before-none, predicted_is, shifted_small, shifted_fits}
use Rattle.flac_predict.proofs.prediction.prediction.Goals as goal

pub loop-k-init : goal.loop-k-init
loop-k-init c = (sym (weighted_before-none c.args.weights.now c.args.samples.now c.args.place), omega arith)

pub loop-k-preserved : goal.loop-k-preserved
loop-k-preserved c =
    let k = c.loop-k.k in
    let sum = to_z w64 c.loop-k.sum-bits in
    let weights = c.args.weights.now in
    let samples = c.args.samples.now in
    let place = c.args.place in
    let weight_fits : FitsSigned w32 (get_or weights k (pos 0)) = search rules in
    let sample_fits : FitsSigned w32 (get_or samples (place - 1 - k) (pos 0)) = search rules in
    let product_fits : FitsSigned w64 c.product-sum.result = search rules in
    let product = simp to_z-of_z at c.product-sum.ensures.value in
    let sum_fits : FitsSigned w64 (sum +ℤ c.product-sum.result) = search rules in
    let more = weighted_before-more weights samples k place (place - 1 - k) (omega arith) (omega arith) in (
      simp to_z-of_z
          (ap (λ (z : ℤ). sum +ℤ z) product
          ∙ ap (λ (z : ℤ). z +ℤ (get_or weights k (pos 0) *ℤ get_or samples (place - 1 - k) (pos 0))) c.loop-k.invariant.0
          ∙ sym more),
      simp to_z-of_z (omega (arith, ints)),
    )

-- all weights were taken
whole_sum : (weights samples : List ℤ) (k place : ℕ) (sum : ℤ) → length weights ≤ k → sum ≡ weighted_before (take k weights) samples place
    → sum ≡ weighted_before weights samples place
whole_sum weights samples k place sum past is = is ∙ ap (λ (ws : List ℤ). weighted_before ws samples place) (take_all k weights past)

pub returns-clause-value : goal.returns-clause-value
returns-clause-value c =
    let sum = to_z w64 c.loop-k.sum-bits in
    let small : unsigned_abs sum ≤ 2 ^ 43 = omega arith in
    let fits = shifted_fits sum c.args.shift small in
    let whole = whole_sum c.args.weights.now c.args.samples.now c.loop-k.k c.args.place sum (omega arith) c.loop-k.invariant.0 in
    simp to_z-of_z (predicted_is c.args.weights.now c.args.samples.now c.args.shift c.args.place sum whole)

pub returns-clause-small : goal.returns-clause-small
returns-clause-small c =
    let sum = to_z w64 c.loop-k.sum-bits in
    let small : unsigned_abs sum ≤ 2 ^ 43 = omega arith in
    let fits = shifted_fits sum c.args.shift small in
    let less = shifted_small sum c.args.shift in simp to_z-of_z (omega (arith, less, small))
