use Rattle.std.proofs.Common.{◌∙◌, ◌+ℤ◌, ℤ, pos, get_or, refl, ap, rules, arith, w64, FitsSigned, to_z}
use Rattle.std.proofs.lemmas.Int.{to_z-of_z, ints}
use Rattle.true_peak.specs.Windows.{dot}
use Rattle.true_peak.proofs.Dots.{dot-more}
use Rattle.true_peak.proofs.history.phase_size.Goals as goal

pub loop-k-init : goal.loop-k-init
unfolding dot
loop-k-init c = (refl, omega arith)

pub loop-k-preserved : goal.loop-k-preserved
loop-k-preserved c =
    let k = c.loop-k.k in
    let total = to_z w64 c.loop-k.total-bits in
    let tap_fits : FitsSigned w64 (get_or c.args.taps.now k (pos 0)) = search rules in
    let value_fits : FitsSigned w64 (get_or c.args.window.now k (pos 0)) = search rules in
    let product_fits : FitsSigned w64 c.product-total.result = search rules in
    let product = simp to_z-of_z at c.product-total.ensures.value in
    let sum_fits : FitsSigned w64 (total +ℤ c.product-total.result) = search rules in
    let more = dot-more c.args.taps.now c.args.window.now k total (omega arith) (omega arith) c.loop-k.invariant.0 in
    (simp to_z-of_z (ap (λ (z : ℤ). total +ℤ z) product ∙ more), simp to_z-of_z (omega (arith, ints)))
