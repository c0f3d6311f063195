use Rattle.std.proofs.Common.{◌≤◌, ◌^◌, ◌*ℤ◌, ℤ, arith, unsigned_abs, w64, FitsSigned}
use Rattle.std.proofs.lemmas.Int.{to_z-of_z, fits_signed_from_abs}
use Rattle.true_peak.proofs.Dots.{product_small}
use Rattle.true_peak.proofs.history.product.Goals as goal

fits : (tap value : ℤ) → unsigned_abs tap ≤ 2 ^ 13 → unsigned_abs value ≤ 2 ^ 23 → FitsSigned w64 (tap *ℤ value)
fits tap value small_tap small_value =
    let small = product_small tap value small_tap small_value in
    fits_signed_from_abs w64 (tap *ℤ value) (omega arith)

pub overflow_mul-result : goal.overflow_mul-result
overflow_mul-result c =
    let tap_fits = c.ranges.tap in
    let value_fits = c.ranges.value in
    simp to_z-of_z (fits c.args.tap c.args.value c.requires.tap c.requires.value)

pub returns-clause-value : goal.returns-clause-value
returns-clause-value c =
    let tap_fits = c.ranges.tap in
    let value_fits = c.ranges.value in
    let both_fit = fits c.args.tap c.args.value c.requires.tap c.requires.value in
    simp to_z-of_z

pub returns-clause-small : goal.returns-clause-small
returns-clause-small c =
    let tap_fits = c.ranges.tap in
    let value_fits = c.ranges.value in
    let both_fit = fits c.args.tap c.args.value c.requires.tap c.requires.value in
    simp to_z-of_z (product_small c.args.tap c.args.value c.requires.tap c.requires.value)
