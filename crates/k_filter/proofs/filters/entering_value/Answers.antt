use Rattle.std.proofs.Common.{◌≡◌, ◌≤◌, ◌^◌, ◌*ℤ◌, ℕ, ℤ, pos, ap, rules, arith, unsigned_abs, w32, w64, FitsSigned}
use Rattle.std.proofs.lemmas.Int.{to_z-of_z, unsigned_abs-mul, fits_signed_from_abs}
use Rattle.lib_base.specs.Sounds.{scaled}
use Rattle.sound_model.specs.Weighted.{entering}
use Rattle.k_filter.proofs.filters.entering_value.Goals as goal

-- the code's product is the sample as it enters
entering_is : (depth : ℕ) (sample value : ℤ) → value ≡ scaled depth sample → value *ℤ pos 65536 ≡ entering depth sample
unfolding entering
entering_is depth sample value is = ap (λ (z : ℤ). z *ℤ pos 65536) is

-- and it fits
product_fits : (value : ℤ) → unsigned_abs value ≤ 2 ^ 23 → FitsSigned w64 (value *ℤ pos 65536)
product_fits value small =
    let size = unsigned_abs-mul value (pos 65536) in
    fits_signed_from_abs w64 (value *ℤ pos 65536) (omega (arith, size, small))

pub returns-clause-value : goal.returns-clause-value
returns-clause-value c =
    let sample_fits : FitsSigned w32 c.args.sample = c.ranges.sample in
    let fits : FitsSigned w64 c.scaled.result = search rules in
    let value = simp to_z-of_z at c.scaled.ensures.value in
    let product = product_fits c.scaled.result c.scaled.ensures.small in
    simp to_z-of_z (entering_is c.args.depth c.args.sample c.scaled.result value)
