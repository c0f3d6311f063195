-- Samples of a depth, scaled to 24 bits.
use Rattle.std.proofs.Common.{◌≡◌, ◌≤◌, ◌<◌, ◌+◌, ◌-◌, ◌*◌, ◌%◌, ◌^◌, ℕ, ℤ, pos, ◌*ℤ◌, unsigned_abs, ◌∙◌, ap, sym, subst, arith, w64, FitsSigned}
use Rattle.std.proofs.lemmas.Int.{ints, unsigned_abs-mul, fits_signed_from_abs}
use Rattle.std.proofs.lemmas.Nat.{one_shl, pow-add, mul-le, pow_below}
use Rattle.lib_base.specs.Sounds.{IsSample, scaled}

-- the greatest sample at its scale
scale_of_size : (depth : ℕ) → 4 ≤ depth → depth ≤ 24 → 2 ^ (depth - 1) * 2 ^ (24 - depth) ≡ 2 ^ 23
scale_of_size depth low high =
    let sum : (depth - 1) + (24 - depth) ≡ 23 = omega arith in
    sym (pow-add 2 (depth - 1) (24 - depth)) ∙ ap (λ (n : ℕ). 2 ^ n) sum

-- a sample is no greater than the least one
size_of_sample : (depth : ℕ) (sample : ℤ) → IsSample depth sample → unsigned_abs sample ≤ 2 ^ (depth - 1)
size_of_sample depth sample within = omega (arith, ints)

-- a scaled sample has the size of one of 24 bits
pub scaled_small : (depth : ℕ) (sample : ℤ) → 4 ≤ depth → depth ≤ 24 → IsSample depth sample → unsigned_abs (scaled depth sample) ≤ 2 ^ 23
unfolding scaled
scaled_small depth sample low high within =
    let size = size_of_sample depth sample within in
    let product = mul-le (unsigned_abs sample) (2 ^ (24 - depth)) (2 ^ (depth - 1)) (2 ^ (24 - depth)) size (omega arith) in
    let greatest = scale_of_size depth low high in
    let apart = unsigned_abs-mul sample (pos (2 ^ (24 - depth))) in
    omega arith

-- the scale of a depth, as a shift gives it
pub scale_shifted : (depth : ℕ) → 4 ≤ depth → 1 * 2 ^ (24 - depth) % 2 ^ 64 ≡ 2 ^ (24 - depth)
scale_shifted depth low = one_shl (24 - depth) 64 (omega arith)

pub scale_below : (depth : ℕ) → 4 ≤ depth → 1 * 2 ^ (24 - depth) % 2 ^ 64 < 2 ^ 63
scale_below depth low =
    let below = pow_below (24 - depth) 63 (omega arith) in
    let whole = scale_shifted depth low in
    omega arith

-- the code's product is the scaled sample
pub scaled_is : (depth : ℕ) (sample from scale : ℤ) → from ≡ sample → scale ≡ pos (2 ^ (24 - depth)) → from *ℤ scale ≡ scaled depth sample
unfolding scaled
scaled_is depth sample from scale is_sample is_scale = ap (λ (z : ℤ). z *ℤ scale) is_sample ∙ ap (λ (z : ℤ). sample *ℤ z) is_scale

pub scaled_fits : (depth : ℕ) (sample from scale : ℤ) → 4 ≤ depth → depth ≤ 24 → IsSample depth sample
    → from *ℤ scale ≡ scaled depth sample → FitsSigned w64 (from *ℤ scale)
scaled_fits depth sample from scale low high within same =
    let small = scaled_small depth sample low high within in
    let P : ℤ → Type 0 = λ z. FitsSigned w64 z in
    subst P (sym same) (fits_signed_from_abs w64 (scaled depth sample) (omega arith))
