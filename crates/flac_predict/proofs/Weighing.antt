-- The sum of weights by samples, a product at a time.
use Rattle.std.proofs.Common.{◌≡◌, ◌≤◌, ◌<◌, ◌+◌, ◌-◌, ◌^◌, ℕ, zero, suc, ℤ, pos, negsuc, neg_ℤ, ◌+ℤ◌, ◌-ℤ◌, ◌*ℤ◌, List, [], ◌∷◌, length, take, refl, ap, sym, ◌∙◌, add-one, arith, unsigned_abs, w64, FitsSigned}
use Rattle.std.specs.Int.{int_div_euclid}
use Rattle.std.specs.Int.Signed.{shr_z}
use Rattle.std.proofs.lemmas.Int.{ints, fits_signed_from_abs}
use Rattle.std.proofs.Math.Nat.{div-one}
use Rattle.std.proofs.lemmas.Nat.{shr_le}
use Rattle.file_model.specs.Predict.{at, fixed_weights, weighted_before, predicted}

first_product : (p : ℤ) → p +ℤ pos 0 ≡ pos 0 +ℤ p
first_product p = omega (arith, ints)

next_product : (p s q : ℤ) → p +ℤ (s +ℤ q) ≡ (p +ℤ s) +ℤ q
next_product p s q = omega (arith, ints)

-- one more weight adds its product
pub weighted_before-more : (weights samples : List ℤ) (k place back : ℕ) → k < length weights → back ≡ place - 1 - k
    → weighted_before (take (k + 1) weights) samples place
    ≡ weighted_before (take k weights) samples place +ℤ (at weights k *ℤ at samples back)
unfolding weighted_before
weighted_before-more [] samples k place back inside is = absurd (omega (arith, inside))
weighted_before-more (weight ∷ weights) samples zero place back inside is =
    let there : place - 1 ≡ back = omega (arith, is) in
    ap (λ (n : ℕ). (weight *ℤ at samples n) +ℤ pos 0) there ∙ first_product (weight *ℤ at samples back)
weighted_before-more (weight ∷ weights) samples (suc k) place back inside is =
    ap (λ (n : ℕ). weighted_before (take n (weight ∷ weights)) samples place) (add-one (suc k))
    ∙ ap (λ (n : ℕ). (weight *ℤ at samples (place - 1)) +ℤ weighted_before (take n weights) samples (place - 1)) (sym (add-one k))
    ∙ ap (λ (z : ℤ). (weight *ℤ at samples (place - 1)) +ℤ z)
    (weighted_before-more weights samples k (place - 1) back (omega (arith, inside)) (omega (arith, is)))
    ∙ next_product (weight *ℤ at samples (place - 1)) (weighted_before (take k weights) samples (place - 1))
    (at weights k *ℤ at samples back)

pub weighted_before-none : (weights samples : List ℤ) (place : ℕ) → weighted_before (take 0 weights) samples place ≡ pos 0
unfolding weighted_before
weighted_before-none weights samples place = refl

-- a shift rounds down
pub shifted : (sum : ℤ) (shift : ℕ) → shr_z sum (2 ^ shift) ≡ int_div_euclid sum (pos (2 ^ shift))
shifted (pos n) shift = refl
shifted (negsuc n) shift = refl

pub predicted_is : (weights samples : List ℤ) (shift place : ℕ) (sum : ℤ) → sum ≡ weighted_before weights samples place
    → shr_z sum (2 ^ shift) ≡ predicted weights shift samples place
unfolding predicted
predicted_is weights samples shift place sum is = shifted sum shift ∙ ap (λ (z : ℤ). int_div_euclid z (pos (2 ^ shift))) is

-- and makes nothing greater
pub shifted_small : (sum : ℤ) (shift : ℕ) → unsigned_abs (shr_z sum (2 ^ shift)) ≤ unsigned_abs sum
shifted_small (pos n) shift = shr_le n shift
shifted_small (negsuc n) shift = let less = shr_le n shift in omega (arith, less)

pub shifted_fits : (sum : ℤ) (shift : ℕ) → unsigned_abs sum ≤ 2 ^ 43 → FitsSigned w64 (shr_z sum (2 ^ shift))
shifted_fits sum shift small =
    let less = shifted_small sum shift in fits_signed_from_abs w64 (shr_z sum (2 ^ shift)) (omega (arith, less, small))

-- ---- order 2

undivided : (z : ℤ) → int_div_euclid z (pos 1) ≡ z
undivided (pos n) = ap pos (div-one n)
undivided (negsuc n) = ap negsuc (div-one n)

line : (a b : ℤ) → (pos 2 *ℤ a) +ℤ ((neg_ℤ (pos 1) *ℤ b) +ℤ pos 0) ≡ (pos 2 *ℤ a) -ℤ b
line a b = omega (arith, ints)

-- the prediction of order 2 goes on in a straight line
pub straight_predicted : (samples : List ℤ) (place : ℕ) (last before : ℤ) → last ≡ at samples (place - 1) → before ≡ at samples (place - 2)
    → (pos 2 *ℤ last) -ℤ before ≡ predicted (fixed_weights 2) 0 samples place
unfolding predicted weighted_before
straight_predicted samples place last before is_last is_before =
    let there : place - 2 ≡ place - 1 - 1 = omega arith in
    ap (λ (z : ℤ). (pos 2 *ℤ z) -ℤ before) is_last
    ∙ ap (λ (z : ℤ). (pos 2 *ℤ at samples (place - 1)) -ℤ z) (is_before ∙ ap (λ (n : ℕ). at samples n) there)
    ∙ sym (line (at samples (place - 1)) (at samples (place - 1 - 1)))
    ∙ sym (undivided ((pos 2 *ℤ at samples (place - 1)) +ℤ ((neg_ℤ (pos 1) *ℤ at samples (place - 1 - 1)) +ℤ pos 0)))
