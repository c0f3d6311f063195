-- The sums of the sections, in the order in which the code takes their parts.
use Rattle.std.proofs.Common.{◌≡◌, ◌≤◌, ◌<◌, ◌*◌, ◌^◌, ℤ, pos, neg_ℤ, ◌+ℤ◌, ◌-ℤ◌, ◌*ℤ◌, ◌≤ℤ◌, ◌<ℤ◌, ◌∙◌, ap, sym, arith, lit≤, unsigned_abs}
use Rattle.std.specs.Int.{int_div_euclid}
use Rattle.std.proofs.lemmas.Int.{ints, unsigned_abs-mul}
use Rattle.std.proofs.lemmas.Nat.{mul-le}
use Rattle.sound_model.specs.Weighted.{shelf, high_pass, next_output, held}
use Rattle.k_filter.specs.Bounds.{HasSmallProducts}

shelf_regrouped : (x0 x1 x2 u1 u2 : ℤ)
    → (shelf.b0 *ℤ x0) +ℤ (shelf.b1 *ℤ x1) +ℤ (shelf.b2 *ℤ x2) +ℤ ((neg_ℤ shelf.a2 *ℤ u2) +ℤ pos (5 * 10 ^ 13)) +ℤ (neg_ℤ shelf.a1 *ℤ u1)
    ≡ (shelf.b0 *ℤ x0) +ℤ (shelf.b1 *ℤ x1) +ℤ (shelf.b2 *ℤ x2) -ℤ (shelf.a1 *ℤ u1) -ℤ (shelf.a2 *ℤ u2) +ℤ pos (5 * 10 ^ 13)
shelf_regrouped x0 x1 x2 u1 u2 = omega (arith, ints)

-- the first section's output, from the sum as the code takes it
pub shelf_next : (x0 x1 x2 u1 u2 total whole : ℤ)
    → total ≡ (shelf.b0 *ℤ x0) +ℤ (shelf.b1 *ℤ x1) +ℤ (shelf.b2 *ℤ x2) +ℤ ((neg_ℤ shelf.a2 *ℤ u2) +ℤ pos (5 * 10 ^ 13)) +ℤ (neg_ℤ shelf.a1 *ℤ u1)
    → whole ≡ int_div_euclid total (pos (10 ^ 14))
    → held (2 ^ 50) whole ≡ next_output shelf x0 x1 x2 u1 u2
unfolding next_output
shelf_next x0 x1 x2 u1 u2 total whole is_total is_whole =
    ap (held (2 ^ 50)) (is_whole ∙ ap (λ (z : ℤ). int_div_euclid z (pos (10 ^ 14))) (is_total ∙ shelf_regrouped x0 x1 x2 u1 u2))

-- the floor of a division by 10^14 is the whole number that leaves from 0 to before 10^14
floor_is : (s q : ℤ) → pos 0 ≤ℤ (s -ℤ (q *ℤ pos (10 ^ 14))) → (s -ℤ (q *ℤ pos (10 ^ 14))) <ℤ pos (10 ^ 14) → int_div_euclid s (pos (10 ^ 14)) ≡ q
floor_is s q low high = grind (arith, ints)

floor_low : (s : ℤ) → pos 0 ≤ℤ (s -ℤ (int_div_euclid s (pos (10 ^ 14)) *ℤ pos (10 ^ 14)))
floor_low s = grind (arith, ints)

floor_high : (s : ℤ) → (s -ℤ (int_div_euclid s (pos (10 ^ 14)) *ℤ pos (10 ^ 14))) <ℤ pos (10 ^ 14)
floor_high s = grind (arith, ints)

-- whole units that were added before a division are added after it
pub div-add_whole : (a b : ℤ) → int_div_euclid ((pos (10 ^ 14) *ℤ a) +ℤ b) (pos (10 ^ 14)) ≡ a +ℤ int_div_euclid b (pos (10 ^ 14))
div-add_whole a b =
    let low = floor_low b in
    let high = floor_high b in
    floor_is ((pos (10 ^ 14) *ℤ a) +ℤ b) (a +ℤ int_div_euclid b (pos (10 ^ 14))) (omega (arith, ints)) (omega (arith, ints))

high_pass_regrouped : (x0 x1 x2 u1 u2 : ℤ)
    → (high_pass.b0 *ℤ x0) +ℤ (high_pass.b1 *ℤ x1) +ℤ (high_pass.b2 *ℤ x2) -ℤ (high_pass.a1 *ℤ u1) -ℤ (high_pass.a2 *ℤ u2) +ℤ pos (5 * 10 ^ 13)
    ≡ (pos (10 ^ 14) *ℤ (((x0 -ℤ x1) -ℤ (x1 -ℤ x2)) +ℤ (u1 +ℤ (u1 -ℤ u2))))
    +ℤ ((neg_ℤ (pos 995254516602) *ℤ u1) +ℤ ((pos 992774963379 *ℤ u2) +ℤ pos (5 * 10 ^ 13)))
high_pass_regrouped x0 x1 x2 u1 u2 = omega (arith, ints)

-- the second section's output, from its whole part and the rest
pub high_pass_next : (x0 x1 x2 u1 u2 whole rest units : ℤ)
    → whole ≡ ((x0 -ℤ x1) -ℤ (x1 -ℤ x2)) +ℤ (u1 +ℤ (u1 -ℤ u2))
    → rest ≡ (neg_ℤ (pos 995254516602) *ℤ u1) +ℤ ((pos 992774963379 *ℤ u2) +ℤ pos (5 * 10 ^ 13))
    → units ≡ int_div_euclid rest (pos (10 ^ 14))
    → held (2 ^ 50) (whole +ℤ units) ≡ next_output high_pass x0 x1 x2 u1 u2
unfolding next_output
high_pass_next x0 x1 x2 u1 u2 whole rest units is_whole is_rest is_units =
    let floor : ℤ → ℤ = λ z. int_div_euclid z (pos (10 ^ 14)) in
    ap (held (2 ^ 50))
    (ap (λ (z : ℤ). whole +ℤ z) is_units ∙ sym (div-add_whole whole rest)
    ∙ ap floor (ap (λ (z : ℤ). (pos (10 ^ 14) *ℤ z) +ℤ rest) is_whole ∙ ap (λ (z : ℤ). (pos (10 ^ 14) *ℤ (((x0 -ℤ x1) -ℤ (x1 -ℤ x2)) +ℤ (u1 +ℤ (u1 -ℤ u2)))) +ℤ z) is_rest ∙ sym (high_pass_regrouped x0 x1 x2 u1 u2)))

-- a coefficient by a value within the clamp
small_product : (coefficient value : ℤ) → unsigned_abs coefficient ≤ 2 ^ 48 → unsigned_abs value ≤ 2 ^ 50 → unsigned_abs (coefficient *ℤ value) < 2 ^ 102
small_product coefficient value small_coefficient small_value =
    let apart = unsigned_abs-mul coefficient value in
    let most = mul-le (unsigned_abs coefficient) (unsigned_abs value) (2 ^ 48) (2 ^ 50) small_coefficient small_value in
    omega arith

pub shelf_products : (x0 x1 x2 u1 u2 : ℤ) → unsigned_abs x0 ≤ 2 ^ 50 → unsigned_abs x1 ≤ 2 ^ 50 → unsigned_abs x2 ≤ 2 ^ 50
    → unsigned_abs u1 ≤ 2 ^ 50 → unsigned_abs u2 ≤ 2 ^ 50 → HasSmallProducts shelf x0 x1 x2 u1 u2
shelf_products x0 x1 x2 u1 u2 h0 h1 h2 k1 k2 = record {
  b0 = small_product shelf.b0 x0 (lit≤ tt) h0;
  b1 = small_product shelf.b1 x1 (lit≤ tt) h1;
  b2 = small_product shelf.b2 x2 (lit≤ tt) h2;
  a1 = small_product shelf.a1 u1 (lit≤ tt) k1;
  a2 = small_product shelf.a2 u2 (lit≤ tt) k2;
}

pub high_pass_products : (x0 x1 x2 u1 u2 : ℤ) → unsigned_abs x0 ≤ 2 ^ 50 → unsigned_abs x1 ≤ 2 ^ 50 → unsigned_abs x2 ≤ 2 ^ 50
    → unsigned_abs u1 ≤ 2 ^ 50 → unsigned_abs u2 ≤ 2 ^ 50 → HasSmallProducts high_pass x0 x1 x2 u1 u2
high_pass_products x0 x1 x2 u1 u2 h0 h1 h2 k1 k2 = record {
  b0 = small_product high_pass.b0 x0 (lit≤ tt) h0;
  b1 = small_product high_pass.b1 x1 (lit≤ tt) h1;
  b2 = small_product high_pass.b2 x2 (lit≤ tt) h2;
  a1 = small_product high_pass.a1 u1 (lit≤ tt) k1;
  a2 = small_product high_pass.a2 u2 (lit≤ tt) k2;
}
