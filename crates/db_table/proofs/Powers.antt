-- The powers of ten around a ratio, found by the digits of a quotient.
use Rattle.std.proofs.Common.{◌≡◌, ◌<◌, ◌≤◌, ◌+◌, ◌-◌, ◌*◌, ◌/◌, ◌^◌, ℕ, ℤ, pos, negsuc, ◌+ℤ◌, ◌-ℤ◌, ◌*ℤ◌, w32, to_z, of_z, arith, add-one, inl, inr, ◌⊎◌}
use Rattle.std.proofs.lemmas.Bool.{cases_lt}
use Rattle.std.proofs.lemmas.Int.{ints}
use Rattle.std.proofs.Math.Nat.{mul-le-mul_left, pow-le-pow_right, div-add-mod, div-le_self, pow-succ'}
use Rattle.std.proofs.lemmas.Nat.{mod_below}

ten_powers : (q : ℕ) → 10 ^ (q + 1) ≡ 10 * 10 ^ q
ten_powers q = rw add-one (pow-succ' 10 q)

-- the power of ten within a number below 2^92
pub power_below_28 : (q n : ℕ) → 10 ^ q ≤ n → n < 2 ^ 92 → q < 28
power_below_28 q n within below = cases (cases_lt q 28)
  where
    cases : (q < 28) ⊎ (28 ≤ q) → q < 28
    cases (inl less) = less
    cases (inr more) =
        let great : 10 ^ 28 ≤ 10 ^ q = pow-le-pow_right (omega arith) more in
        absurd (omega (arith, great, within, below))

-- the power of ten within a quotient is the greatest within its ratio
pub record IsPowerBelow (a b q : ℕ) : Type 0 where
  pub within : b * 10 ^ q ≤ a
  pub next : a < b * 10 ^ (q + 1)
  pub few : q < 28

pub power_of_quotient : (a b q : ℕ) → 0 < b → a < 2 ^ 92 → 10 ^ q ≤ a / b → a / b < 10 * 10 ^ q → IsPowerBelow a b q
power_of_quotient a b q above below power_le next_power_gt =
    let low : b * 10 ^ q ≤ b * (a / b) = mul-le-mul_left b power_le in
    let high : b * (a / b + 1) ≤ b * (10 * 10 ^ q) = mul-le-mul_left b (omega arith) in
    let whole = div-add-mod a b in
    let rest = mod_below a b above in
    let small = div-le_self a b in
    record {
      within = omega (arith, low, whole);
      next = rw (ten_powers q) (omega (arith, high, whole, rest));
      few = power_below_28 q a (omega (arith, power_le, small)) below;
    }

-- one power more than is within the quotient of the number below is the least that lifts a to b
pub record IsPowerAbove (a b d : ℕ) : Type 0 where
  pub reached : b ≤ a * 10 ^ (d + 1)
  pub before : a * 10 ^ d < b
  pub few : d < 28
  pub small : a * 10 ^ (d + 1) < 10 * 2 ^ 92

pub power_of_rest : (a b d : ℕ) → 0 < a → a < b → b < 2 ^ 92 → 10 ^ d ≤ (b - 1) / a → (b - 1) / a < 10 * 10 ^ d → IsPowerAbove a b d
power_of_rest a b d above less below power_le next_power_gt =
    let low : a * 10 ^ d ≤ a * ((b - 1) / a) = mul-le-mul_left a power_le in
    let high : a * ((b - 1) / a + 1) ≤ a * (10 * 10 ^ d) = mul-le-mul_left a (omega arith) in
    let whole = div-add-mod (b - 1) a in
    let rest = mod_below (b - 1) a above in
    let few_digits = div-le_self (b - 1) a in
    record {
      reached = rw (ten_powers d) (omega (arith, high, whole, rest));
      before = omega (arith, low, whole, less);
      few = power_below_28 d (b - 1) (omega (arith, power_le, few_digits)) (omega arith);
      small = rw (ten_powers d) (omega (arith, low, whole, less, below));
    }

-- what the program adds up to
pub level_up : (q k : ℕ) (place : ℤ) → q < 28 → k < 2000 → place ≡ pos k
    → to_z w32 (of_z w32 (to_z w32 (of_z w32 (pos 2000 *ℤ to_z w32 q)) +ℤ to_z w32 (of_z w32 place))) ≡ pos 2000 *ℤ pos q +ℤ pos k
level_up q k place few within is = rw is (omega (arith, ints))

pub level_down : (d k : ℕ) (place : ℤ) → d < 28 → k < 2000 → place ≡ pos k
    → to_z w32 (of_z w32 (to_z w32 (of_z w32 place) -ℤ to_z w32 (of_z w32 (pos 2000 *ℤ to_z w32 (d + 1))))) ≡ pos 2000 *ℤ negsuc d +ℤ pos k
level_down d k place few within is = rw is (omega (arith, ints))
