-- What levels obey: the level of a pair is one number, it doesn't fall where the ratio rises, and neighbours tell which it is.
use Rattle.std.proofs.Common.{◌≡◌, ◌<◌, ◌≤◌, ◌+◌, ◌*◌, ◌^◌, ℕ, zero, suc, ℤ, pos, negsuc, ◌+ℤ◌, ◌*ℤ◌, ◌<ℤ◌, ◌≤ℤ◌, refl, subst, arith, inl, inr, ◌⊎◌}
use Rattle.std.proofs.lemmas.Bool.{cases_lt}
use Rattle.std.proofs.lemmas.Int.{ints, by_lt_z}
use Rattle.std.proofs.Math.Nat.{mul-le-mul_left, mul-le-mul_right, le_of_mul-le-mul_left, mul-one, pow-le-pow_right, one-le-pow}
use Rattle.sound_model.specs.Levels.{IsLevel, IsPowerWithin, IsPlaceWithin, entry, held_to_buckets, bucket_of}
use Rattle.std.specs.Int.{int_div_euclid}

-- what c/d reaches, a/b reaches too where it is no less
reached_by_greater : (a b c d m n : ℕ) → 0 < d → c * b ≤ a * d → d * m ≤ c * n → b * m ≤ a * n
reached_by_greater a b c d m n above rises within =
    let first : d * m * b ≤ c * n * b = mul-le-mul_right b within in
    let second : c * b * n ≤ a * d * n = mul-le-mul_right n rises in
    let whole : d * (b * m) ≤ d * (a * n) = omega (arith, first, second) in
    le_of_mul-le-mul_left whole above

power_by_greater : (a b c d : ℕ) (q : ℤ) → 0 < d → c * b ≤ a * d → IsPowerWithin c d q → IsPowerWithin a b q
power_by_greater a b c d (pos n) above rises within =
    let so : b * 10 ^ n ≤ a * 1 = reached_by_greater a b c d (10 ^ n) 1 above rises (rw mul-one within) in
    omega (arith, so)
power_by_greater a b c d (negsuc n) above rises within =
    let so : b * 1 ≤ a * 10 ^ (n + 1) = reached_by_greater a b c d 1 (10 ^ (n + 1)) above rises (rw mul-one within) in
    omega (arith, so)

place_by_greater : (a b c d : ℕ) (q : ℤ) (k : ℕ) → 0 < d → c * b ≤ a * d → IsPlaceWithin c d q k → IsPlaceWithin a b q k
place_by_greater a b c d (pos n) k above rises within =
    let so = reached_by_greater a b c d (entry k * 10 ^ n) (10 ^ 9) above rises (omega (arith, within)) in
    omega (arith, so)
place_by_greater a b c d (negsuc n) k above rises within =
    let so = reached_by_greater a b c d (entry k) (10 ^ 9 * 10 ^ (n + 1)) above rises (omega (arith, within)) in
    omega (arith, so)

any_power_within : (a : ℕ) (q : ℤ) → IsPowerWithin a 0 q
any_power_within a (pos n) = omega arith
any_power_within a (negsuc n) = omega arith

-- only a pair whose second number is above 0 has a level
pub denominator_of_level : (a b : ℕ) (v : ℤ) → IsLevel a b v → 0 < b
denominator_of_level a zero v level =
    absurd (level.power_greatest (level.power +ℤ pos 1) (omega (arith, ints)) (any_power_within a _))
denominator_of_level a (suc b) v level = omega arith

-- a greater power gives a level that is no less, whatever the places
value_by_power : (p q : ℤ) (j k : ℕ) → p <ℤ q → j < 2000 → (pos 2000 *ℤ p +ℤ pos j) ≤ℤ (pos 2000 *ℤ q +ℤ pos k)
value_by_power p q j k less within = omega (arith, ints)

-- at one power, a greater place does
value_by_place : (p q : ℤ) (j k : ℕ) → p ≤ℤ q → q ≤ℤ p → j ≤ k → (pos 2000 *ℤ p +ℤ pos j) ≤ℤ (pos 2000 *ℤ q +ℤ pos k)
value_by_place p q j k no_less no_greater within = omega (arith, ints)

-- a level doesn't fall where the ratio rises
pub level-rises : (a b c d : ℕ) (v w : ℤ) → IsLevel a b v → IsLevel c d w → c * b ≤ a * d → w ≤ℤ v
level-rises a b c d v w above below rises =
    rw (above.value, below.value)
    (by_lt_z above.power below.power
    (λ less. absurd (above.power_greatest below.power less (power_by_greater a b c d below.power denominator rises below.power_within)))
    (λ no_less. by_lt_z below.power above.power
    (λ less. value_by_power below.power above.power below.place above.place less below.is_place)
    (λ no_greater. at_power no_less no_greater (cases_lt above.place below.place))))
  where
    denominator : 0 < d
    denominator = denominator_of_level c d w below

    at_power : below.power ≤ℤ above.power → above.power ≤ℤ below.power → (above.place < below.place) ⊎ (below.place ≤ above.place)
        → (pos 2000 *ℤ below.power +ℤ pos below.place) ≤ℤ (pos 2000 *ℤ above.power +ℤ pos above.place)
    at_power no_less no_greater (inl less) =
        let one_power : below.power ≡ above.power = omega (arith, ints) in
        let Reaches : ℤ → Type 0 = λ q. IsPlaceWithin a b q below.place in
        let reached = subst Reaches one_power (place_by_greater a b c d below.power below.place denominator rises below.place_within) in
        absurd (above.place_greatest below.place less below.is_place reached)
    at_power no_less no_greater (inr within) = value_by_place below.power above.power below.place above.place no_less no_greater within

-- two levels of one pair are equal
pub level-unique : (a b : ℕ) (v w : ℤ) → IsLevel a b v → IsLevel a b w → v ≡ w
level-unique a b v w first second =
    let up = level-rises a b a b v w first second (omega arith) in
    let down = level-rises a b a b w v second first (omega arith) in
    omega (arith, ints, up, down)

-- a level from 0 on, from the powers and the places around it
pub level_from_power : (a b q k : ℕ) → b * 10 ^ q ≤ a → a < b * 10 ^ (q + 1) → k < 2000 → entry k * (b * 10 ^ q) ≤ a * 10 ^ 9
    → ((j : ℕ) → k < j → j < 2000 → a * 10 ^ 9 < entry j * (b * 10 ^ q)) → IsLevel a b (pos 2000 *ℤ pos q +ℤ pos k)
level_from_power a b q k within next is_place reached passed = record {
  power = pos q;
  place = k;
  value = refl;
  is_place = is_place;
  power_within = within;
  power_greatest = later;
  place_within = omega (arith, reached);
  place_greatest = λ j after below reaches. let over = passed j after below in omega (arith, over, reaches);
}
  where
    later : (r : ℤ) → pos q <ℤ r → IsPowerWithin a b r → ⊥
    later (pos m) less reaches =
        let more : 10 ^ (q + 1) ≤ 10 ^ m = pow-le-pow_right (omega arith) (omega (arith, ints, less)) in
        let scaled = mul-le-mul_left b more in
        omega (arith, scaled, reaches, next)
    later (negsuc m) less reaches = omega (arith, ints, less)

-- a level below 0, from the powers and the places around it
pub level_from_root : (a b n k : ℕ) → b ≤ a * 10 ^ (n + 1) → a * 10 ^ n < b → k < 2000 → entry k * b ≤ a * 10 ^ (n + 1) * 10 ^ 9
    → ((j : ℕ) → k < j → j < 2000 → a * 10 ^ (n + 1) * 10 ^ 9 < entry j * b) → IsLevel a b (pos 2000 *ℤ negsuc n +ℤ pos k)
level_from_root a b n k within next is_place reached passed = record {
  power = negsuc n;
  place = k;
  value = refl;
  is_place = is_place;
  power_within = within;
  power_greatest = later;
  place_within = omega (arith, reached);
  place_greatest = λ j after below reaches. let over = passed j after below in omega (arith, over, reaches);
}
  where
    later : (r : ℤ) → negsuc n <ℤ r → IsPowerWithin a b r → ⊥
    later (pos m) less reaches =
        let one_up = mul-le-mul_left b (one-le-pow m 10 (omega arith)) in
        let one_down = mul-le-mul_left a (one-le-pow n 10 (omega arith)) in
        omega (arith, one_up, one_down, reaches, next)
    later (negsuc m) less reaches =
        let more : 10 ^ (m + 1) ≤ 10 ^ n = pow-le-pow_right (omega arith) (omega (arith, ints, less)) in
        let scaled = mul-le-mul_left a more in
        omega (arith, scaled, reaches, next)

div_20_rises : (x y : ℤ) → x ≤ℤ y → int_div_euclid x (pos 20) ≤ℤ int_div_euclid y (pos 20)
div_20_rises (pos a) (pos b) rises = omega (arith, ints)
div_20_rises (pos a) (negsuc b) rises = omega (arith, ints)
div_20_rises (negsuc a) (pos b) rises = omega (arith, ints)
div_20_rises (negsuc a) (negsuc b) rises = omega (arith, ints)

held_rises : (x y : ℤ) → x ≤ℤ y → held_to_buckets x ≤ held_to_buckets y
held_rises (pos a) (pos b) rises = omega (arith, ints)
held_rises (pos a) (negsuc b) rises = absurd (omega (arith, ints))
held_rises (negsuc a) y rises = omega arith

-- a bucket doesn't fall where the level rises
pub bucket_of-rises : (x y : ℤ) → x ≤ℤ y → bucket_of x ≤ bucket_of y
unfolding bucket_of
bucket_of-rises x y rises =
    held_rises (int_div_euclid (x +ℤ pos 14000) (pos 20)) (int_div_euclid (y +ℤ pos 14000) (pos 20))
    (div_20_rises (x +ℤ pos 14000) (y +ℤ pos 14000) (omega (arith, ints)))
