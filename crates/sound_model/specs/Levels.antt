-- Levels of ratios, in half hundredths of a decibel. The table and its rounding are the library's own.
use Rattle.std.specs.Prelude.{◌≡◌, ◌+◌, ◌*◌, ◌/◌, ◌%◌, ◌^◌, ◌<◌, ◌≤◌, ℕ, ℤ, pos, negsuc, ◌+ℤ◌, ◌*ℤ◌, ◌<ℤ◌, List, [], ◌∷◌, slice_index, min}
use Rattle.std.specs.Int.{int_div_euclid}

-- 10^9 times 10^(i/10) for i whole decibels, rounded down
abbrev pub whole_decibels : List ℕ
whole_decibels =
    1000000000 ∷ 1258925411 ∷ 1584893192 ∷ 1995262314 ∷ 2511886431
    ∷ 3162277660 ∷ 3981071705 ∷ 5011872336 ∷ 6309573444 ∷ 7943282347 ∷ []

-- 10^9 times 10^(i/100) for i tenths of a decibel, rounded down
abbrev pub tenths : List ℕ
tenths =
    1000000000 ∷ 1023292992 ∷ 1047128548 ∷ 1071519305 ∷ 1096478196
    ∷ 1122018454 ∷ 1148153621 ∷ 1174897554 ∷ 1202264434 ∷ 1230268770 ∷ []

-- 10^9 times 10^(j/2000) for j half hundredths of a decibel, rounded down
abbrev pub half_hundredths : List ℕ
half_hundredths =
    1000000000 ∷ 1001151955 ∷ 1002305238 ∷ 1003459849 ∷ 1004615790
    ∷ 1005773063 ∷ 1006931668 ∷ 1008091609 ∷ 1009252886 ∷ 1010415500
    ∷ 1011579454 ∷ 1012744748 ∷ 1013911385 ∷ 1015079366 ∷ 1016248692
    ∷ 1017419366 ∷ 1018591388 ∷ 1019764760 ∷ 1020939483 ∷ 1022115560 ∷ []

-- m is the greatest whole number whose n-th power is at most 10^p
pub record IsRootOfTen (n p m : ℕ) : Type 0 where
  pub within : m ^ n ≤ 10 ^ p
  pub greatest : 10 ^ p < (m + 1) ^ n

-- the ratio at a place from 0 to 1999, in billionths: that of so many half hundredths of a decibel
unfoldable pub entry : ℕ → ℕ
entry place =
    slice_index whole_decibels (place / 200) * slice_index tenths (place / 20 % 10) / 10 ^ 9
    * slice_index half_hundredths (place % 20) / 10 ^ 9

-- 10^q is at most a/b
abbrev pub IsPowerWithin : ℕ → ℕ → ℤ → Type 0
IsPowerWithin a b (pos n) = b * 10 ^ n ≤ a
IsPowerWithin a b (negsuc n) = b ≤ a * 10 ^ (n + 1)

-- the ratio at a place, times 10^q, is at most a/b
abbrev pub IsPlaceWithin : ℕ → ℕ → ℤ → ℕ → Type 0
IsPlaceWithin a b (pos n) place = entry place * b * 10 ^ n ≤ a * 10 ^ 9
IsPlaceWithin a b (negsuc n) place = entry place * b ≤ a * 10 ^ 9 * 10 ^ (n + 1)

-- The level of a/b is 2000 * q + k, where 10^q is the greatest power of ten within a/b, and k the greatest place within it at that
-- power.
pub record IsLevel (a b : ℕ) (level : ℤ) : Type 0 where
  pub power : ℤ
  pub place : ℕ
  pub value : level ≡ pos 2000 *ℤ power +ℤ pos place
  pub is_place : place < 2000
  pub power_within : IsPowerWithin a b power
  pub power_greatest : (q : ℤ) → power <ℤ q → ¬ IsPowerWithin a b q
  pub place_within : IsPlaceWithin a b power place
  pub place_greatest : (k : ℕ) → place < k → k < 2000 → ¬ IsPlaceWithin a b power k

-- a level in hundredths of a decibel, to the nearest one, and half of one upwards
unfoldable pub hundredths : ℤ → ℤ
hundredths level = int_div_euclid (level +ℤ pos 1) (pos 2)

-- a number held to the places of the buckets, from 0 to 1023
abbrev pub held_to_buckets : ℤ → ℕ
held_to_buckets (pos n) = min n 1023
held_to_buckets (negsuc n) = 0

-- the bucket of a level: a tenth of a decibel wide, the first one with all below -69.9 dB, the last one with all from 32.3 dB on
unfoldable pub bucket_of : ℤ → ℕ
bucket_of level = held_to_buckets (int_div_euclid (level +ℤ pos 14000) (pos 20))
