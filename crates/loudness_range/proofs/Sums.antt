-- Sums of numbers that are few and small.
use Rattle.std.proofs.Common.{◌<◌, ◌≤◌, ◌*◌, ◌^◌, ℕ, List, length, arith, Bool}
use Rattle.std.specs.Prelude.{sum, All, filter}
use Rattle.std.proofs.Math.Nat.{mul-le-mul_right}
use Rattle.std.proofs.lemmas.List.Sums.{sum_by-le, count_by-le-length, length-filter}

-- as many as 2^25 numbers below 2^87
pub sum_of_few : (xs : List ℕ) → length xs ≤ 2 ^ 25 → All (λ (z : ℕ). z < 2 ^ 87) xs → sum xs < 2 ^ 113
sum_of_few xs few small =
    let whole = sum_by-le (λ z. z) (2 ^ 87) xs (λ k d within. let below = small k d within in omega arith) in
    let most : length xs * 2 ^ 87 ≤ 2 ^ 25 * 2 ^ 87 = mul-le-mul_right (2 ^ 87) few in
    omega arith

pub length-filter-le : (p : ℕ → Bool) (xs : List ℕ) → length (filter p xs) ≤ length xs
length-filter-le p xs = let same = length-filter p xs in let within = count_by-le-length p xs in omega arith
