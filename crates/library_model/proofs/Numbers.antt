-- Numbers that are one or differ, by their tests.
use Rattle.std.proofs.Common.{◌≡◌, ◌≢◌, ◌==◌, ◌||◌, ℕ, Bool, true, false, nat_lt, refl, arith}
use Rattle.std.proofs.lemmas.Bool.Decides.{nat_tests}

-- a number below another is another one
pub below_differs : (m n : ℕ) → nat_lt m n ≡ true → m ≢ n
below_differs m n below same = grind (arith, nat_tests)

-- numbers of which neither is below the other are one
pub level_is : (m n : ℕ) → nat_lt m n ≡ false → nat_lt n m ≡ false → m ≡ n
level_is m n below above = grind (arith, nat_tests)

-- numbers that test as equal are one
pub test_is : (m n : ℕ) → (m == n) ≡ true → m ≡ n
test_is m n test = grind (arith, nat_tests)

-- and numbers that don't differ
pub test_differs : (m n : ℕ) → (m == n) ≡ false → m ≢ n
test_differs m n test same = grind (arith, nat_tests)

-- a number tests as equal to itself
pub test_itself : (n : ℕ) → (n == n) ≡ true
test_itself n = grind (arith, nat_tests)

-- numbers that are one: neither is below the other
pub neither_below : (m n : ℕ) → n ≡ m → (nat_lt m n ≡ false) × (nat_lt n m ≡ false)
neither_below m n same = (grind (arith, nat_tests), grind (arith, nat_tests))

-- of two tests the second one holds
pub or_right : (b other : Bool) → other ≡ true → (b || other) ≡ true
or_right true other is = refl
or_right false other is = is

-- neither of two holds
pub or_neither : (b other : Bool) → (b || other) ≡ false → (b ≡ false) × (other ≡ false)
or_neither true other is = absurd (cc is)
or_neither false other is = (refl, is)
