-- Puts, drops, orders and rows of energies worked by hand.
use Rattle.std.specs.Prelude.{◌≡◌, ℕ, Bool, true, false, [], ◌∷◌, nat_lt, refl}
use Rattle.std.specs.Cmp.Lexicographic.{slice_cmp}
use Rattle.std.specs.Ordering.{nat_cmp, is_lt}
use Rattle.lib_base.specs.declared.limits.TheConstants.{GREATEST_ENERGY}
use Rattle.keeper_store.specs.EnergyBytes.{row_bytes, energies_in}
use Rattle.keeper_store.specs.Puts.{put, without}

-- pairs by their first number, as rows by their ids
abbrev first_less : ℕ × ℕ → ℕ × ℕ → Bool
first_less a b = nat_lt a.0 b.0

-- the first row
only : put nat_lt 4 [] ≡ 4 ∷ []
only = refl

-- below all, between two, above all
lowest : put nat_lt 1 (2 ∷ 5 ∷ []) ≡ 1 ∷ 2 ∷ 5 ∷ []
lowest = refl

between : put nat_lt 3 (2 ∷ 5 ∷ []) ≡ 2 ∷ 3 ∷ 5 ∷ []
between = refl

highest : put nat_lt 9 (2 ∷ 5 ∷ []) ≡ 2 ∷ 5 ∷ 9 ∷ []
highest = refl

-- in the place of the row of its id
replaced : put first_less (5, 1) ((2, 0) ∷ (5, 0) ∷ (7, 0) ∷ []) ≡ (2, 0) ∷ (5, 1) ∷ (7, 0) ∷ []
replaced = refl

-- a row taken out, and one that is not there
taken_out : without (λ (pair : ℕ × ℕ). pair.0) 5 ((2, 0) ∷ (5, 0) ∷ (7, 5) ∷ []) ≡ (2, 0) ∷ (7, 5) ∷ []
taken_out = refl

not_there : without (λ (pair : ℕ × ℕ). pair.0) 4 ((2, 4) ∷ (5, 0) ∷ []) ≡ (2, 4) ∷ (5, 0) ∷ []
not_there = refl

-- the token "b" comes after "B" and before "b-1"
small_after_capital : is_lt (slice_cmp nat_cmp (98 ∷ []) (66 ∷ [])) ≡ false
small_after_capital = refl

longer_after_shorter : is_lt (slice_cmp nat_cmp (98 ∷ []) (98 ∷ 45 ∷ 49 ∷ [])) ≡ true
longer_after_shorter = refl

-- 258 is 1 * 256 + 2
two_energies : row_bytes (258 ∷ 1 ∷ []) ≡ 0 ∷ 0 ∷ 0 ∷ 0 ∷ 0 ∷ 0 ∷ 0 ∷ 0 ∷ 0 ∷ 1 ∷ 2 ∷ 0 ∷ 0 ∷ 0 ∷ 0 ∷ 0 ∷ 0 ∷ 0 ∷ 0 ∷ 0 ∷ 0 ∷ 1 ∷ []
two_energies = refl

-- the greatest energy is 0x2aa08 times 2^64
of_the_greatest : row_bytes (GREATEST_ENERGY ∷ []) ≡ 2 ∷ 170 ∷ 8 ∷ 0 ∷ 0 ∷ 0 ∷ 0 ∷ 0 ∷ 0 ∷ 0 ∷ 0 ∷ []
of_the_greatest = refl

read_from_bytes : energies_in (2 ∷ 170 ∷ 8 ∷ 0 ∷ 0 ∷ 0 ∷ 0 ∷ 0 ∷ 0 ∷ 0 ∷ 0 ∷ 0 ∷ 0 ∷ 0 ∷ 0 ∷ 0 ∷ 0 ∷ 0 ∷ 0 ∷ 0 ∷ 1 ∷ 2 ∷ []) ≡ GREATEST_ENERGY ∷ 258 ∷ []
read_from_bytes = refl
