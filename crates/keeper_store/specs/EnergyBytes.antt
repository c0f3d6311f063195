-- Energies as the bytes of a row: 11 bytes each, the highest first.
use Rattle.std.specs.Prelude.{◌+◌, ◌*◌, ◌/◌, ◌<◌, ◌≤◌, ℕ, List, length, map, fold, flat_map, All, Any}
use Rattle.std.specs.Int.{bytes_high_first}
use Rattle.std.specs.Simd.{first_chunks}
use Rattle.lib_base.specs.declared.limits.TheConstants.{GREATEST_ENERGY}

-- the lowest 11 bytes of an energy
abbrev pub energy_bytes : ℕ → List ℕ
energy_bytes energy = bytes_high_first 11 energy

-- the bytes of energies, one after another
abbrev pub row_bytes : List ℕ → List ℕ
row_bytes energies = flat_map energy_bytes energies

-- the number that bytes spell, the highest first
abbrev pub spelled : List ℕ → ℕ
spelled bytes = fold (λ n b. 256 * n + b) 0 bytes

-- the numbers that the bytes of a row spell, 11 bytes each
abbrev pub energies_in : List ℕ → List ℕ
energies_in bytes = map spelled (first_chunks 11 (length bytes / 11) bytes)

-- energies that a row may have
abbrev pub AreEnergies : List ℕ → Type 0
AreEnergies energies = All (λ e. e ≤ GREATEST_ENERGY) energies

-- some number is greater than an energy may be
abbrev pub HasTooGreat : List ℕ → Type 0
HasTooGreat numbers = Any (λ e. GREATEST_ENERGY < e) numbers
