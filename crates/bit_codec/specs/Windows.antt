-- A window of 64 bits, with which fields are read.
use Rattle.std.specs.Prelude.{◌≡◌, ◌≤◌, ◌<◌, ◌+◌, ◌-◌, ◌*◌, ◌^◌, ℕ, min, Bool, List, length, take, Result, Ok}
use Rattle.file_model.specs.declared.bits.BitFault.{BitFault}
use Rattle.file_model.specs.Bits.{number}
use Rattle.file_model.specs.Fields.{field, unary_at, held}
use Rattle.file_model.specs.Outcomes.{◌>>=◌}

-- The window has the next bits on top, so many fewer than 64, and zeros under them.
pub record IsWindow (left : List Bool) (fewer window : ℕ) : Type 0 where
  pub few : fewer < 8
  pub whole : 64 ≤ length left + fewer
  pub value : window ≡ number (take (64 - fewer) left) * 2 ^ fewer

-- a unary count behind so many zeros, held to the greatest number of 64 bits
abbrev pub held_behind : ℕ → Result (ℕ × List Bool) BitFault → Result (ℕ × List Bool) BitFault
held_behind passed read = do
  count ← read
  Ok (min (passed + count.0) (2 ^ 64 - 1), count.1)

-- a Rice value, held to the greatest number of 64 bits, by its parts
unfoldable pub rice_by_parts : ℕ → List Bool → Result (ℕ × List Bool) BitFault
rice_by_parts count bits = do
  quotient ← held (unary_at bits)
  low ← field count quotient.1
  Ok (min (quotient.0 * 2 ^ count + low.0) (2 ^ 64 - 1), low.1)
