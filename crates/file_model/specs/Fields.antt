-- Fields of bits. Each is a function from bits to its value and the bits behind it, or to its fault:
-- `Cut` where the bits end inside it, `BadNumber` where a byte that is there breaks the form of a
-- coded number. After RFC 9639, sections 5, 9.1.5 and 9.2.7.
use Rattle.std.specs.Prelude.{◌+◌, ◌-◌, ◌*◌, ◌/◌, ◌%◌, ◌^◌, ℕ, zero, suc, ℤ, Bool, true, false, min, nat_lt, nat_eq, if◌then◌else◌, List, [], ◌∷◌, length, take, drop, Result, Ok, Err}
use Rattle.file_model.specs.declared.bits.BitFault.{BitFault}
use Rattle.file_model.specs.declared.bits.BitFault.TheVariants.{Cut, BadNumber}
use Rattle.file_model.specs.Bits.{number}
use Rattle.file_model.specs.Outcomes.{◌>>=◌}
use Rattle.file_model.specs.Samples.{signed}

-- a number of so many bits, and the bits behind it
unfoldable pub field : ℕ → List Bool → Result (ℕ × List Bool) BitFault
field count bits = if nat_lt (length bits) count then Err Cut else Ok (number (take count bits), drop count bits)

-- a number of so many bits with a sign, in two's complement
unfoldable pub signed_field : ℕ → List Bool → Result (ℤ × List Bool) BitFault
signed_field count bits = do
  value ← field count bits
  Ok (signed count value.0, value.1)

-- how many zeros stand before the next one, which belongs to the field
unfoldable pub unary_at : List Bool → Result (ℕ × List Bool) BitFault
unary_at [] = Err Cut
unary_at (true ∷ bits) = Ok (0, bits)
unary_at (false ∷ bits) = do
  more ← unary_at bits
  Ok (suc more.0, more.1)

-- a Rice value: a unary quotient, and its low bits
unfoldable pub rice_at : ℕ → List Bool → Result (ℕ × List Bool) BitFault
rice_at count bits = do
  quotient ← unary_at bits
  low ← field count quotient.1
  Ok (quotient.0 * 2 ^ count + low.0, low.1)

-- a number that may be of any size, held to the greatest of 64 bits
abbrev pub held : Result (ℕ × List Bool) BitFault → Result (ℕ × List Bool) BitFault
held read = do
  value ← read
  Ok (min value.0 (2 ^ 64 - 1), value.1)

-- what the first byte of a coded number says: how many bytes follow, and the number's highest bits
unfoldable pub lead : ℕ → Result (ℕ × ℕ) BitFault
lead first =
    if nat_lt first 128 then Ok (0, first)
    else if nat_lt first 192 then Err BadNumber
    else if nat_lt first 224 then Ok (1, first - 192)
    else if nat_lt first 240 then Ok (2, first - 224)
    else if nat_lt first 248 then Ok (3, first - 240)
    else if nat_lt first 252 then Ok (4, first - 248)
    else if nat_lt first 254 then Ok (5, first - 252)
    else if nat_lt first 255 then Ok (6, 0)
    else Err BadNumber

-- so many bytes 10xxxxxx, each with six more bits of the number
unfoldable pub coded_more : ℕ → ℕ → List Bool → Result (ℕ × List Bool) BitFault
coded_more zero value bits = Ok (value, bits)
coded_more (suc count) value bits = do
  next ← field 8 bits
  if nat_eq (next.0 / 64) 2 then coded_more count (value * 64 + next.0 % 64) next.1 else Err BadNumber

-- A coded number, in the form of UTF-8 with up to seven bytes. Longer forms than needed count too.
unfoldable pub coded_at : List Bool → Result (ℕ × List Bool) BitFault
coded_at bits = do
  first ← field 8 bits
  high ← lead first.0
  coded_more high.0 high.1 first.1

-- the bits up to the next whole byte: whether all are 0, and the bits behind them
unfoldable pub align_at : List Bool → Bool × List Bool
align_at bits = (nat_eq (number (take (length bits % 8) bits)) 0, drop (length bits % 8) bits)
