-- Bytes as bits, the high bit first. After RFC 9639, section 5.
use Rattle.std.specs.Prelude.{◌+◌, ◌/◌, ◌%◌, ◌^◌, ℕ, zero, suc, Bool, nat_eq, if◌then◌else◌, List, [], ◌∷◌, length}
use Rattle.std.specs.List.{flat_map}

-- the last so many bits of a number, the high one first
unfoldable pub bits_in : ℕ → ℕ → List Bool
bits_in zero value = []
bits_in (suc count) value = nat_eq (value / 2 ^ count % 2) 1 ∷ bits_in count value

-- the bits of bytes, the high bit of each first
unfoldable pub bits : List ℕ → List Bool
bits bytes = flat_map (bits_in 8) bytes

-- the number that bits spell
unfoldable pub number : List Bool → ℕ
number [] = 0
number (bit ∷ rest) = (if bit then 2 ^ length rest else 0) + number rest
