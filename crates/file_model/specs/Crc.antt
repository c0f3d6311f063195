-- Cyclic redundancy checks. After RFC 9639, sections 9.1.8 and 9.3.
use Rattle.std.specs.Prelude.{ℕ, zero, suc, Bool, true, false, not, List, [], ◌∷◌, ◌++◌, length, replicate}
use Rattle.file_model.specs.Bits.{bits_in, bits, number}

-- the second polynomial less the first, from the highest coefficients of both on
unfoldable pub less : List Bool → List Bool → List Bool
less [] bits = bits
less (one ∷ ones) [] = []
less (true ∷ ones) (bit ∷ bits) = not bit ∷ less ones bits
less (false ∷ ones) (bit ∷ bits) = bit ∷ less ones bits

-- So many steps of a long division: where the highest coefficient is 1, the divisor is taken from the
-- polynomial, and the coefficient falls away. The divisor's own highest coefficient is 1, and not written.
unfoldable pub divided : ℕ → List Bool → List Bool → List Bool
divided zero divisor bits = bits
divided (suc steps) divisor [] = []
divided (suc steps) divisor (true ∷ bits) = divided steps divisor (less divisor bits)
divided (suc steps) divisor (false ∷ bits) = divided steps divisor bits

-- what is left of a message, with as many zeros behind it as the divisor has coefficients
unfoldable pub remainder : List Bool → List Bool → List Bool
remainder divisor message = divided (length message) divisor (message ++ replicate (length divisor) false)

-- x^8 + x^2 + x + 1
abbrev pub header_divisor : List Bool
header_divisor = bits_in 8 0x07

-- x^16 + x^15 + x^2 + 1
abbrev pub frame_divisor : List Bool
frame_divisor = bits_in 16 0x8005

-- the check over a frame's header
unfoldable pub crc8 : List ℕ → ℕ
crc8 bytes = number (remainder header_divisor (bits bytes))

-- the check over a whole frame
unfoldable pub crc16 : List ℕ → ℕ
crc16 bytes = number (remainder frame_divisor (bits bytes))
