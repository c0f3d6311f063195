-- Samples taken out of bytes. Of these words only `signed` serves another definition.
use Rattle.std.specs.Prelude.{◌+◌, ◌-◌, ◌*◌, ◌/◌, ◌^◌, ℕ, suc, ℤ, pos, negsuc, nat_lt, if◌then◌else◌, List, [], ◌∷◌, map}
use Rattle.std.specs.Simd.{first_chunks}

-- the number in bytes, the lowest first
abbrev pub number_in : List ℕ → ℕ
number_in [] = 0
number_in (byte ∷ bytes) = byte + 256 * number_in bytes

-- a number of so many bits as one with a sign
abbrev pub signed : ℕ → ℕ → ℤ
signed depth n = if nat_lt n (2 ^ (depth - 1)) then pos n else negsuc (2 ^ depth - suc n)

-- the sample in some bytes
abbrev pub sample_in : ℕ → List ℕ → ℤ
sample_in depth bytes = signed depth (number_in bytes)

-- the samples in bytes, of so many
abbrev pub samples_in : ℕ → ℕ → List ℕ → List ℤ
samples_in depth count bytes = map (sample_in depth) (first_chunks (depth / 8) count bytes)
