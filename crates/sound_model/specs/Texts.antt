-- How levels and peaks are written. That a peak is rounded up in its sixth decimal is the library's own.
use Rattle.std.specs.Prelude.{◌+◌, ◌-◌, ◌*◌, ◌/◌, ◌%◌, ◌^◌, ℕ, zero, suc, ℤ, pos, negsuc, List, [], ◌∷◌, ◌++◌, codes, decimal, unsigned_abs}

-- the last so many decimal digits of a number
abbrev pub last_digits : ℕ → ℕ → List ℕ
last_digits zero n = []
last_digits (suc count) n = last_digits count (n / 10) ++ (48 + n % 10) ∷ []

-- a minus before negative numbers
abbrev pub sign_text : ℤ → List ℕ
sign_text (pos n) = []
sign_text (negsuc n) = codes "-"

-- hundredths as a decimal number of two places
abbrev pub decimal_text : ℤ → List ℕ
decimal_text value = sign_text value ++ decimal (unsigned_abs value / 100) ++ codes "." ++ last_digits 2 (unsigned_abs value)

-- a gain in hundredths of a decibel (ReplayGain 2.0)
abbrev pub gain_text : ℤ → List ℕ
gain_text gain = decimal_text gain ++ codes " dB"

-- a peak in millionths of full scale, rounded up, from units of 2^-36
unfoldable pub millionths : ℕ → ℕ
millionths peak = (peak * 10 ^ 6 + 2 ^ 36 - 1) / 2 ^ 36

-- a peak as a decimal number of six places, 1 being full scale (ReplayGain 2.0)
abbrev pub peak_text : ℕ → List ℕ
peak_text peak = decimal (millionths peak / 10 ^ 6) ++ codes "." ++ last_digits 6 (millionths peak)
