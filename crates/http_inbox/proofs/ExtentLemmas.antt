-- What the header lines of a head say of its body.
use Rattle.std.proofs.Common.{◌≡◌, ℕ, suc, ◌+◌, ◌-◌, ◌*◌, ◌<◌, ◌≤◌, true, false, Option, Some, None, List, ◌∷◌, length, drop, get_or, if◌then◌else◌, arith, add-one, drop-cons}
use Rattle.std.specs.Char.{is_ascii_digit}
use Rattle.std.specs.Str.{all_ascii_digits}
use Rattle.std.specs.Str.Parse.{digits_value_after}
use Rattle.std.proofs.lemmas.Grind.{common_steps}
use Rattle.http_model.specs.declared.limits.TheConstants.{MOST_SIZE_DIGITS}
use Rattle.http_inbox.specs.Extents.{size_written}

-- the number of the digits behind those of a number
abbrev pub read_on : ℕ → List ℕ → Option ℕ
read_on number digits = if all_ascii_digits digits then Some (digits_value_after 10 number digits) else None

-- One byte to as many as a length may have write what reading them gives.
pub size_written-read : (digits : List ℕ) → 1 ≤ length digits → length digits ≤ MOST_SIZE_DIGITS → size_written digits ≡ read_on 0 digits
size_written-read digits some few = grind (arith, common_steps)

-- A digit adds a place.
pub read_on-digit : (number digit : ℕ) (digits : List ℕ) → is_ascii_digit digit ≡ true
    → read_on number (digit ∷ digits) ≡ read_on (number * 10 + (digit - 48)) digits
read_on-digit number digit digits is = grind (arith, common_steps)

-- Another byte writes no number.
pub read_on-other : (number digit : ℕ) (digits : List ℕ) → is_ascii_digit digit ≡ false
    → read_on number (digit ∷ digits) ≡ None
read_on-other number digit digits is = grind (arith, common_steps)

-- The same of the digits from a place on.
pub read_on-drop : (number place : ℕ) (digits : List ℕ) → place < length digits
    → is_ascii_digit (get_or digits place 0) ≡ true
    → read_on number (drop place digits) ≡ read_on (number * 10 + (get_or digits place 0 - 48)) (drop (place + 1) digits)
read_on-drop number place digits inside is =
    rw (add-one, drop-cons digits place 0 inside) (read_on-digit number (get_or digits place 0) (drop (suc place) digits) is)

pub read_on-drop_other : (number place : ℕ) (digits : List ℕ) → place < length digits
    → is_ascii_digit (get_or digits place 0) ≡ false → read_on number (drop place digits) ≡ None
read_on-drop_other number place digits inside is =
    rw (drop-cons digits place 0 inside) (read_on-other number (get_or digits place 0) (drop (suc place) digits) is)
