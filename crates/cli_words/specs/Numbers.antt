-- The numbers of options.
use Rattle.std.specs.Prelude.{◌&&◌, ◌<◌, ◌^◌, ℕ, Bool, List, length, nat_le, nat_lt, Option, None, Some, if◌then◌else◌, option_and_then}
use Rattle.std.specs.Option.{option_map_or}
use Rattle.std.specs.Str.{all_ascii_digits}
use Rattle.std.specs.Str.Parse.{digits_value, without_leading_plus}

-- digits, at least one, of a number of 32 bits
abbrev pub is_number : List ℕ → Bool
is_number digits = all_ascii_digits digits && nat_lt 0 (length digits) && nat_lt (digits_value 10 digits) (2 ^ 32)

-- the number that `u32` reads from a text: that of its digits, behind a plus or nothing
abbrev pub number_read : List ℕ → Option ℕ
number_read text =
    let digits = without_leading_plus text in if is_number digits then Some (digits_value 10 digits) else None

-- the same, from 1 to `most`
abbrev pub number_of : List ℕ → ℕ → Option ℕ
number_of text most =
    option_and_then (λ number. if nat_le 1 number && nat_le number most then Some number else None) (number_read text)

-- the number of an option's value, or the default where there is none
abbrev pub number_or : Option (List ℕ) → ℕ → ℕ → Option ℕ
number_or value most default = option_map_or (λ text. number_of text most) value (Some default)
