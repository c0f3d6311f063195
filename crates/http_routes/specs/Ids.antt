-- Ids in targets.
use Rattle.std.specs.Prelude.{◌≡◌, ◌==◌, ◌&&◌, ◌<◌, ◌^◌, not, ℕ, Bool, true, List, length, nat_le, nat_lt, slice_index, if◌then◌else◌}
use Rattle.std.specs.List.{before_first, after_first}
use Rattle.std.specs.Str.{all_ascii_digits}
use Rattle.std.specs.Str.Parse.{digits_value}
use Rattle.lib_base.specs.declared.limits.TheConstants.{NUMBERS_END}

-- a slash
abbrev pub is_slash : ℕ → Bool
is_slash byte = byte == 47

-- what stands in a target in the place of an id: between its second slash and its third, or its end
abbrev pub id_text : List ℕ → List ℕ
id_text target = before_first is_slash (after_first is_slash (after_first is_slash target))

-- decimal digits with no zero in front, of a number from 1 that is given to a recording or an album
abbrev pub is_id : List ℕ → Bool
is_id text =
    all_ascii_digits text && not (slice_index text 0 == 48)
    && nat_le 1 (digits_value 10 text) && nat_lt (digits_value 10 text) NUMBERS_END

-- the id that a text writes, and 0, which nothing has, where it writes none
abbrev pub id_asked : List ℕ → ℕ
id_asked text = if is_id text then digits_value 10 text else 0

-- one digit or more, of a number of 32 bits
abbrev pub WritesNumber : List ℕ → Type 0
WritesNumber text = (all_ascii_digits text ≡ true) × (0 < length text) × (digits_value 10 text < 2 ^ 32)
