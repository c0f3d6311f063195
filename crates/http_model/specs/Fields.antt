-- Header lines by their names (RFC 9110 section 5).
use Rattle.std.specs.Prelude.{ℕ, Bool, List, [], ◌∷◌, map, if◌then◌else◌}
use Rattle.std.specs.Char.{to_ascii_lowercase}
use Rattle.std.specs.Str.{bytes_eq}

-- the name is that one, ASCII case aside (RFC 9110 section 5.1)
abbrev pub is_named : List ℕ → List ℕ → Bool
is_named name other = bytes_eq (map to_ascii_lowercase other) (map to_ascii_lowercase name)

-- the values of the header lines of that name, from names and values
abbrev pub values_of : List ℕ → List (List ℕ × List ℕ) → List (List ℕ)
values_of name [] = []
values_of name (header ∷ headers) =
    if is_named name header.0 then header.1 ∷ values_of name headers else values_of name headers
