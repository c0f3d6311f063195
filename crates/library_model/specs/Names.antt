-- The forms of names and of tokens.
use Rattle.std.specs.Prelude.{ℕ, Bool, not, ◌&&◌, ◌||◌, ◌==◌, List, length, nat_le}
use Rattle.std.specs.Char.{is_ascii_alphanumeric}
use Rattle.std.specs.List.{list_all}
use Rattle.std.specs.Str.{is_utf8}
use Rattle.library_model.specs.declared.limits.TheConstants.{MOST_NAME_BYTES, MOST_TOKEN_BYTES}

-- a byte that is no control character of ASCII: from 0x20 on, but not 0x7F
abbrev pub is_shown : ℕ → Bool
is_shown byte = nat_le 0x20 byte && not (byte == 0x7F)

-- the name of a recording or an album: 0 to 200 bytes of UTF-8, without control characters of ASCII
abbrev pub is_name : List ℕ → Bool
is_name name = is_utf8 name && (nat_le (length name) MOST_NAME_BYTES && list_all is_shown name)

-- a letter of ASCII, a digit or a dash
abbrev pub is_token_byte : ℕ → Bool
is_token_byte byte = is_ascii_alphanumeric byte || byte == 45

-- a token: 1 to 64 letters of ASCII, digits and dashes
abbrev pub is_token : List ℕ → Bool
is_token token = nat_le 1 (length token) && nat_le (length token) MOST_TOKEN_BYTES && list_all is_token_byte token
