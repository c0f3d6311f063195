-- Worked rows: what names are, and what bodies of requests say.
use Rattle.std.proofs.Common.{◌≡◌, true, false, None, Some, [], ◌∷◌, codes, replicate, refl}
use Rattle.std.specs.Char.{encode_utf8}
use Rattle.std.specs.Str.{chars, is_utf8}
use Rattle.serde_json.proofs.OnLiterals.{serde_json_on_literals}
use Rattle.library_model.specs.Named.{name_in, album_in}
use Rattle.library_model.specs.Names.{is_name}

-- ---- names

-- No text at all is a name.
pub is_name-empty : is_name [] ≡ true
unfolding is_utf8 chars encode_utf8
is_name-empty = refl

-- So is one beyond ASCII.
pub is_name-umlaut : is_name (70 ∷ 195 ∷ 188 ∷ 114 ∷ []) ≡ true
unfolding is_utf8 chars encode_utf8
is_name-umlaut = refl

-- 200 bytes are a name.
pub is_name-longest : is_name (replicate 200 97) ≡ true
unfolding is_utf8 chars encode_utf8
is_name-longest = refl

-- One more is none.
pub is_name-too_long : is_name (replicate 201 97) ≡ false
unfolding is_utf8 chars encode_utf8
is_name-too_long = refl

-- A control is none.
pub is_name-control : is_name (97 ∷ 31 ∷ []) ≡ false
unfolding is_utf8 chars encode_utf8
is_name-control = refl

-- Nor is DEL.
pub is_name-delete : is_name (127 ∷ []) ≡ false
unfolding is_utf8 chars encode_utf8
is_name-delete = refl

-- Nor is the front of a character.
pub is_name-cut : is_name (97 ∷ 195 ∷ []) ≡ false
unfolding is_utf8 chars encode_utf8
is_name-cut = refl

-- ---- names in bodies

-- An object with that key gives its text.
pub name_in-one : name_in (codes "{\"name\":\"A\"}") ≡ Some (codes "A")
unfolding serde_json_on_literals is_utf8 chars encode_utf8
name_in-one = refl

-- Of two equal keys the last one counts.
pub name_in-twice : name_in (codes "{\"name\":\"A\",\"name\":\"B\"}") ≡ Some (codes "B")
unfolding serde_json_on_literals is_utf8 chars encode_utf8
name_in-twice = refl

-- Another key beside it is one too many.
pub name_in-more : name_in (codes "{\"name\":\"A\",\"x\":1}") ≡ None
unfolding serde_json_on_literals is_utf8 chars encode_utf8
name_in-more = refl

-- A number is no name.
pub name_in-number : name_in (codes "{\"name\":1}") ≡ None
unfolding serde_json_on_literals is_utf8 chars encode_utf8
name_in-number = refl

-- ---- albums in bodies

-- A number chooses the album of that id.
pub album_in-id : album_in (codes "{\"album\":7}") ≡ Some (Some 7)
unfolding serde_json_on_literals is_utf8 chars encode_utf8
album_in-id = refl

-- Null chooses none.
pub album_in-null : album_in (codes "{\"album\":null}") ≡ Some None
unfolding serde_json_on_literals is_utf8 chars encode_utf8
album_in-null = refl

-- The last id can be chosen.
pub album_in-last : album_in (codes "{\"album\":2147483646}") ≡ Some (Some 2147483646)
unfolding serde_json_on_literals is_utf8 chars encode_utf8
album_in-last = refl

-- The number after it can't.
pub album_in-past_last : album_in (codes "{\"album\":2147483647}") ≡ None
unfolding serde_json_on_literals is_utf8 chars encode_utf8
album_in-past_last = refl

-- A number with a fraction is none, though the fraction is 0.
pub album_in-fraction : album_in (codes "{\"album\":1.0}") ≡ None
unfolding serde_json_on_literals is_utf8 chars encode_utf8
album_in-fraction = refl
