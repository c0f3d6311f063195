-- The bodies of requests that name something or choose an album (RFC 8259).
use Rattle.std.specs.Prelude.{◌&&◌, ℕ, Bool, true, false, List, codes, nat_le, nat_lt, Option, None, Some, option_map, option_and_then, if◌then◌else◌}
use Rattle.std.specs.Str.{is_utf8}
use Rattle.lib_base.specs.declared.limits.TheConstants.{NUMBERS_END}
use Rattle.serde_json.specs.Data.{Data, null, number, object, no_members, member}
use Rattle.serde_json.specs.Find.{get, as_str, as_u64}
use Rattle.serde_json.specs.Read.{read}
use Rattle.library_model.specs.Names.{is_name}

-- ---- what bodies say

-- the data of a body, where it is JSON in UTF-8; of two equal keys the last one's value counts
abbrev pub data_in : List ℕ → Option Data
data_in body = if is_utf8 body then read body else None

-- an object with one key
abbrev pub has_one_key : Data → Bool
has_one_key (object (member key value no_members)) = true
has_one_key _ = false

-- the value of a key in an object that has no other key
abbrev pub only : List ℕ → Data → Option Data
only key found = if has_one_key found then get key found else None

-- a text, where it is a name
abbrev pub if_name : List ℕ → Option (List ℕ)
if_name text = if is_name text then Some text else None

-- the name that a body gives: that of `{"name":".."}`
abbrev pub name_in : List ℕ → Option (List ℕ)
name_in body = option_and_then if_name (option_and_then as_str (option_and_then (only (codes "name")) (data_in body)))

-- a number, where an album may have it as its id
abbrev pub if_given : ℕ → Option ℕ
if_given n = if nat_le 1 n && nat_lt n NUMBERS_END then Some n else None

-- the album that is chosen by an id, or none that is chosen by null
abbrev pub chosen : Data → Option (Option ℕ)
chosen null = Some None
chosen (number n) = option_map Some (option_and_then if_given (as_u64 n))
chosen _ = None

-- the choice that a body makes: that of `{"album":n}` or of `{"album":null}`
abbrev pub album_in : List ℕ → Option (Option ℕ)
album_in body = option_and_then chosen (option_and_then (only (codes "album")) (data_in body))
