-- What is no UTF-8 is no name, and a token is found where one is given.
use Rattle.std.proofs.Common.{◌≡◌, ℕ, Bool, true, false, ◌&&◌, List, Option, None, Some, if◌then◌else◌, option_map, refl, ap}
use Rattle.std.specs.Prelude.{IsUtf8, length, nat_le}
use Rattle.std.specs.List.{list_all}
use Rattle.std.specs.Str.{is_utf8}
use Rattle.std.proofs.lemmas.Str.{IsUtf8-from_is_utf8}
use Rattle.library_model.specs.declared.limits.TheConstants.{MOST_NAME_BYTES}
use Rattle.library_model.specs.Named.{if_name}
use Rattle.library_model.specs.Names.{is_name, is_shown}
use Rattle.kept_replies.specs.Tokens.{TokenAs, text_of}
use Rattle.kept_replies.specs.declared.tokens.Token.{Token}
use Rattle.http_model.specs.Asking.{if_token}

-- both of two tests pass
both : (a b : Bool) → (a && b) ≡ true → (a ≡ true) × (b ≡ true)
both true b is = (refl, is)
both false b is = absurd (cc is)

name_by_test : (text : List ℕ) (test : Bool) → is_name text ≡ test → ¬ (IsUtf8 text) → (if test then Some text else None) ≡ None
name_by_test text true is other = absurd (other (IsUtf8-from_is_utf8 text (both (is_utf8 text) (nat_le (length text) MOST_NAME_BYTES && list_all is_shown text) is).0))
name_by_test text false is other = refl

-- What is no UTF-8 is no name.
pub if_name-other : (text : List ℕ) → ¬ (IsUtf8 text) → if_name text ≡ None
if_name-other text other = name_by_test text (is_name text) refl other

-- The token of bytes is what they give as one.
pub if_token-of : (text : List ℕ) (found : Option Token) → TokenAs text found → option_map text_of found ≡ if_token text
if_token-of text None not_one = rw not_one refl
if_token-of text (Some token) is = rw is.0 (ap Some is.1)
