-- What is no UTF-8 is no token.
use Rattle.std.proofs.Common.{◌≡◌, ◌<◌, ℕ, zero, suc, Bool, true, false, ◌&&◌, List, [], ◌∷◌, refl, arith}
use Rattle.std.specs.Prelude.{IsUtf8, length, nat_le}
use Rattle.std.specs.List.{list_all}
use Rattle.std.specs.Str.{IsAscii}
use Rattle.std.proofs.lemmas.Bool.Decides.{nat_tests}
use Rattle.std.proofs.lemmas.Str.{IsUtf8-from_ascii}
use Rattle.library_model.specs.declared.limits.TheConstants.{MOST_TOKEN_BYTES}
use Rattle.library_model.specs.Names.{is_token, is_token_byte}

-- both of two tests pass
both : (a b : Bool) → (a && b) ≡ true → (a ≡ true) × (b ≡ true)
both true b is = (refl, is)
both false b is = absurd (cc is)

-- A byte of a token is ASCII.
below : (byte : ℕ) → is_token_byte byte ≡ true → byte < 128
below byte is = grind (arith, nat_tests, is)

-- So are the bytes of a token.
bytes-IsAscii : (text : List ℕ) → list_all is_token_byte text ≡ true → IsAscii text
bytes-IsAscii [] is i = omega arith
bytes-IsAscii (c ∷ cs) is zero = below c (both (is_token_byte c) (list_all is_token_byte cs) is).0
bytes-IsAscii (c ∷ cs) is (suc i) = bytes-IsAscii cs (both (is_token_byte c) (list_all is_token_byte cs) is).1 i

-- A token is UTF-8.
token-IsUtf8 : (text : List ℕ) → is_token text ≡ true → IsUtf8 text
token-IsUtf8 text is =
    IsUtf8-from_ascii text (bytes-IsAscii text
    (both (nat_le 1 (length text) && nat_le (length text) MOST_TOKEN_BYTES) (list_all is_token_byte text) is).1)

by_test : (text : List ℕ) (test : Bool) → is_token text ≡ test → ¬ (IsUtf8 text) → test ≡ false
by_test text true is other = absurd (other (token-IsUtf8 text is))
by_test text false is other = refl

-- What is no UTF-8 is no token.
pub is_token-other : (text : List ℕ) → ¬ (IsUtf8 text) → is_token text ≡ false
is_token-other text other = by_test text (is_token text) refl other
