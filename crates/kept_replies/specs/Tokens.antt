-- Tokens.
use Rattle.std.specs.Prelude.{◌≡◌, ℕ, true, false, List, Option, None, Some}
use Rattle.library_model.specs.Names.{is_token}
use Rattle.kept_replies.specs.declared.tokens.Token.{Token}

-- the text of a token
abbrev pub text_of : Token → List ℕ
text_of token = token.text

-- the token of these bytes, or none exactly where they are no token
abbrev pub TokenAs : List ℕ → Option Token → Type 0
TokenAs bytes None = is_token bytes ≡ false
TokenAs bytes (Some token) = (is_token bytes ≡ true) × (text_of token ≡ bytes)
