-- What parsing a text says of the number that it writes.
use Rattle.std.proofs.Common.{◌≡◌, ◌≢◌, ℕ, true, Option, List, Result, Ok, Err, IfSome, IfNone, get_or, sym, subst}
use Rattle.std.proofs.lemmas.Str.Parse.{IsNumeralModel, numerals_by_value, tells_all_ascii_digits, parse_plain}
use Rattle.std.specs.Result.{result_ok}
use Rattle.std.specs.Str.{all_ascii_digits}
use Rattle.std.specs.Str.Parse.{digits_value, ParsesUnsigned}
use Rattle.http_routes.specs.Ids.{WritesNumber}

-- std's words for digits
decimals : IsNumeralModel (λ ds. all_ascii_digits ds ≡ true) (digits_value 10)
decimals = numerals_by_value (λ ds. all_ascii_digits ds ≡ true) tells_all_ascii_digits

-- what is parsed, by its variant
parsed_as : {E : Type 0} (text : List ℕ) (r : Result ℕ E) → ParsesUnsigned 32 10 text r → get_or text 0 0 ≢ 43
    → IfSome (result_ok r) (λ number. WritesNumber text × (number ≡ digits_value 10 text)) × IfNone (result_ok r) (¬ WritesNumber text)
parsed_as {E = E} text (Ok number) parses unsigned = (parse_plain decimals {E = E} 32 text (Ok number) parses unsigned, tt)
parsed_as {E = E} text (Err e) parses unsigned = (tt, parse_plain decimals {E = E} 32 text (Err e) parses unsigned)

-- What is parsed of a text with no sign is the number that it writes, where it writes one.
pub parsed : {E : Type 0} (text : List ℕ) (r : Result ℕ E) (o : Option ℕ) → ParsesUnsigned 32 10 text r → get_or text 0 0 ≢ 43
    → o ≡ result_ok r
    → IfSome o (λ number. WritesNumber text × (number ≡ digits_value 10 text)) × IfNone o (¬ WritesNumber text)
parsed text r o parses unsigned is =
    subst (λ (o : Option ℕ). IfSome o (λ number. WritesNumber text × (number ≡ digits_value 10 text)) × IfNone o (¬ WritesNumber text))
    (sym is) (parsed_as text r parses unsigned)
