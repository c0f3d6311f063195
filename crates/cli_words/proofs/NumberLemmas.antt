-- What parsing a text says of the number that `u32` reads from it.
use Rattle.std.proofs.Common.{◌≡◌, ◌<◌, ◌^◌, ◌&&◌, ℕ, Bool, true, false, Option, None, Some, List, length, Result, Ok, Err, refl, sym, subst, ap, ◌∙◌, rules, arith, if◌then◌else◌}
use Rattle.std.proofs.lemmas.Str.Parse.{IsNumeralModel, numerals_by_value, tells_all_ascii_digits}
use Rattle.std.specs.Result.{result_ok}
use Rattle.std.specs.Str.{all_ascii_digits}
use Rattle.std.specs.Str.Parse.{IsNumeral, digits_value, ParsesUnsigned, without_leading_plus}
use Rattle.cli_words.specs.Numbers.{is_number, number_read}

-- std's words for digits
decimals : IsNumeralModel (λ ds. all_ascii_digits ds ≡ true) (digits_value 10)
decimals = numerals_by_value (λ ds. all_ascii_digits ds ≡ true) tells_all_ascii_digits

-- digits of a number of 32 bits are told as such
told : (digits : List ℕ) → IsNumeral 10 digits × (digits_value 10 digits < 2 ^ 32) → is_number digits ≡ true
told digits numeral =
    let all : all_ascii_digits digits ≡ true = decimals.from digits numeral.0.1 in
    let some = numeral.0.0 in
    let less = numeral.1 in
    search rules

-- and what is told as such is
numeral : (digits : List ℕ) → is_number digits ≡ true → IsNumeral 10 digits × (digits_value 10 digits < 2 ^ 32)
numeral digits is =
    let all : all_ascii_digits digits ≡ true = search rules in
    let some : 0 < length digits = search rules in
    let less : digits_value 10 digits < 2 ^ 32 = search rules in
    ((some, decimals.to digits all), less)

-- what is not told has no number
unread : (digits : List ℕ) (b : Bool) → is_number digits ≡ b → ¬ (IsNumeral 10 digits × (digits_value 10 digits < 2 ^ 32))
    → None ≡ (if b then Some (digits_value 10 digits) else None)
unread digits true is none = absurd (none (numeral digits is))
unread digits false is none = refl

-- what is parsed, by its variant
parsed_as : {E : Type 0} (text : List ℕ) (r : Result ℕ E) → ParsesUnsigned 32 10 text r → result_ok r ≡ number_read text
parsed_as text (Ok number) parses =
    let digits = without_leading_plus text in
    ap Some parses.1 ∙ ap (λ (b : Bool). if b then Some (digits_value 10 digits) else None) (sym (told digits parses.0))
parsed_as text (Err e) parses = unread (without_leading_plus text) _ refl parses

-- What is parsed of a text is the number that `u32` reads from it.
pub parsed : {E : Type 0} (text : List ℕ) (r : Result ℕ E) (o : Option ℕ) → ParsesUnsigned 32 10 text r → o ≡ result_ok r
    → o ≡ number_read text
parsed text r o parses is = is ∙ parsed_as text r parses
