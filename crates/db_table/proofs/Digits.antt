-- Numbers padded with zeros are their last digits.
use Rattle.std.proofs.Common.{◌≡◌, ◌<◌, ◌≤◌, ◌+◌, ◌-◌, ◌/◌, ◌%◌, ◌^◌, ℕ, zero, suc, Bool, true, false, List, [], ◌∷◌, ◌++◌, length, replicate, refl, sym, ap, ◌∙◌, arith, inl, inr, ◌⊎◌, add-one, append_assoc, length-append}
use Rattle.std.specs.Fmt.{decimal, padded_integral, format_spec, char_count, styled_decimal}
use Rattle.std.proofs.lemmas.Bool.{cases_lt}
use Rattle.std.proofs.lemmas.Fmt.{decimal_digit, decimal_step_wide}
use Rattle.std.proofs.lemmas.List.{replicate_more, append-nil}
use Rattle.std.proofs.Math.Nat.{pow-succ'}
use Rattle.sound_model.specs.Texts.{last_digits, sign_text, decimal_text, peak_text, millionths}
use Rattle.std.specs.Int.{is_negative}
use Rattle.std.proofs.lemmas.Bool.Decides.{nat_tests}
use Rattle.std.specs.Prelude.{ℤ, pos, negsuc, unsigned_abs, codes}

-- the last digits of 0 are zeros
last_digits_of_0 : (k : ℕ) → last_digits k 0 ≡ replicate k 48
last_digits_of_0 zero = refl
last_digits_of_0 (suc k) = ap (λ ds. ds ++ 48 ∷ []) (last_digits_of_0 k) ∙ replicate_more k 48 ∙ ap (λ n. replicate n 48) (add-one k)

-- zeros before one digit
zeros_and_digit : (k n : ℕ) → n < 10 → replicate (suc k - length (decimal n)) 48 ++ decimal n ≡ last_digits (suc k) n
zeros_and_digit k n less =
    let front : n / 10 ≡ 0 = omega arith in
    let digit : n % 10 ≡ n = omega arith in
    let left : suc k - 1 ≡ k = omega arith in
    rw (decimal_digit n less, front, digit, last_digits_of_0 k) (ap (λ count. replicate count 48 ++ (48 + n) ∷ []) left)

-- zeros before the digits of a number are zeros before those of its front, and then the last digit
zeros_and_front : (k n : ℕ) → 10 ≤ n → n < 10 ^ 64 → replicate (k - length (decimal (n / 10))) 48 ++ decimal (n / 10) ≡ last_digits k (n / 10)
    → replicate (suc k - length (decimal n)) 48 ++ decimal n ≡ last_digits (suc k) n
zeros_and_front k n more small front =
    let step = decimal_step_wide n more small in
    let left : suc k - length (decimal n) ≡ k - length (decimal (n / 10)) =
    ap (λ ds. suc k - length ds) step ∙ (let whole = length-append (decimal (n / 10)) ((48 + n % 10) ∷ []) in omega (arith, whole)) in
    rw (left, step) (sym (append_assoc (replicate (k - length (decimal (n / 10))) 48) (decimal (n / 10)) ((48 + n % 10) ∷ [])) ∙ ap (λ ds. ds ++ (48 + n % 10) ∷ []) front)

-- zeros up to a width, and then the decimal digits
zeros-decimal : (k n : ℕ) → n < 10 ^ suc k → n < 10 ^ 64 → replicate (suc k - length (decimal n)) 48 ++ decimal n ≡ last_digits (suc k) n
zeros-decimal zero n below small = zeros_and_digit zero n below
zeros-decimal (suc k) n below small =
    let front : n / 10 < 10 ^ suc k = (let tens = pow-succ' 10 (suc k) in omega arith) in
    cases (zeros-decimal k (n / 10) front (omega arith)) (cases_lt n 10)
  where
    cases : replicate (suc k - length (decimal (n / 10))) 48 ++ decimal (n / 10) ≡ last_digits (suc k) (n / 10) → (n < 10) ⊎ (10 ≤ n)
        → replicate (suc (suc k) - length (decimal n)) 48 ++ decimal n ≡ last_digits (suc (suc k)) n
    cases front (inl less) = zeros_and_digit (suc k) n less
    cases front (inr more) = zeros_and_front (suc k) n more small front

-- what `{:0k}` writes
pub padded-decimal : (k n : ℕ) → n < 10 ^ suc k → n < 10 ^ 64
    → padded_integral (format_spec 32 0 4 (suc k) (2 ^ 64 - 1)) false [] (decimal n) ≡ last_digits (suc k) n
unfolding padded_integral char_count
padded-decimal k n below small =
    let padding : suc k - length (decimal n) - 0 - 0 ≡ suc k - length (decimal n) = omega arith in
    rw (append-nil, padding) (zeros-decimal k n below small)

-- the last digits of a number are those of what is left of it
pub two_digits : (n : ℕ) → last_digits 2 (n % 100) ≡ last_digits 2 n
two_digits n =
    let tens : n % 100 / 10 % 10 ≡ n / 10 % 10 = omega arith in
    let ones : n % 100 % 10 ≡ n % 10 = omega arith in
    rw (tens, ones)

pub six_digits : (n : ℕ) → last_digits 6 (n % 1000000) ≡ last_digits 6 n
six_digits n =
    let five : n % 1000000 / 10 / 10 / 10 / 10 / 10 % 10 ≡ n / 10 / 10 / 10 / 10 / 10 % 10 = omega arith in
    let four : n % 1000000 / 10 / 10 / 10 / 10 % 10 ≡ n / 10 / 10 / 10 / 10 % 10 = omega arith in
    let three : n % 1000000 / 10 / 10 / 10 % 10 ≡ n / 10 / 10 / 10 % 10 = omega arith in
    let two : n % 1000000 / 10 / 10 % 10 ≡ n / 10 / 10 % 10 = omega arith in
    let one : n % 1000000 / 10 % 10 ≡ n / 10 % 10 = omega arith in
    let none : n % 1000000 % 10 ≡ n % 10 = omega arith in
    rw (five, four, three, two, one, none)

-- the sign of a number that was found negative, and of one that was found not to be
pub sign_of_negative : (value : ℤ) (answer : Bool) → answer ≡ is_negative value → answer ≡ true → codes "-" ≡ sign_text value
sign_of_negative (pos n) answer is told = absurd (grind (arith, nat_tests))
sign_of_negative (negsuc n) answer is told = refl

pub sign_of_other : (value : ℤ) (answer : Bool) → answer ≡ is_negative value → answer ≡ false → [] ≡ sign_text value
sign_of_other (pos n) answer is told = refl
sign_of_other (negsuc n) answer is told = absurd cc

-- the pieces that the program writes of hundredths
pub decimal_from_pieces : (value : ℤ) (sign : List ℕ) (size : ℕ) → sign ≡ sign_text value → size ≡ unsigned_abs value
    → sign ++ (decimal (size / 100) ++ 46 ∷ styled_decimal (format_spec 32 0 4 2 (2 ^ 64 - 1)) (size % 100)) ≡ decimal_text value
decimal_from_pieces value sign size is_sign is_size =
    let digits = padded-decimal 1 (size % 100) (omega arith) (omega arith) ∙ two_digits size in
    rw (digits, is_sign, is_size) (simp append_assoc)

-- the pieces that the program writes of a peak
pub peak_from_pieces : (peak parts : ℕ) → parts ≡ millionths peak
    → decimal (parts / 1000000) ++ 46 ∷ styled_decimal (format_spec 32 0 4 6 (2 ^ 64 - 1)) (parts % 1000000) ≡ peak_text peak
peak_from_pieces peak parts is_parts =
    let digits = padded-decimal 5 (parts % 1000000) (omega arith) (omega arith) ∙ six_digits parts in
    rw (digits, is_parts) (simp append_assoc)
