-- Lemmas on what a reader does at one place.
use Rattle.std.proofs.Common.{◌≡◌, ◌≤◌, ◌<◌, ◌+◌, ◌-◌, ◌*◌, ◌/◌, ◌%◌, ◌^◌, ℕ, suc, min, Bool, true, false, eqb, List, [], ◌∷◌, ◌++◌, length, take, drop, get_or, Result, Ok, Err, length-drop, refl, sym, ap, ◌∙◌, subst, inl, inr, ◌⊎◌, arith}
use Rattle.std.specs.Int.{w64, leading_zeros}
use Rattle.std.proofs.lemmas.Bool.{cases_lt, eq-eqb}
use Rattle.std.proofs.lemmas.List.{drop-drop, drop-append-le, drop_all, drop_at, drop_more, length-take-le}
use Rattle.std.proofs.lemmas.Nat.{pow_pos, pow-add, shr-shr, shr_below, mul-le}
use Rattle.std.specs.Int.{from_bool}
use Rattle.std.specs.Prelude.{if◌then◌else◌}
use Rattle.std.proofs.Math.Nat.{pow-le-pow_right, pos_of_ne-zero, pow-succ'}
use Rattle.file_model.specs.declared.bits.BitFault.{BitFault}
use Rattle.file_model.specs.declared.bits.BitFault.TheVariants.{Cut, BadNumber}
use Rattle.file_model.specs.Bits.{bits_in, bits, number}
use Rattle.file_model.specs.Fields.{field, unary_at, rice_at, held, coded_more, align_at}
use Rattle.file_model.specs.Outcomes.{◌>>=◌}
use Rattle.file_model.proofs.BitsLemmas.{number-below, bits-cons, bits_in-add, length-bits_in, length-bits, bits-drop}
use Rattle.file_model.proofs.FieldsLemmas.{behind, field_whole, field_more, field_parts, field_below, rice_from, held_under}
use Rattle.bit_codec.specs.declared.reader.BitReader.{BitReader}
use Rattle.bit_codec.specs.Reader.{source, place, left}
use Rattle.bit_codec.specs.Windows.{IsWindow, held_behind, rice_by_parts}
use Rattle.bit_codec.proofs.WindowsLemmas.{window_zeros, window_one, window_has, window_below, window_enough, window_take, window_rice}

pub left_length : (bytes : List ℕ) (place : ℕ) → length (drop place (bits bytes)) ≡ 8 * length bytes - place
left_length bytes place = length-drop place (bits bytes) ∙ ap (λ (n : ℕ). n - place) (length-bits bytes)

pub left_at : (bytes : List ℕ) (byte : ℕ) → byte ≤ length bytes → drop (8 * byte + 0) (bits bytes) ≡ bits (drop byte bytes)
left_at bytes byte within =
    ap (λ (k : ℕ). drop k (bits bytes)) (let same : 8 * byte + 0 ≡ 8 * byte = omega arith in same) ∙ bits-drop byte bytes within

pub left_whole : (bytes : List ℕ) (byte bit : ℕ) → bit < 8 → 8 * byte + bit ≤ 8 * length bytes → (8 * byte + bit) % 8 ≡ 0
    → drop (8 * byte + bit) (bits bytes) ≡ bits (drop byte bytes)
left_whole bytes byte bit in_byte within whole =
    ap (λ (k : ℕ). drop k (bits bytes)) (let same : 8 * byte + bit ≡ 8 * byte = omega arith in same) ∙ bits-drop byte bytes (omega arith)

-- a place in the bits after so many more
pub left_past : (bits : List Bool) (byte bit count : ℕ) → bit < 8
    → drop (8 * (byte + (bit + count) / 8) + (bit + count) % 8) bits ≡ drop count (drop (8 * byte + bit) bits)
left_past bits byte bit count in_byte =
    ap (λ (k : ℕ). drop k bits) (let same : 8 * (byte + (bit + count) / 8) + (bit + count) % 8 ≡ 8 * byte + bit + count = omega arith in same)
    ∙ sym (drop-drop count (8 * byte + bit) bits)

pub past_within : (bytes : List ℕ) (byte bit count : ℕ) → 8 * byte + bit ≤ 8 * length bytes → count ≤ length (drop (8 * byte + bit) (bits bytes))
    → 8 * (byte + (bit + count) / 8) + (bit + count) % 8 ≤ 8 * length bytes
past_within bytes byte bit count within there = let size = left_length bytes (8 * byte + bit) in omega arith

pub one_there : (bytes : List ℕ) (byte bit : ℕ) → byte < length bytes → bit < 8 → 1 ≤ length (drop (8 * byte + bit) (bits bytes))
one_there bytes byte bit within in_byte = let size = left_length bytes (8 * byte + bit) in omega arith

-- the bits of a byte from one on
bits_from : (byte bit : ℕ) → bit < 8 → drop bit (bits_in 8 byte) ≡ eqb (byte / 2 ^ (7 - bit) % 2) 1 ∷ bits_in (7 - bit) byte
unfolding bits_in
bits_from byte bit within =
    let whole : 8 ≡ bit + (8 - bit) = omega arith in
    let one : 8 - bit ≡ suc (7 - bit) = omega arith in
    ap (λ (k : ℕ). drop bit (bits_in k byte)) whole ∙ ap (drop bit) (bits_in-add bit (8 - bit) byte)
    ∙ drop_at (bits_in bit (byte / 2 ^ (8 - bit))) (bits_in (8 - bit) byte) bit (length-bits_in bit (byte / 2 ^ (8 - bit)))
    ∙ ap (λ (k : ℕ). bits_in k byte) one

same_tail : (bit : Bool) (xs ys : List Bool) → xs ≡ bit ∷ ys → xs ≡ bit ∷ drop 1 xs
same_tail bit xs ys is = is ∙ ap (λ (zs : List Bool). bit ∷ drop 1 zs) (sym is)

pub with_tail : (bit : Bool) (xs ys zs : List Bool) → xs ≡ bit ∷ ys → zs ≡ ys → xs ≡ bit ∷ zs
with_tail bit xs ys zs is same = is ∙ ap (λ (tail : List Bool). bit ∷ tail) (sym same)

-- the next bit of bytes
pub left_bit : (bytes : List ℕ) (byte bit : ℕ) → byte < length bytes → bit < 8
    → drop (8 * byte + bit) (bits bytes) ≡ eqb (get_or bytes byte 0 / 2 ^ (7 - bit) % 2) 1 ∷ drop 1 (drop (8 * byte + bit) (bits bytes))
left_bit bytes byte bit within in_byte =
    let first = get_or bytes byte 0 in
    let more = drop (byte + 1) bytes in
    let size : bit ≤ length (bits_in 8 first) = (let all = length-bits_in 8 first in omega arith) in
    same_tail (eqb (first / 2 ^ (7 - bit) % 2) 1) (drop (8 * byte + bit) (bits bytes)) (bits_in (7 - bit) first ++ bits more)
    (sym (drop-drop bit (8 * byte) (bits bytes)) ∙ ap (drop bit) (bits-drop byte bytes (omega arith) ∙ ap bits (drop_more bytes byte 0 within) ∙ bits-cons first more)
    ∙ drop-append-le bit (bits_in 8 first) (bits more) size ∙ ap (λ (xs : List Bool). xs ++ bits more) (bits_from first bit in_byte))

pub left_none : (bytes : List ℕ) (byte bit : ℕ) → length bytes ≤ byte → drop (8 * byte + bit) (bits bytes) ≡ []
left_none bytes byte bit past = drop_all (8 * byte + bit) (bits bytes) (let size = length-bits bytes in omega arith)

-- ---- a unary count, of which so many zeros were read

pub held_from_none : (read : Result (ℕ × List Bool) BitFault) → held_behind 0 read ≡ held read
held_from_none (Ok (count, rest)) = ap (λ (n : ℕ). Ok (min n (2 ^ 64 - 1), rest)) (let same : 0 + count ≡ count = omega arith in same)
held_from_none (Err fault) = refl

held_behind_behind : (passed more : ℕ) (read : Result (ℕ × List Bool) BitFault)
    → held_behind passed (behind more read) ≡ held_behind (min (passed + more) (2 ^ 64 - 1)) read
held_behind_behind passed more (Ok (count, rest)) =
    ap (λ (n : ℕ). Ok (n, rest)) (let same : min (passed + (more + count)) (2 ^ 64 - 1) ≡ min (min (passed + more) (2 ^ 64 - 1) + count) (2 ^ 64 - 1) = omega arith in same)
held_behind_behind passed more (Err fault) = refl

pub unary_on_one : (count : ℕ) (left rest : List Bool) → left ≡ true ∷ rest → count < 2 ^ 64 → held_behind count (unary_at left) ≡ Ok (count, rest)
unfolding unary_at
unary_on_one count left rest is small =
    ap (λ (xs : List Bool). held_behind count (unary_at xs)) is ∙ ap (λ (n : ℕ). Ok (n, rest)) (let same : min (count + 0) (2 ^ 64 - 1) ≡ count = omega arith in same)

pub unary_on_zero : (count : ℕ) (left rest : List Bool) → left ≡ false ∷ rest
    → held_behind count (unary_at left) ≡ held_behind (min (count + 1) (2 ^ 64 - 1)) (unary_at rest)
unfolding unary_at
unary_on_zero count left rest is = ap (λ (xs : List Bool). held_behind count (unary_at xs)) is ∙ one_more count (unary_at rest)
  where
    one_more : (count : ℕ) (read : Result (ℕ × List Bool) BitFault)
        → held_behind count (read >>= λ more. Ok (suc more.0, more.1)) ≡ held_behind (min (count + 1) (2 ^ 64 - 1)) read
    one_more count (Ok (more, rest)) =
        ap (λ (n : ℕ). Ok (n, rest)) (let same : min (count + suc more) (2 ^ 64 - 1) ≡ min (min (count + 1) (2 ^ 64 - 1) + more) (2 ^ 64 - 1) = omega arith in same)
    one_more count (Err fault) = refl

pub unary_on_none : (count : ℕ) (left : List Bool) → left ≡ [] → held_behind count (unary_at left) ≡ Err Cut
unfolding unary_at
unary_on_none count left is = ap (λ (xs : List Bool). held_behind count (unary_at xs)) is

pub unary_past_window : (passed fewer : ℕ) (left : List Bool) → IsWindow left fewer 0
    → held_behind passed (unary_at left) ≡ held_behind (min (passed + (64 - fewer)) (2 ^ 64 - 1)) (unary_at (drop (64 - fewer) left))
unary_past_window passed fewer left is =
    ap (held_behind passed) (window_zeros left fewer is) ∙ held_behind_behind passed (64 - fewer) (unary_at (drop (64 - fewer) left))

pub unary_in_window : (passed fewer window more : ℕ) (left : List Bool) → IsWindow left fewer window → 0 < window → window < 2 ^ 64 → more ≡ leading_zeros w64 window
    → held_behind passed (unary_at left) ≡ Ok (min (passed + more) (2 ^ 64 - 1), drop (more + 1) left)
unary_in_window passed fewer window more left is some below count =
    ap (held_behind passed) (window_one left fewer window more is below count (window_has left fewer window more is some below count))
    ∙ ap (λ (k : ℕ). Ok (min (passed + more) (2 ^ 64 - 1), drop k left)) (let same : suc more ≡ more + 1 = omega arith in same)

-- ---- a Rice value by its parts

-- a product of a held number, held
held_product : (quotient power low : ℕ) → 0 < power → min (min quotient (2 ^ 64 - 1) * power + low) (2 ^ 64 - 1) ≡ min (quotient * power + low) (2 ^ 64 - 1)
held_product quotient power low above = cases (cases_lt quotient (2 ^ 64))
  where
    cases : (quotient < 2 ^ 64) ⊎ (2 ^ 64 ≤ quotient) → min (min quotient (2 ^ 64 - 1) * power + low) (2 ^ 64 - 1) ≡ min (quotient * power + low) (2 ^ 64 - 1)
    cases (inl less) = ap (λ (n : ℕ). min (n * power + low) (2 ^ 64 - 1)) (let same : min quotient (2 ^ 64 - 1) ≡ quotient = omega arith in same)
    cases (inr more) =
        let limit : min quotient (2 ^ 64 - 1) ≡ 2 ^ 64 - 1 = omega arith in
        let one : (2 ^ 64 - 1) * 1 ≤ (2 ^ 64 - 1) * power = mul-le (2 ^ 64 - 1) 1 (2 ^ 64 - 1) power (omega arith) above in
        let other : (2 ^ 64 - 1) * 1 ≤ quotient * power = mul-le (2 ^ 64 - 1) 1 quotient power (omega arith) above in
        ap (λ (n : ℕ). min (n * power + low) (2 ^ 64 - 1)) limit ∙ (let both : min ((2 ^ 64 - 1) * power + low) (2 ^ 64 - 1) ≡ min (quotient * power + low) (2 ^ 64 - 1) = omega arith in both)

pub rice_by_parts_is : (count : ℕ) (bits : List Bool) → rice_by_parts count bits ≡ held (rice_at count bits)
unfolding rice_at rice_by_parts
rice_by_parts_is count bits = behind_quotient count (unary_at bits)
  where
    behind_low : (count quotient : ℕ) (read : Result (ℕ × List Bool) BitFault)
        → (read >>= λ low. Ok (min (min quotient (2 ^ 64 - 1) * 2 ^ count + low.0) (2 ^ 64 - 1), low.1)) ≡ held (read >>= λ low. Ok (quotient * 2 ^ count + low.0, low.1))
    behind_low count quotient (Ok (low, rest)) = ap (λ (n : ℕ). Ok (n, rest)) (held_product quotient (2 ^ count) low (pow_pos count))
    behind_low count quotient (Err fault) = refl

    behind_quotient : (count : ℕ) (read : Result (ℕ × List Bool) BitFault)
        → (held read >>= λ quotient. field count quotient.1 >>= λ low. Ok (min (quotient.0 * 2 ^ count + low.0) (2 ^ 64 - 1), low.1))
        ≡ held (read >>= λ quotient. field count quotient.1 >>= λ low. Ok (quotient.0 * 2 ^ count + low.0, low.1))
    behind_quotient count (Ok (quotient, rest)) = behind_low count quotient (field count rest)
    behind_quotient count (Err fault) = refl

-- ---- numbers

pub two_shifts : (window count : ℕ) → count < 64 → window / 2 ^ 1 / 2 ^ (63 - count) ≡ window / 2 ^ (64 - count)
two_shifts window count within =
    shr-shr window 1 (63 - count) ∙ ap (λ (k : ℕ). window / 2 ^ k) (let same : 1 + (63 - count) ≡ 64 - count = omega arith in same)

-- a quotient that has room above the low bits
pub joined_below : (quotient low rest : ℕ) → low ≤ 30 → rest < 2 ^ low → quotient ≤ 18446744073709551615 / 2 ^ low → quotient * 2 ^ low + rest < 2 ^ 64
joined_below quotient low rest few small room =
    let size : 64 ≡ 64 - low + low = omega arith in
    let limit : 18446744073709551615 < 2 ^ (64 - low + low) = (let P : ℕ → Type 0 = λ k. 18446744073709551615 < 2 ^ k in subst P size (omega arith)) in
    let below : 18446744073709551615 / 2 ^ low < 2 ^ (64 - low) = shr_below 18446744073709551615 (64 - low) low limit in
    let product : suc quotient * 2 ^ low ≤ 2 ^ (64 - low) * 2 ^ low = mul-le (suc quotient) (2 ^ low) (2 ^ (64 - low)) (2 ^ low) (omega arith) (omega arith) in
    let power : 2 ^ 64 ≡ 2 ^ (64 - low) * 2 ^ low = ap (λ (k : ℕ). 2 ^ k) size ∙ pow-add 2 (64 - low) low in
    omega arith

pub rice_below : (quotient low field : ℕ) → quotient < 64 → low ≤ 30 → field < 2 * 2 ^ low → quotient * 2 ^ low + field < 2 ^ 40
rice_below quotient low field less few small =
    let power : 2 ^ low ≤ 2 ^ 30 = pow-le-pow_right (omega arith) few in
    let product : quotient * 2 ^ low ≤ 64 * 2 ^ 30 = mul-le quotient (2 ^ low) 64 (2 ^ 30) (omega arith) power in
    omega arith

-- where a reader stands, and what is left
pub stands : (reader : BitReader) → place reader + length (left reader) ≡ 8 * length (source reader)
unfolding source place left
stands reader =
    let size = left_length reader.bytes.now (8 * reader.byte + reader.bit) in
    let within : 8 * reader.byte + reader.bit ≤ 8 * length reader.bytes.now = reader.in_bytes in
    omega arith

-- ---- what the calls answer

pub take_in_window : (left rest : List Bool) (fewer window count value : ℕ) → IsWindow left fewer window → count ≤ 32 → value ≡ window / 2 ^ (64 - count) → rest ≡ drop count left
    → field count left ≡ Ok (value, rest)
take_in_window left rest fewer window count value is within spelled behind_it =
    let few = is.few in
    let fits : count + fewer ≤ 64 = omega arith in
    field_whole count left (window_enough left fewer window count is fits)
    ∙ ap (λ (n : ℕ). Ok (n, drop count left)) (sym (spelled ∙ window_take left fewer window count is fits))
    ∙ ap (λ (xs : List Bool). Ok (value, xs)) (sym behind_it)

pub field_fits : (left rest : List Bool) (count value : ℕ) → field count left ≡ Ok (value, rest) → count ≤ 32 → value < 2 ^ 32
field_fits left rest count value is within =
    let below = field_below count value left rest is in
    let power : 2 ^ count ≤ 2 ^ 32 = pow-le-pow_right (omega arith) within in
    omega arith

pub field_fits_again : (left rest : List Bool) (count value : ℕ) → field count left ≡ Ok (value, rest) → count < 32 → value * 2 + 1 < 2 ^ 32
field_fits_again left rest count value is within =
    let below = field_below count value left rest is in
    let few : count ≤ 31 = omega arith in
    let power : 2 ^ count ≤ 2 ^ 31 = pow-le-pow_right (omega arith) few in
    omega arith

pub bit_number : (bit : Bool) → from_bool bit ≡ (if bit then 1 else 0)
bit_number true = refl
bit_number false = refl

pub bit_below : (bit : Bool) → from_bool bit ≤ 1
bit_below true = omega arith
bit_below false = omega arith

pub field_step : (count value bit_value : ℕ) (bits left rest : List Bool) (bit : Bool) → field count bits ≡ Ok (value, left) → left ≡ bit ∷ rest → bit_value ≡ from_bool bit
    → field (count + 1) bits ≡ Ok (value * 2 + bit_value, rest)
field_step count value bit_value bits left rest bit is next spelled =
    field_more count value bits rest bit (is ∙ ap (λ (xs : List Bool). Ok (value, xs)) next)
    ∙ ap (λ (n : ℕ). Ok (value * 2 + n, rest)) (sym (spelled ∙ bit_number bit))

pub pass_step : (passed fewer window added total : ℕ) (left rest : List Bool) (whole : Result (ℕ × List Bool) BitFault) → window ≡ 0 → IsWindow left fewer window
    → added ≡ 64 - fewer → total ≡ min (passed + added) (2 ^ 64 - 1) → rest ≡ drop (64 - fewer) left
    → held_behind passed (unary_at left) ≡ whole → held_behind total (unary_at rest) ≡ whole
pass_step passed fewer window added total left rest whole none is more sum behind_it goes =
    let is_none : IsWindow left fewer 0 = subst (IsWindow left fewer) none is in
    ap (λ (n : ℕ). held_behind n (unary_at rest)) (sum ∙ ap (λ (k : ℕ). min (passed + k) (2 ^ 64 - 1)) more)
    ∙ ap (λ (xs : List Bool). held_behind (min (passed + (64 - fewer)) (2 ^ 64 - 1)) (unary_at xs)) behind_it
    ∙ sym (unary_past_window passed fewer left is_none) ∙ goes

pub zeros_there : (left : List Bool) (fewer window : ℕ) → IsWindow left fewer window → (window ≡ 0 → ⊥) → leading_zeros w64 window + 1 ≤ length left
zeros_there left fewer window is some =
    let below = window_below left fewer window is in
    let above : 0 < window = pos_of_ne-zero some in
    let fits = window_has left fewer window (leading_zeros w64 window) is above below refl in
    window_enough left fewer window (leading_zeros w64 window + 1) is (omega arith)

pub unary_answer : (passed fewer window more added total : ℕ) (left rest : List Bool) → IsWindow left fewer window → (window ≡ 0 → ⊥) → more ≡ leading_zeros w64 window
    → added ≡ more → total ≡ min (passed + added) (2 ^ 64 - 1) → rest ≡ drop (more + 1) left → held_behind passed (unary_at left) ≡ Ok (total, rest)
unary_answer passed fewer window more added total left rest is some count same sum behind_it =
    unary_in_window passed fewer window more left is (pos_of_ne-zero some) (window_below left fewer window is) count
    ∙ ap (λ (n : ℕ). Ok (n, drop (more + 1) left)) (sym (sum ∙ ap (λ (k : ℕ). min (passed + k) (2 ^ 64 - 1)) same))
    ∙ ap (λ (xs : List Bool). Ok (total, xs)) (sym behind_it)

-- the one and the low bits of a Rice value
pub record HasLowBits (left : List Bool) (zeros low field : ℕ) : Type 0 where
  pub value : field ≡ 2 ^ low + number (take low (drop (suc zeros) left))
  pub one : 2 ^ low ≤ field
  pub no_more : field < 2 * 2 ^ low
  pub there : low ≤ length (drop (suc zeros) left)

pub low_bits : (left : List Bool) (fewer window zeros low : ℕ) → IsWindow left fewer window → zeros ≡ leading_zeros w64 window → zeros + 1 + low + fewer ≤ 64
    → HasLowBits left zeros low (window / 2 ^ (63 - zeros - low))
low_bits left fewer window passed low is count fits =
    let value = window_rice left fewer window passed low is (window_below left fewer window is) count fits in
    let whole = window_enough left fewer window (suc passed + low) is (omega arith) in
    let rest = length-drop (suc passed) left in
    let there : low ≤ length (drop (suc passed) left) = omega arith in
    let size : length (take low (drop (suc passed) left)) ≡ low = length-take-le low (drop (suc passed) left) there in
    let below : number (take low (drop (suc passed) left)) < 2 ^ low =
    (let P : ℕ → Type 0 = λ k. number (take low (drop (suc passed) left)) < 2 ^ k in subst P size (number-below (take low (drop (suc passed) left)))) in
    record { value = value; one = omega arith; no_more = omega arith; there = there }

pub rice_answer : (left rest : List Bool) (fewer window zeros low value : ℕ) → IsWindow left fewer window → zeros ≡ leading_zeros w64 window → zeros + 1 + low + fewer ≤ 64 → low ≤ 30
    → value ≡ zeros * 2 ^ low + (window / 2 ^ (63 - zeros - low) - 2 ^ low) → rest ≡ drop (zeros + 1 + low) left
    → held (rice_at low left) ≡ Ok (value, rest)
rice_answer left rest fewer window passed low value is count fits few spelled behind_it =
    let has = low_bits left fewer window passed low is count fits in
    let field_value = has.value in
    let one = has.one in
    let no_more = has.no_more in
    let below = rice_below passed low (window / 2 ^ (63 - passed - low)) (omega arith) few no_more in
    let same : value ≡ passed * 2 ^ low + number (take low (drop (suc passed) left)) = omega arith in
    let front : suc passed + low ≡ passed + 1 + low = omega arith in
    let end : drop low (drop (suc passed) left) ≡ rest = drop-drop low (suc passed) left ∙ ap (λ (k : ℕ). drop k left) front ∙ sym behind_it in
    held_under value rest (rice_at low left)
    (rice_from low passed left (drop (suc passed) left) (window_one left fewer window passed is (window_below left fewer window is) count (omega arith)) has.there
    ∙ ap (λ (n : ℕ). Ok (n, drop low (drop (suc passed) left))) (sym same) ∙ ap (λ (xs : List Bool). Ok (value, xs)) end)
    (omega arith)

-- ---- coded numbers

pub coded_step : (more count value next : ℕ) (left rest : List Bool) → more ≡ suc count → field 8 left ≡ Ok (next, rest) → next / 64 ≡ 2
    → coded_more more value left ≡ coded_more count (value * 64 + next % 64) rest
unfolding coded_more
coded_step more count value next left rest is_more is is_next =
    let goes_on : ℕ × List Bool → Result (ℕ × List Bool) BitFault = λ n. if eqb (n.0 / 64) 2 then coded_more count (value * 64 + n.0 % 64) n.1 else Err BadNumber in
    ap (λ (k : ℕ). coded_more k value left) is_more
    ∙ ap (λ (read : Result (ℕ × List Bool) BitFault). read >>= goes_on) is
    ∙ ap (λ (b : Bool). if b then coded_more count (value * 64 + next % 64) rest else Err BadNumber) (eq-eqb (next / 64) 2 is_next)

pub coded_fits : (counter value : ℕ) → counter < 6 → value < 128 * 64 ^ counter → value * 64 < 2 ^ 43
coded_fits counter value few small =
    let at_most : counter ≤ 5 = omega arith in
    let power : 64 ^ counter ≤ 64 ^ 5 = pow-le-pow_right (omega arith) at_most in
    omega arith

pub coded_small : (counter value low : ℕ) → value < 128 * 64 ^ counter → low < 64 → value * 64 + low < 128 * 64 ^ (counter + 1)
coded_small counter value low small below =
    let power : 64 ^ (counter + 1) ≡ 64 * 64 ^ counter = ap (λ (k : ℕ). 64 ^ k) (let same : counter + 1 ≡ suc counter = omega arith in same) ∙ pow-succ' 64 counter in
    omega arith

-- ---- up to a whole byte

pub padding_is : (reader : BitReader) → (8 - reader.bit) % 8 ≡ length (left reader) % 8
unfolding source place left
padding_is reader =
    let size = left_length reader.bytes.now (8 * reader.byte + reader.bit) in
    let within : 8 * reader.byte + reader.bit ≤ 8 * length reader.bytes.now = reader.in_bytes in
    let in_byte : reader.bit < 8 = reader.in_byte in
    omega arith

pub align_answer : (left rest : List Bool) (padding passed : ℕ) → padding ≡ length left % 8 → field padding left ≡ Ok (passed, rest) → (eqb passed 0, rest) ≡ align_at left
unfolding align_at
align_answer left rest padding passed is_padding is =
    let parts = field_parts padding passed left rest is in
    ap (λ (n : ℕ). (eqb n 0, rest)) (sym parts.1) ∙ ap (λ (xs : List Bool). (eqb (number (take padding left)) 0, xs)) (sym parts.2)
    ∙ ap (λ (k : ℕ). (eqb (number (take k left)) 0, drop k left)) is_padding

pub align_place : (left rest : List Bool) (padding passed place size : ℕ) → padding ≡ length left % 8 → field padding left ≡ Ok (passed, rest) → place + length rest ≡ 8 * size
    → place % 8 ≡ 0
align_place left rest padding passed place size is_padding is stands_there =
    let parts = field_parts padding passed left rest is in
    let whole = length-drop padding left in
    let same : length (drop padding left) ≡ length rest = ap length parts.2 in
    let enough = parts.0 in
    omega arith

pub align_there : (left : List Bool) (padding : ℕ) (fault : BitFault) → padding ≡ length left % 8 → field padding left ≡ Err fault → ⊥
align_there left padding fault is_padding cut = let whole = field_whole padding left (omega arith) in cc
