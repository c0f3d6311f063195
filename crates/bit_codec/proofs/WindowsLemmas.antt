-- Lemmas on windows.
use Rattle.std.proofs.Common.{◌≡◌, ◌≤◌, ◌<◌, ◌+◌, ◌-◌, ◌*◌, ◌/◌, ◌%◌, ◌^◌, ℕ, zero, suc, Bool, List, ◌++◌, length, take, drop, Ok, length-drop, refl, sym, ap, ◌∙◌, subst, inl, inr, ◌⊎◌, arith}
use Rattle.std.specs.Int.{w64, leading_zeros}
use Rattle.std.proofs.lemmas.Bool.{cases_lt}
use Rattle.std.proofs.lemmas.List.{take-append-drop, drop-drop, drop-take, take-take, drop-append-le, length-take-le}
use Rattle.std.proofs.lemmas.Nat.{pow_pos, pow-add, shr-shr, shl-shr, mod-pow-add, leading_length}
use Rattle.std.proofs.Math.Nat.{two-pow-succ, pow-le-pow_right, lt_of_mul-lt-mul_right, le_of_mul-le-mul_right, mul-lt-mul_of_pos_right, mul-mod_left, div-eq_of_lt-le}
use Rattle.std.proofs.Math.Seq.{take-add}
use Rattle.file_model.specs.Bits.{bits, number}
use Rattle.file_model.specs.Fields.{unary_at}
use Rattle.file_model.proofs.BitsLemmas.{number-append, number-below, number-take, number-drop, length-bits, bits-take, bits-drop}
use Rattle.file_model.proofs.FieldsLemmas.{behind, unary_zeros, unary_one}
use Rattle.bit_codec.specs.Windows.{IsWindow}

-- a number shifted up by the bits above the window falls off at its top
shifted : (word fewer : ℕ) → fewer < 8 → word * 2 ^ fewer % 2 ^ 64 ≡ word % 2 ^ (64 - fewer) * 2 ^ fewer
shifted word fewer few =
    let size : 64 - fewer + fewer ≡ 64 = omega arith in
    let split = mod-pow-add (word * 2 ^ fewer) (64 - fewer) fewer in
    let low : word * 2 ^ fewer % 2 ^ fewer ≡ 0 = mul-mod_left word (2 ^ fewer) in
    let high : word * 2 ^ fewer / 2 ^ fewer ≡ word = shl-shr word fewer in
    ap (λ (k : ℕ). word * 2 ^ fewer % 2 ^ k) (sym size) ∙ split
    ∙ ap (λ (q : ℕ). q % 2 ^ (64 - fewer) * 2 ^ fewer + word * 2 ^ fewer % 2 ^ fewer) high
    ∙ ap (λ (r : ℕ). word % 2 ^ (64 - fewer) * 2 ^ fewer + r) low ∙ (omega arith)

-- the window at a place in bytes
pub window_at : (bytes : List ℕ) (byte bit word : ℕ) → byte + 8 ≤ length bytes → bit < 8 → word ≡ number (bits (take 8 (drop byte bytes)))
    → IsWindow (drop (8 * byte + bit) (bits bytes)) bit (word * 2 ^ bit % 2 ^ 64)
window_at bytes byte bit word within few is =
    let size = length-bits bytes in
    let behind_bytes : drop (8 * byte) (bits bytes) ≡ bits (drop byte bytes) = bits-drop byte bytes (omega arith) in
    let enough : 8 ≤ length (drop byte bytes) = (let left = length-drop byte bytes in omega arith) in
    let eight : take 64 (bits (drop byte bytes)) ≡ bits (take 8 (drop byte bytes)) = bits-take 8 (drop byte bytes) enough in
    let there : length (take 64 (bits (drop byte bytes))) ≡ 64 = length-take-le 64 (bits (drop byte bytes)) (let all = length-bits (drop byte bytes) in omega arith) in
    let same : bit + (64 - bit) ≡ 64 = omega arith in
    let front : take (64 - bit) (drop (8 * byte + bit) (bits bytes)) ≡ drop bit (take 64 (bits (drop byte bytes))) =
    ap (take (64 - bit)) (sym (drop-drop bit (8 * byte) (bits bytes)) ∙ ap (drop bit) behind_bytes)
    ∙ sym (drop-take bit (64 - bit) (bits (drop byte bytes))) ∙ ap (λ (k : ℕ). drop bit (take k (bits (drop byte bytes)))) same in
    let spelled : number (take (64 - bit) (drop (8 * byte + bit) (bits bytes))) ≡ word % 2 ^ (64 - bit) =
    ap number front ∙ number-drop bit (take 64 (bits (drop byte bytes)))
    ∙ ap (λ (k : ℕ). number (take 64 (bits (drop byte bytes))) % 2 ^ (k - bit)) there
    ∙ ap (λ (n : ℕ). n % 2 ^ (64 - bit)) (ap number eight ∙ sym is) in
    record {
      few = few;
      whole = (let left = length-drop (8 * byte + bit) (bits bytes) in omega arith);
      value = shifted word bit few ∙ ap (λ (n : ℕ). n * 2 ^ bit) (sym spelled);
    }

pub window_enough : (left : List Bool) (fewer window count : ℕ) → IsWindow left fewer window → count + fewer ≤ 64 → count ≤ length left
window_enough left fewer window count is fits = let whole = is.whole in omega arith

-- the highest bits of a window
pub window_take : (left : List Bool) (fewer window count : ℕ) → IsWindow left fewer window → count + fewer ≤ 64
    → window / 2 ^ (64 - count) ≡ number (take count left)
window_take left fewer window count is fits =
    let whole = is.whole in
    let few = is.few in
    let front : List Bool = take (64 - fewer) left in
    let size : length front ≡ 64 - fewer = length-take-le (64 - fewer) left (omega arith) in
    let shift : 64 - count ≡ fewer + (64 - fewer - count) = omega arith in
    let fewer_yet : count ≤ 64 - fewer = omega arith in
    ap (λ (n : ℕ). n / 2 ^ (64 - count)) is.value ∙ ap (λ (k : ℕ). number front * 2 ^ fewer / 2 ^ k) shift
    ∙ sym (shr-shr (number front * 2 ^ fewer) fewer (64 - fewer - count)) ∙ ap (λ (n : ℕ). n / 2 ^ (64 - fewer - count)) (shl-shr (number front) fewer)
    ∙ ap (λ (k : ℕ). number front / 2 ^ (k - count)) (sym size) ∙ sym (number-take count front)
    ∙ ap number (take-take count (64 - fewer) left fewer_yet)

-- a window of zeros
pub window_zeros : (left : List Bool) (fewer : ℕ) → IsWindow left fewer 0 → unary_at left ≡ behind (64 - fewer) (unary_at (drop (64 - fewer) left))
window_zeros left fewer is =
    let whole = is.whole in
    let few = is.few in
    let size : length (take (64 - fewer) left) ≡ 64 - fewer = length-take-le (64 - fewer) left (omega arith) in
    let none : number (take (64 - fewer) left) ≡ 0 = (let value = is.value in let above = pow_pos fewer in zero_from_product _ _ value above) in
    ap unary_at (sym (take-append-drop (64 - fewer) left)) ∙ unary_zeros (take (64 - fewer) left) (drop (64 - fewer) left) none
    ∙ ap (λ (k : ℕ). behind k (unary_at (drop (64 - fewer) left))) size
  where
    zero_from_product : (n k : ℕ) → 0 ≡ n * k → 0 < k → n ≡ 0
    zero_from_product zero k is above = refl
    zero_from_product (suc n) zero is above = absurd (omega arith)
    zero_from_product (suc n) (suc k) is above = absurd (omega arith)

-- how many zeros stand on top of a window, and the one behind them
record HasZeros (window passed : ℕ) : Type 0 where
  pub low : 2 ^ (63 - passed) ≤ window
  pub high : window < 2 ^ (64 - passed)

has_zeros : (window passed : ℕ) → window < 2 ^ 64 → passed ≡ leading_zeros w64 window → passed < 64 → HasZeros window passed
has_zeros window passed below is within =
    let found = leading_length 64 window below in
    let width : found.0 ≡ 64 - passed = (let sum = found.1 in omega arith) in
    let power : 64 - passed ≡ suc (63 - passed) = omega arith in
    let twice = two-pow-succ (63 - passed) in
    let above : 2 ^ (64 - passed) ≤ 2 * window + 1 = (let P : ℕ → Type 0 = λ k. 2 ^ k ≤ 2 * window + 1 in subst P width found.3) in
    let above_twice : 2 ^ suc (63 - passed) ≤ 2 * window + 1 = (let P : ℕ → Type 0 = λ k. 2 ^ k ≤ 2 * window + 1 in subst P power above) in
    record {
      low = omega arith;
      high = (let P : ℕ → Type 0 = λ k. window < 2 ^ k in subst P width found.2);
    }

-- the unary count on top of a window
pub window_one : (left : List Bool) (fewer window passed : ℕ) → IsWindow left fewer window → window < 2 ^ 64 → passed ≡ leading_zeros w64 window
    → suc passed + fewer ≤ 64 → unary_at left ≡ Ok (passed, drop (suc passed) left)
window_one left fewer window passed is below count fits =
    let whole = is.whole in
    let few = is.few in
    let has = has_zeros window passed below count (omega arith) in
    let front : List Bool = take (64 - fewer) left in
    let size : length front ≡ 64 - fewer = length-take-le (64 - fewer) left (omega arith) in
    let value : window ≡ number front * 2 ^ fewer = is.value in
    let low_power : 2 ^ (63 - passed) ≡ 2 ^ (64 - fewer - suc passed) * 2 ^ fewer =
    ap (λ (k : ℕ). 2 ^ k) (let same : 63 - passed ≡ 64 - fewer - suc passed + fewer = omega arith in same) ∙ pow-add 2 (64 - fewer - suc passed) fewer in
    let high_power : 2 ^ (64 - passed) ≡ 2 ^ (64 - fewer - passed) * 2 ^ fewer =
    ap (λ (k : ℕ). 2 ^ k) (let same : 64 - passed ≡ 64 - fewer - passed + fewer = omega arith in same) ∙ pow-add 2 (64 - fewer - passed) fewer in
    let has_low = has.low in
    let has_high = has.high in
    let low_product : 2 ^ (64 - fewer - suc passed) * 2 ^ fewer ≤ number front * 2 ^ fewer = omega arith in
    let high_product : number front * 2 ^ fewer < 2 ^ (64 - fewer - passed) * 2 ^ fewer = omega arith in
    let low : 2 ^ (64 - fewer - suc passed) ≤ number front = le_of_mul-le-mul_right low_product (pow_pos fewer) in
    let high : number front < 2 ^ (64 - fewer - passed) = lt_of_mul-lt-mul_right (2 ^ fewer) high_product in
    let low_front : 2 ^ (length front - suc passed) ≤ number front = (let P : ℕ → Type 0 = λ k. 2 ^ (k - suc passed) ≤ number front in subst P (sym size) low) in
    let high_front : number front < 2 ^ (length front - passed) = (let P : ℕ → Type 0 = λ k. number front < 2 ^ (k - passed) in subst P (sym size) high) in
    let behind_one : drop (suc passed) front ++ drop (64 - fewer) left ≡ drop (suc passed) left =
    sym (drop-append-le (suc passed) front (drop (64 - fewer) left) (omega arith)) ∙ ap (drop (suc passed)) (take-append-drop (64 - fewer) left) in
    ap unary_at (sym (take-append-drop (64 - fewer) left))
    ∙ unary_one front (drop (64 - fewer) left) passed (omega arith) low_front high_front
    ∙ ap (λ (xs : List Bool). Ok (passed, xs)) behind_one

-- a window that is not 0 has its first 1 above the zeros under it
pub window_has : (left : List Bool) (fewer window passed : ℕ) → IsWindow left fewer window → 0 < window → window < 2 ^ 64 → passed ≡ leading_zeros w64 window
    → suc passed + fewer ≤ 64
window_has left fewer window passed is some below count = cases (cases_lt (fewer + passed) 64)
  where
    product_above : (n k : ℕ) → 0 < n * k → k ≤ n * k
    product_above zero k some = absurd (omega arith)
    product_above (suc n) k some = omega arith

    cases : (fewer + passed < 64) ⊎ (64 ≤ fewer + passed) → suc passed + fewer ≤ 64
    cases (inl less) = omega arith
    cases (inr more) =
        let found = leading_length 64 window below in
        let sum = found.1 in
        let high = found.2 in
        let value = is.value in
        let least : 2 ^ fewer ≤ number (take (64 - fewer) left) * 2 ^ fewer = product_above (number (take (64 - fewer) left)) (2 ^ fewer) (omega arith) in
        let power : 2 ^ found.0 ≤ 2 ^ fewer = pow-le-pow_right (omega arith) (omega arith) in
        absurd (omega arith)

-- the one behind the zeros is the highest of its bits
pub window_rice : (left : List Bool) (fewer window passed low : ℕ) → IsWindow left fewer window → window < 2 ^ 64 → passed ≡ leading_zeros w64 window
    → passed + 1 + low + fewer ≤ 64 → window / 2 ^ (63 - passed - low) ≡ 2 ^ low + number (take low (drop (suc passed) left))
window_rice left fewer window passed low is below count fits =
    let has = has_zeros window passed below count (omega arith) in
    let has_low = has.low in
    let has_high = has.high in
    let shift : 63 - passed - low ≡ 64 - (suc passed + low) = omega arith in
    let whole = window_enough left fewer window (suc passed + low) is (omega arith) in
    let first : number (take (suc passed) left) ≡ 1 =
    sym (window_take left fewer window (suc passed) is (omega arith)) ∙ ap (λ (k : ℕ). window / 2 ^ k) (let same : 64 - suc passed ≡ 63 - passed = omega arith in same)
    ∙ quotient_one window (2 ^ (63 - passed)) has_low (let twice = two-pow-succ (63 - passed) in let power : 2 ^ (64 - passed) ≡ 2 ^ suc (63 - passed) = ap (λ (k : ℕ). 2 ^ k) (let same : 64 - passed ≡ suc (63 - passed) = omega arith in same) in omega arith) in
    let size : length (take low (drop (suc passed) left)) ≡ low = length-take-le low (drop (suc passed) left) (let rest = length-drop (suc passed) left in omega arith) in
    ap (λ (k : ℕ). window / 2 ^ k) shift ∙ window_take left fewer window (suc passed + low) is (omega arith)
    ∙ ap number (take-add (suc passed) low left) ∙ number-append (take (suc passed) left) (take low (drop (suc passed) left))
    ∙ ap (λ (k : ℕ). number (take (suc passed) left) * 2 ^ k + number (take low (drop (suc passed) left))) size
    ∙ ap (λ (n : ℕ). n * 2 ^ low + number (take low (drop (suc passed) left))) first ∙ (omega arith)
  where
    quotient_one : (n k : ℕ) → k ≤ n → n < k + k → n / k ≡ 1
    quotient_one n k low high =
        div-eq_of_lt-le {k = 1} k (let once : 1 * k ≤ n = omega arith in once) (let twice : n < 2 * k = omega arith in twice)

pub window_below : (left : List Bool) (fewer window : ℕ) → IsWindow left fewer window → window < 2 ^ 64
window_below left fewer window is =
    let whole = is.whole in
    let few = is.few in
    let value = is.value in
    let size : length (take (64 - fewer) left) ≡ 64 - fewer = length-take-le (64 - fewer) left (omega arith) in
    let below : number (take (64 - fewer) left) < 2 ^ (64 - fewer) = (let P : ℕ → Type 0 = λ k. number (take (64 - fewer) left) < 2 ^ k in subst P size (number-below (take (64 - fewer) left))) in
    let product : number (take (64 - fewer) left) * 2 ^ fewer < 2 ^ (64 - fewer) * 2 ^ fewer = mul-lt-mul_of_pos_right below (pow_pos fewer) in
    let power : 2 ^ 64 ≡ 2 ^ (64 - fewer) * 2 ^ fewer = ap (λ (k : ℕ). 2 ^ k) (let same : 64 ≡ 64 - fewer + fewer = omega arith in same) ∙ pow-add 2 (64 - fewer) fewer in
    omega arith
