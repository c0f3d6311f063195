-- Lemmas on fields of bits.
use Rattle.std.proofs.Common.{◌≡◌, ◌≤◌, ◌<◌, ◌+◌, ◌-◌, ◌*◌, ◌^◌, ℕ, zero, suc, min, Bool, true, false, cond, List, [], ◌∷◌, ◌++◌, length, take, drop, Result, Ok, Err, length-drop, refl, sym, ap, ◌∙◌, subst, inl, inr, ◌⊎◌, arith}
use Rattle.std.specs.Prelude.{if◌then◌else◌, IfOk}
use Rattle.std.proofs.lemmas.Bool.{cases_lt, lt-ltb, le-ltb}
use Rattle.std.proofs.lemmas.List.{drop-drop, length-take-le}
use Rattle.std.proofs.lemmas.Nat.{pow_pos}
use Rattle.std.proofs.Math.Nat.{pow-le-pow_right}
use Rattle.std.proofs.Math.Seq.{take-add}
use Rattle.file_model.specs.declared.bits.BitFault.{BitFault}
use Rattle.file_model.specs.declared.bits.BitFault.TheVariants.{Cut}
use Rattle.file_model.specs.Bits.{number}
use Rattle.file_model.specs.Fields.{field, unary_at, rice_at, held}
use Rattle.file_model.specs.Outcomes.{◌>>=◌, Gives}
use Rattle.file_model.proofs.BitsLemmas.{number-below, number-append}

pub field_whole : (count : ℕ) (bits : List Bool) → count ≤ length bits → field count bits ≡ Ok (number (take count bits), drop count bits)
unfolding field
field_whole count bits enough =
    ap (λ (b : Bool). cond {A = Result (ℕ × List Bool) BitFault} b (Err Cut) (Ok (number (take count bits), drop count bits))) (le-ltb (length bits) count enough)

pub field_cut : (count : ℕ) (bits : List Bool) → length bits < count → field count bits ≡ Err Cut
unfolding field
field_cut count bits few =
    ap (λ (b : Bool). cond {A = Result (ℕ × List Bool) BitFault} b (Err Cut) (Ok (number (take count bits), drop count bits))) (lt-ltb (length bits) count few)

-- a count behind so many passed
abbrev pub behind : ℕ → Result (ℕ × List Bool) BitFault → Result (ℕ × List Bool) BitFault
behind passed (Ok count) = Ok (passed + count.0, count.1)
behind passed (Err fault) = Err fault

behind_none : (read : Result (ℕ × List Bool) BitFault) → read ≡ behind 0 read
behind_none (Ok (count, rest)) = ap (λ (n : ℕ). Ok (n, rest)) (let same : count ≡ 0 + count = omega arith in same)
behind_none (Err fault) = refl

behind_one : (passed : ℕ) (read : Result (ℕ × List Bool) BitFault)
    → (behind passed read >>= λ more. Ok (suc more.0, more.1)) ≡ behind (suc passed) read
behind_one passed (Ok (count, rest)) = ap (λ (n : ℕ). Ok (n, rest)) (let same : suc (passed + count) ≡ suc passed + count = omega arith in same)
behind_one passed (Err fault) = refl

-- bits that are all 0 are passed
pub unary_zeros : (xs ys : List Bool) → number xs ≡ 0 → unary_at (xs ++ ys) ≡ behind (length xs) (unary_at ys)
unfolding number unary_at
unary_zeros [] ys none = behind_none (unary_at ys)
unary_zeros (true ∷ xs) ys none = absurd (let above = pow_pos (length xs) in omega arith)
unary_zeros (false ∷ xs) ys none =
    let rest : number xs ≡ 0 = omega arith in
    ap (λ (read : Result (ℕ × List Bool) BitFault). read >>= λ more. Ok (suc more.0, more.1)) (unary_zeros xs ys rest)
    ∙ behind_one (length xs) (unary_at ys)

-- the first 1 stands behind as many passed as its worth tells
pub unary_one : (xs ys : List Bool) (passed : ℕ) → passed < length xs → 2 ^ (length xs - suc passed) ≤ number xs → number xs < 2 ^ (length xs - passed)
    → unary_at (xs ++ ys) ≡ Ok (passed, drop (suc passed) xs ++ ys)
unfolding number unary_at
unary_one [] ys passed within low high = absurd (omega arith)
unary_one (true ∷ xs) ys zero within low high = refl
unary_one (true ∷ xs) ys (suc passed) within low high =
    let power : 2 ^ (length xs - passed) ≤ 2 ^ length xs = pow-le-pow_right (omega arith) (omega arith) in
    let same : suc (length xs) - suc passed ≡ length xs - passed = omega arith in
    let high_here : 2 ^ length xs + number xs < 2 ^ (length xs - passed) = rw same at high in
    absurd (omega arith)
unary_one (false ∷ xs) ys zero within low high =
    let below = number-below xs in
    let same : suc (length xs) - 1 ≡ length xs = omega arith in
    let low_here : 2 ^ length xs ≤ 0 + number xs = rw same at low in
    absurd (omega arith)
unary_one (false ∷ xs) ys (suc passed) within low high =
    let one : suc (length xs) - suc (suc passed) ≡ length xs - suc passed = omega arith in
    let other : suc (length xs) - suc passed ≡ length xs - passed = omega arith in
    let low_here : 2 ^ (length xs - suc passed) ≤ 0 + number xs = rw one at low in
    let high_here : 0 + number xs < 2 ^ (length xs - passed) = rw other at high in
    ap (λ (read : Result (ℕ × List Bool) BitFault). read >>= λ more. Ok (suc more.0, more.1))
    (unary_one xs ys passed (omega arith) (omega arith) (omega arith))

last_bit : (bit : Bool) (front value : ℕ) → front ≡ value → front * 2 ^ 1 + number (bit ∷ []) ≡ value * 2 + (if bit then 1 else 0)
unfolding number
last_bit true front value same = omega arith
last_bit false front value same = omega arith

-- a Rice value from its parts
pub rice_from : (count quotient : ℕ) (bits behind_one : List Bool) → unary_at bits ≡ Ok (quotient, behind_one) → count ≤ length behind_one
    → rice_at count bits ≡ Ok (quotient * 2 ^ count + number (take count behind_one), drop count behind_one)
unfolding rice_at
rice_from count quotient bits behind_one is enough =
    let low_of : ℕ × List Bool → Result (ℕ × List Bool) BitFault = λ q. field count q.1 >>= λ low. Ok (q.0 * 2 ^ count + low.0, low.1) in
    let joined : Result (ℕ × List Bool) BitFault → Result (ℕ × List Bool) BitFault = λ read. read >>= λ low. Ok (quotient * 2 ^ count + low.0, low.1) in
    ap (λ (read : Result (ℕ × List Bool) BitFault). read >>= low_of) is ∙ ap joined (field_whole count behind_one enough)

-- a number under the limit is not changed by it
pub held_under : (count : ℕ) (rest : List Bool) (read : Result (ℕ × List Bool) BitFault) → read ≡ Ok (count, rest) → count < 2 ^ 64 → held read ≡ Ok (count, rest)
held_under count rest read is below =
    ap held is ∙ ap (λ (n : ℕ). Ok (n, rest)) (let same : min count (2 ^ 64 - 1) ≡ count = omega arith in same)

-- what a whole field was
pub field_parts : (count value : ℕ) (bits rest : List Bool) → field count bits ≡ Ok (value, rest)
    → (count ≤ length bits) × (number (take count bits) ≡ value) × (drop count bits ≡ rest)
field_parts count value bits rest is = cases (cases_lt (length bits) count)
  where
    cases : (length bits < count) ⊎ (count ≤ length bits) → (count ≤ length bits) × (number (take count bits) ≡ value) × (drop count bits ≡ rest)
    cases (inl few) = let cut = field_cut count bits few in absurd cc
    cases (inr enough) = let whole = field_whole count bits enough in let pair : (number (take count bits), drop count bits) ≡ (value, rest) = cc in (enough, ap (λ (p : ℕ × List Bool). p.0) pair, ap (λ (p : ℕ × List Bool). p.1) pair)

-- one bit more
pub field_more : (count value : ℕ) (bits rest : List Bool) (bit : Bool) → field count bits ≡ Ok (value, bit ∷ rest)
    → field (count + 1) bits ≡ Ok (value * 2 + (if bit then 1 else 0), rest)
field_more count value bits rest bit is =
    let parts = field_parts count value bits (bit ∷ rest) is in
    let size : length (drop count bits) ≡ suc (length rest) = ap length parts.2 in
    let enough : count + 1 ≤ length bits = (let rest_of = length-drop count bits in omega arith) in
    let front : take (count + 1) bits ≡ take count bits ++ bit ∷ [] = take-add count 1 bits ∙ ap (λ (xs : List Bool). take count bits ++ take 1 xs) parts.2 in
    let back : drop (count + 1) bits ≡ rest = sym (drop-drop 1 count bits) ∙ ap (drop 1) parts.2 in
    let spelled : number (take (count + 1) bits) ≡ value * 2 + (if bit then 1 else 0) =
    ap number front ∙ number-append (take count bits) (bit ∷ []) ∙ last_bit bit (number (take count bits)) value parts.1 in
    field_whole (count + 1) bits enough ∙ ap (λ (n : ℕ). Ok (n, drop (count + 1) bits)) spelled ∙ ap (λ (xs : List Bool). Ok (value * 2 + (if bit then 1 else 0), xs)) back

-- no bit more
pub field_ends : (count more value : ℕ) (bits : List Bool) → field count bits ≡ Ok (value, []) → count < more → field more bits ≡ Err Cut
field_ends count more value bits is above =
    let parts = field_parts count value bits [] is in
    let size : length (drop count bits) ≡ 0 = ap length parts.2 in
    field_cut more bits (let rest_of = length-drop count bits in omega arith)

-- a number of so many bits
pub field_below : (count value : ℕ) (bits rest : List Bool) → field count bits ≡ Ok (value, rest) → value < 2 ^ count
field_below count value bits rest is =
    let parts = field_parts count value bits rest is in
    let size = length-take-le count bits parts.0 in
    let below : number (take count bits) < 2 ^ count = (let P : ℕ → Type 0 = λ k. number (take count bits) < 2 ^ k in subst P size (number-below (take count bits))) in
    omega arith

-- no bits are a field of 0
pub field_none : (bits : List Bool) → field 0 bits ≡ Ok (0, bits)
unfolding number
field_none bits = field_whole 0 bits (omega arith)

-- a number that was given has so many bits
pub field_small : (count : ℕ) (result : Result ℕ BitFault) (rest bits : List Bool) → Gives (λ value. (value, rest)) result (field count bits)
    → IfOk result (λ value. value < 2 ^ count)
field_small count (Ok value) rest bits gives = field_below count value bits rest gives
field_small count (Err fault) rest bits gives = tt
