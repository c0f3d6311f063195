-- Lemmas on bits and the numbers that they spell.
use Rattle.std.proofs.Common.{◌≡◌, ◌≤◌, ◌<◌, ◌+◌, ◌-◌, ◌*◌, ◌/◌, ◌%◌, ◌^◌, ℕ, zero, suc, Bool, true, false, cond, eqb, List, [], ◌∷◌, ◌++◌, length, take, drop, get_or, zero-add, length-append, length-drop, refl, sym, ap, ◌∙◌, subst, arith}
use Rattle.std.specs.Int.{w64, from_be_bytes}
use Rattle.std.specs.List.{flat_map}
use Rattle.std.proofs.lemmas.List.{take-append-drop, take_at, drop_at, length-take-le}
use Rattle.std.proofs.lemmas.List.Concat.{flat_map-append}
use Rattle.std.proofs.lemmas.Nat.{pow_pos, pow-add, shr-shr, mod-pow-add, shr_high, mod_low}
use Rattle.std.proofs.Math.Nat.{two-pow-succ}
use Rattle.file_model.specs.Bits.{bits_in, bits, number}

pub length-bits_in : (count n : ℕ) → length (bits_in count n) ≡ count
unfolding bits_in
length-bits_in zero n = refl
length-bits_in (suc count) n = ap suc (length-bits_in count n)

-- what bits spell before others is as many times greater
pub number-append : (xs ys : List Bool) → number (xs ++ ys) ≡ number xs * 2 ^ length ys + number ys
unfolding number
number-append [] ys = omega arith
number-append (true ∷ xs) ys =
    let rest = number-append xs ys in
    let size = length-append xs ys in
    let power = pow-add 2 (length xs) (length ys) in
    rw (size, power, rest) (omega arith)
number-append (false ∷ xs) ys = let rest = number-append xs ys in rw rest (omega arith)

pub number-below : (xs : List Bool) → number xs < 2 ^ length xs
unfolding number
number-below [] = omega arith
number-below (true ∷ xs) = let rest = number-below xs in let twice = two-pow-succ (length xs) in omega arith
number-below (false ∷ xs) = let rest = number-below xs in let twice = two-pow-succ (length xs) in omega arith

-- the highest of the last so many bits
top_bit : (count n : ℕ) → number (eqb (n / 2 ^ count % 2) 1 ∷ bits_in count n) ≡ n / 2 ^ count % 2 * 2 ^ count + number (bits_in count n)
unfolding number
top_bit count n = rw (length-bits_in count n) (bit_worth (n / 2 ^ count % 2) (2 ^ count) (number (bits_in count n)) (omega arith))
  where
    bit_worth : (bit power rest : ℕ) → bit < 2 → cond (eqb bit 1) power 0 + rest ≡ bit * power + rest
    bit_worth zero power rest below = omega arith
    bit_worth (suc zero) power rest below = omega arith
    bit_worth (suc (suc bit)) power rest below = absurd (omega arith)

mod_more : (count n : ℕ) → n % 2 ^ suc count ≡ n / 2 ^ count % 2 * 2 ^ count + n % 2 ^ count
mod_more count n =
    let one_more : 1 + count ≡ suc count = omega arith in
    subst (λ (k : ℕ). n % 2 ^ k ≡ n / 2 ^ count % 2 * 2 ^ count + n % 2 ^ count) one_more (mod-pow-add n 1 count)

-- the last so many bits of a number spell what is left of it
pub number-bits_in : (count n : ℕ) → number (bits_in count n) ≡ n % 2 ^ count
unfolding bits_in number
number-bits_in zero n = omega arith
number-bits_in (suc count) n =
    top_bit count n ∙ ap (λ (rest : ℕ). n / 2 ^ count % 2 * 2 ^ count + rest) (number-bits_in count n) ∙ sym (mod_more count n)

-- the last bits of a number are those of its quotient, and then those of what is left
pub bits_in-add : (m n v : ℕ) → bits_in (m + n) v ≡ bits_in m (v / 2 ^ n) ++ bits_in n v
unfolding bits_in
bits_in-add zero n v = ap (λ (k : ℕ). bits_in k v) (zero-add n)
bits_in-add (suc m) n v =
    let turned : m + n ≡ n + m = omega arith in
    let size : suc m + n ≡ suc (m + n) = omega arith in
    let head : v / 2 ^ (m + n) ≡ v / 2 ^ n / 2 ^ m = ap (λ (k : ℕ). v / 2 ^ k) turned ∙ sym (shr-shr v n m) in
    ap (λ (k : ℕ). bits_in k v) size
    ∙ ap (λ (q : ℕ). eqb (q % 2) 1 ∷ bits_in (m + n) v) head
    ∙ ap (λ (rest : List Bool). eqb (v / 2 ^ n / 2 ^ m % 2) 1 ∷ rest) (bits_in-add m n v)

quotient_bit : (q n k : ℕ) → (q * 2 ^ suc k + n) / 2 ^ k % 2 ≡ n / 2 ^ k % 2
quotient_bit q n k =
    let twice = two-pow-succ k in
    let whole : q * 2 ^ suc k + n ≡ (2 * q + n / 2 ^ k) * 2 ^ k + n % 2 ^ k = rw twice (omega arith) in
    let below : n % 2 ^ k < 2 ^ k = (let above = pow_pos k in omega arith) in
    let quotient : (q * 2 ^ suc k + n) / 2 ^ k ≡ 2 * q + n / 2 ^ k = ap (λ (m : ℕ). m / 2 ^ k) whole ∙ shr_high (2 * q + n / 2 ^ k) k (n % 2 ^ k) below in
    rw quotient (omega arith)

-- the last so many bits know nothing of those above them
pub bits_in-above : (count q n : ℕ) → bits_in count (q * 2 ^ count + n) ≡ bits_in count n
unfolding bits_in
bits_in-above zero q n = refl
bits_in-above (suc count) q n =
    let twice : q * 2 ^ suc count + n ≡ 2 * q * 2 ^ count + n = (let power = two-pow-succ count in rw power (omega arith)) in
    ap (λ (bit : ℕ). eqb bit 1 ∷ bits_in count (q * 2 ^ suc count + n)) (quotient_bit q n count)
    ∙ ap (λ (rest : List Bool). eqb (n / 2 ^ count % 2) 1 ∷ rest) (ap (bits_in count) twice ∙ bits_in-above count (2 * q) n)

pub bits_in-mod : (count n : ℕ) → bits_in count (n % 2 ^ count) ≡ bits_in count n
bits_in-mod count n =
    let whole : n / 2 ^ count * 2 ^ count + n % 2 ^ count ≡ n = omega arith in
    sym (bits_in-above count (n / 2 ^ count) (n % 2 ^ count)) ∙ ap (bits_in count) whole

-- bits are those of the number that they spell
pub bits_in-number : (xs : List Bool) → bits_in (length xs) (number xs) ≡ xs
unfolding bits_in number
bits_in-number [] = refl
bits_in-number (true ∷ xs) =
    let below = number-below xs in
    let bit : (2 ^ length xs + number xs) / 2 ^ length xs % 2 ≡ 1 =
    ap (λ (n : ℕ). n / 2 ^ length xs % 2) (top_at (2 ^ length xs) (number xs)) ∙ ap (λ (q : ℕ). q % 2) (shr_high 1 (length xs) (number xs) below) in
    let rest = ap (bits_in (length xs)) (top_at (2 ^ length xs) (number xs)) ∙ bits_in-above (length xs) 1 (number xs) ∙ bits_in-number xs in
    ap (λ (b : ℕ). eqb b 1 ∷ bits_in (length xs) (2 ^ length xs + number xs)) bit ∙ ap (λ (ys : List Bool). true ∷ ys) rest
  where
    top_at : (power rest : ℕ) → power + rest ≡ 1 * power + rest
    top_at power rest = omega arith
bits_in-number (false ∷ xs) =
    let below = number-below xs in
    let bit : (0 + number xs) / 2 ^ length xs % 2 ≡ 0 =
    ap (λ (n : ℕ). n / 2 ^ length xs % 2) (none_at (2 ^ length xs) (number xs)) ∙ ap (λ (q : ℕ). q % 2) (shr_high 0 (length xs) (number xs) below) in
    let rest = ap (bits_in (length xs)) (zero-add (number xs)) ∙ bits_in-number xs in
    ap (λ (b : ℕ). eqb b 1 ∷ bits_in (length xs) (0 + number xs)) bit ∙ ap (λ (ys : List Bool). false ∷ ys) rest
  where
    none_at : (power rest : ℕ) → 0 + rest ≡ 0 * power + rest
    none_at power rest = omega arith

-- bits are told by their number
pub same_bits : (xs ys : List Bool) → length xs ≡ length ys → number xs ≡ number ys → xs ≡ ys
same_bits xs ys sizes numbers =
    sym (bits_in-number xs) ∙ ap (λ (k : ℕ). bits_in k (number xs)) sizes ∙ ap (bits_in (length ys)) numbers ∙ bits_in-number ys

-- the first so many bits, and those behind them
pub number-split : (n : ℕ) (xs : List Bool) → number xs ≡ number (take n xs) * 2 ^ (length xs - n) + number (drop n xs)
number-split n xs =
    ap number (sym (take-append-drop n xs)) ∙ number-append (take n xs) (drop n xs)
    ∙ ap (λ (k : ℕ). number (take n xs) * 2 ^ k + number (drop n xs)) (length-drop n xs)

number-drop-below : (n : ℕ) (xs : List Bool) → number (drop n xs) < 2 ^ (length xs - n)
number-drop-below n xs = let P : ℕ → Type 0 = λ k. number (drop n xs) < 2 ^ k in subst P (length-drop n xs) (number-below (drop n xs))

pub number-take : (n : ℕ) (xs : List Bool) → number (take n xs) ≡ number xs / 2 ^ (length xs - n)
number-take n xs =
    sym (ap (λ (v : ℕ). v / 2 ^ (length xs - n)) (number-split n xs) ∙ shr_high (number (take n xs)) (length xs - n) (number (drop n xs)) (number-drop-below n xs))

pub number-drop : (n : ℕ) (xs : List Bool) → number (drop n xs) ≡ number xs % 2 ^ (length xs - n)
number-drop n xs =
    sym (ap (λ (v : ℕ). v % 2 ^ (length xs - n)) (number-split n xs) ∙ mod_low (number (take n xs)) (length xs - n) (number (drop n xs)) (number-drop-below n xs))

pub length-bits : (bytes : List ℕ) → length (bits bytes) ≡ 8 * length bytes
unfolding bits
length-bits [] = refl
length-bits (byte ∷ bytes) =
    let rest = length-bits bytes in
    let whole = length-append (bits_in 8 byte) (flat_map (bits_in 8) bytes) in
    let first = length-bits_in 8 byte in
    omega arith

pub bits-append : (xs ys : List ℕ) → bits (xs ++ ys) ≡ bits xs ++ bits ys
unfolding bits
bits-append xs ys = flat_map-append (bits_in 8) xs ys

bits-split : (k : ℕ) (bytes : List ℕ) → bits bytes ≡ bits (take k bytes) ++ bits (drop k bytes)
bits-split k bytes = ap bits (sym (take-append-drop k bytes)) ∙ bits-append (take k bytes) (drop k bytes)

length-front : (k : ℕ) (bytes : List ℕ) → k ≤ length bytes → length (bits (take k bytes)) ≡ 8 * k
length-front k bytes within = length-bits (take k bytes) ∙ ap (λ (n : ℕ). 8 * n) (length-take-le k bytes within)

-- the bits of the first so many bytes, and of those behind them
pub bits-take : (k : ℕ) (bytes : List ℕ) → k ≤ length bytes → take (8 * k) (bits bytes) ≡ bits (take k bytes)
bits-take k bytes within =
    ap (take (8 * k)) (bits-split k bytes) ∙ take_at (bits (take k bytes)) (bits (drop k bytes)) (8 * k) (length-front k bytes within)

pub bits-drop : (k : ℕ) (bytes : List ℕ) → k ≤ length bytes → drop (8 * k) (bits bytes) ≡ bits (drop k bytes)
bits-drop k bytes within =
    ap (drop (8 * k)) (bits-split k bytes) ∙ drop_at (bits (take k bytes)) (bits (drop k bytes)) (8 * k) (length-front k bytes within)

-- one byte before others
pub bits-cons : (byte : ℕ) (bytes : List ℕ) → bits (byte ∷ bytes) ≡ bits_in 8 byte ++ bits bytes
unfolding bits
bits-cons byte bytes = refl

pub number-byte : (byte : ℕ) (bytes : List ℕ) → byte < 256 → number (bits (byte ∷ bytes)) ≡ byte * 2 ^ (8 * length bytes) + number (bits bytes)
number-byte byte bytes below =
    let first : number (bits_in 8 byte) ≡ byte = number-bits_in 8 byte ∙ (omega arith) in
    ap number (bits-cons byte bytes) ∙ number-append (bits_in 8 byte) (bits bytes)
    ∙ ap (λ (k : ℕ). number (bits_in 8 byte) * 2 ^ k + number (bits bytes)) (length-bits bytes)
    ∙ ap (λ (n : ℕ). n * 2 ^ (8 * length bytes) + number (bits bytes)) first

no_bits : number (bits []) ≡ 0
unfolding bits number
no_bits = refl

-- eight bytes as one number
pub eight : (a b c d e f g h : ℕ) → a < 256 → b < 256 → c < 256 → d < 256 → e < 256 → f < 256 → g < 256 → h < 256
    → from_be_bytes w64 (a ∷ b ∷ c ∷ d ∷ e ∷ f ∷ g ∷ h ∷ []) ≡ number (bits (a ∷ b ∷ c ∷ d ∷ e ∷ f ∷ g ∷ h ∷ []))
eight a b c d e f g h is_a is_b is_c is_d is_e is_f is_g is_h =
    let first = number-byte a (b ∷ c ∷ d ∷ e ∷ f ∷ g ∷ h ∷ []) is_a in
    let second = number-byte b (c ∷ d ∷ e ∷ f ∷ g ∷ h ∷ []) is_b in
    let third = number-byte c (d ∷ e ∷ f ∷ g ∷ h ∷ []) is_c in
    let fourth = number-byte d (e ∷ f ∷ g ∷ h ∷ []) is_d in
    let fifth = number-byte e (f ∷ g ∷ h ∷ []) is_e in
    let sixth = number-byte f (g ∷ h ∷ []) is_f in
    let seventh = number-byte g (h ∷ []) is_g in
    let eighth = number-byte h [] is_h in
    let none : number (bits []) ≡ 0 = no_bits in
    omega arith

pub first_eight : (xs : List ℕ) → 8 ≤ length xs
    → take 8 xs ≡ get_or xs 0 0 ∷ get_or xs 1 0 ∷ get_or xs 2 0 ∷ get_or xs 3 0 ∷ get_or xs 4 0 ∷ get_or xs 5 0 ∷ get_or xs 6 0 ∷ get_or xs 7 0 ∷ []
first_eight (a ∷ b ∷ c ∷ d ∷ e ∷ f ∷ g ∷ h ∷ rest) enough = refl
first_eight xs enough = absurd (omega arith)

-- the first eight bytes as one number
pub number-eight : (xs : List ℕ) → 8 ≤ length xs → ((i : ℕ) → get_or xs i 0 < 256)
    → from_be_bytes w64 (get_or xs 0 0 ∷ get_or xs 1 0 ∷ get_or xs 2 0 ∷ get_or xs 3 0 ∷ get_or xs 4 0 ∷ get_or xs 5 0 ∷ get_or xs 6 0 ∷ get_or xs 7 0 ∷ []) ≡ number (bits (take 8 xs))
number-eight xs enough are_bytes =
    eight _ _ _ _ _ _ _ _ (are_bytes 0) (are_bytes 1) (are_bytes 2) (are_bytes 3) (are_bytes 4) (are_bytes 5) (are_bytes 6) (are_bytes 7)
    ∙ ap (λ (ys : List ℕ). number (bits ys)) (sym (first_eight xs enough))
