-- Lemmas on checks as numbers.
use Rattle.std.proofs.Common.{◌≡◌, ◌≤◌, ◌<◌, ◌+◌, ◌*◌, ◌/◌, ◌%◌, ◌^◌, ℕ, zero, suc, Bool, false, List, [], ◌∷◌, ◌++◌, length, take, drop, get_or, replicate, append_assoc, length-append, refl, sym, ap, ◌∙◌, subst, arith}
use Rattle.std.specs.Int.Bits.{bit_xor, xor_zero_l, xor_zero_r, xor_shr, xor_mod, xor_assoc}
use Rattle.std.proofs.lemmas.List.{append-nil, length-replicate, replicate-append-replicate, take_more, take-append-drop}
use Rattle.std.proofs.Math.Seq.{take-add}
use Rattle.std.proofs.lemmas.Nat.{shr-shr, shl-shr}
use Rattle.file_model.specs.Bits.{bits_in, bits, number}
use Rattle.file_model.specs.Crc.{less, divided, remainder, crc8, crc16, header_divisor, frame_divisor}
use Rattle.file_model.proofs.BitsLemmas.{eight, number-append, number-below, number-bits_in, bits_in-number, bits_in-add, bits_in-mod, length-bits_in, length-bits, bits-append, bits-cons}
use Rattle.file_model.proofs.CrcLemmas.{length-less, less-longer, length-remainder, remainder-append, remainder-append-short, remainder-split, number-less}

-- bits, from their number
bits_of : (size n : ℕ) (xs : List Bool) → length xs ≡ size → number xs ≡ n → xs ≡ bits_in size n
bits_of size n xs is_size is_number =
    sym (bits_in-number xs) ∙ ap (λ (k : ℕ). bits_in k (number xs)) is_size ∙ ap (bits_in size) is_number

number-zeros : (count : ℕ) → number (replicate count false) ≡ 0
unfolding number
number-zeros zero = refl
number-zeros (suc count) = let rest = number-zeros count in omega arith

no_bits : bits [] ≡ []
unfolding bits
no_bits = refl

bits-one : (byte : ℕ) → bits (byte ∷ []) ≡ bits_in 8 byte
bits-one byte = bits-cons byte [] ∙ ap (λ (xs : List Bool). bits_in 8 byte ++ xs) no_bits ∙ append-nil (bits_in 8 byte)

number-byte_bits : (byte : ℕ) → byte < 256 → number (bits_in 8 byte) ≡ byte
number-byte_bits byte below = number-bits_in 8 byte ∙ (omega arith)

-- the bits of two bytes, one taken from the other
less_bytes : (a b : ℕ) → a < 256 → b < 256 → less (bits_in 8 a) (bits_in 8 b) ≡ bits_in 8 (bit_xor a b)
less_bytes a b below_a below_b =
    bits_of 8 (bit_xor a b) (less (bits_in 8 a) (bits_in 8 b)) (length-less (bits_in 8 a) (bits_in 8 b) ∙ length-bits_in 8 b)
    (number-less (bits_in 8 a) (bits_in 8 b) (length-bits_in 8 a ∙ sym (length-bits_in 8 b))
    ∙ ap (λ (n : ℕ). bit_xor n (number (bits_in 8 b))) (number-byte_bits a below_a) ∙ ap (bit_xor a) (number-byte_bits b below_b))

-- ---- the check of eight bits

pub crc8_none : 0 ≡ crc8 []
unfolding crc8 bits divided remainder number bits_in
crc8_none = refl

pub crc8_more : (before : List ℕ) (check byte : ℕ) → check < 256 → byte < 256 → check ≡ crc8 before
    → number (remainder header_divisor (bits_in 8 (bit_xor check byte))) ≡ crc8 (before ++ byte ∷ [])
unfolding crc8
crc8_more before check byte below_check below_byte is =
    let left : List Bool = remainder header_divisor (bits before) in
    let size : length left ≡ 8 = length-remainder header_divisor (bits before) ∙ length-bits_in 8 0x07 in
    let left_is : left ≡ bits_in 8 check = bits_of 8 check left size (sym is) in
    let enough : length header_divisor ≤ length (bits_in 8 byte) = (let one = length-bits_in 8 0x07 in let two = length-bits_in 8 byte in omega arith) in
    sym (ap (λ (xs : List Bool). number (remainder header_divisor xs)) (bits-append before (byte ∷ []) ∙ ap (λ (xs : List Bool). bits before ++ xs) (bits-one byte))
    ∙ ap number (remainder-append header_divisor (bits before) (bits_in 8 byte) enough)
    ∙ ap (λ (xs : List Bool). number (remainder header_divisor (less xs (bits_in 8 byte)))) left_is
    ∙ ap (λ (xs : List Bool). number (remainder header_divisor xs)) (less_bytes check byte below_check below_byte))

-- ---- the check of sixteen bits

frame_size : length frame_divisor ≡ 16
frame_size = length-bits_in 16 0x8005

-- a check after the bits of one more byte
pub check_byte : (message : List Bool) (check byte : ℕ) → check < 65536 → byte < 256 → check ≡ number (remainder frame_divisor message)
    → number (remainder frame_divisor (message ++ bits_in 8 byte))
    ≡ bit_xor (number (remainder frame_divisor (bits_in 8 (bit_xor (check / 256) byte)))) (check % 256 * 256)
check_byte message check byte below_check below_byte is =
    let left : List Bool = remainder frame_divisor message in
    let size : length left ≡ 16 = length-remainder frame_divisor message ∙ frame_size in
    let left_is : left ≡ bits_in 8 (check / 256) ++ bits_in 8 check = bits_of 16 check left size (sym is) ∙ bits_in-add 8 8 check in
    let same : length (bits_in 8 (check / 256)) ≡ length (bits_in 8 byte) = length-bits_in 8 (check / 256) ∙ sym (length-bits_in 8 byte) in
    let zeros : List Bool = replicate (length (bits_in 8 byte)) false in
    let high : List Bool = remainder frame_divisor (less (bits_in 8 (check / 256)) (bits_in 8 byte)) in
    let sizes : length high ≡ length (bits_in 8 check ++ zeros) =
    (let one = length-remainder frame_divisor (less (bits_in 8 (check / 256)) (bits_in 8 byte)) in let two = frame_size in let three = length-append (bits_in 8 check) zeros in
    let four = length-bits_in 8 check in let five = length-replicate (length (bits_in 8 byte)) false in let six = length-bits_in 8 byte in omega arith) in
    let low : number (bits_in 8 check ++ zeros) ≡ check % 256 * 256 =
    number-append (bits_in 8 check) zeros ∙ ap (λ (k : ℕ). number (bits_in 8 check) * 2 ^ k + number zeros) (length-replicate (length (bits_in 8 byte)) false ∙ length-bits_in 8 byte)
    ∙ ap (λ (n : ℕ). n * 2 ^ 8 + number zeros) (number-bits_in 8 check) ∙ ap (λ (n : ℕ). check % 2 ^ 8 * 2 ^ 8 + n) (number-zeros (length (bits_in 8 byte))) ∙ (omega arith) in
    ap number (remainder-append-short frame_divisor message (bits_in 8 byte) (bits_in 8 (check / 256)) (bits_in 8 check) left_is same)
    ∙ number-less high (bits_in 8 check ++ zeros) sizes
    ∙ ap (λ (xs : List Bool). bit_xor (number (remainder frame_divisor xs)) (number (bits_in 8 check ++ zeros))) (less_bytes (check / 256) byte (omega arith) below_byte)
    ∙ ap (bit_xor (number (remainder frame_divisor (bits_in 8 (bit_xor (check / 256) byte))))) low

pub crc16_none : 0 ≡ crc16 []
unfolding crc16 bits divided remainder number bits_in
crc16_none = refl

pub crc16_more : (before : List ℕ) (check byte entry : ℕ) → check < 65536 → byte < 256 → check ≡ crc16 before
    → entry ≡ number (remainder frame_divisor (bits_in 8 (bit_xor (check / 256) byte) ++ []))
    → bit_xor entry (check % 256 * 256) ≡ crc16 (before ++ byte ∷ [])
unfolding crc16
crc16_more before check byte entry below_check below_byte is is_entry =
    ap (λ (n : ℕ). bit_xor n (check % 256 * 256)) (is_entry ∙ ap (λ (xs : List Bool). number (remainder frame_divisor xs)) (append-nil (bits_in 8 (bit_xor (check / 256) byte))))
    ∙ sym (ap (λ (xs : List Bool). number (remainder frame_divisor xs)) (bits-append before (byte ∷ []) ∙ ap (λ (xs : List Bool). bits before ++ xs) (bits-one byte))
    ∙ check_byte (bits before) check byte below_check below_byte is)

-- a check after eight more bytes is that of one number
crc16_word : (before next : List ℕ) (check word : ℕ) → length next ≡ 8 → word ≡ number (bits next) → check ≡ crc16 before
    → number (remainder frame_divisor (bits_in 64 (bit_xor (check * 2 ^ 48) word))) ≡ crc16 (before ++ next)
unfolding crc16
crc16_word before next check word size is_word is =
    let left : List Bool = remainder frame_divisor (bits before) in
    let zeros : List Bool = replicate 48 false in
    let left_size : length left ≡ 16 = length-remainder frame_divisor (bits before) ∙ frame_size in
    let next_size : length (bits next) ≡ 64 = (let all = length-bits next in omega arith) in
    let enough : length frame_divisor ≤ length (bits next) = (let one = frame_size in omega arith) in
    let long_size : length (left ++ zeros) ≡ length (bits next) = (let all = length-append left zeros in let two = length-replicate 48 false in omega arith) in
    let long : number (left ++ zeros) ≡ check * 2 ^ 48 =
    number-append left zeros ∙ ap (λ (k : ℕ). number left * 2 ^ k + number zeros) (length-replicate 48 false)
    ∙ ap (λ (n : ℕ). n * 2 ^ 48 + number zeros) (sym is) ∙ ap (λ (n : ℕ). check * 2 ^ 48 + n) (number-zeros 48) ∙ (omega arith) in
    let joined : less left (bits next) ≡ bits_in 64 (bit_xor (check * 2 ^ 48) word) =
    bits_of 64 (bit_xor (check * 2 ^ 48) word) (less left (bits next)) (length-less left (bits next) ∙ next_size)
    (ap number (sym (less-longer left (bits next) 48)) ∙ number-less (left ++ zeros) (bits next) long_size
    ∙ ap (λ (n : ℕ). bit_xor n (number (bits next))) long ∙ ap (bit_xor (check * 2 ^ 48)) (sym is_word)) in
    sym (ap (λ (xs : List Bool). number (remainder frame_divisor xs)) (bits-append before next)
    ∙ ap number (remainder-append frame_divisor (bits before) (bits next) enough)
    ∙ ap (λ (xs : List Bool). number (remainder frame_divisor xs)) joined)

-- what a byte with so many zeros behind it leaves
abbrev pub byte_check : ℕ → ℕ → ℕ
byte_check behind byte = number (remainder frame_divisor (bits_in 8 byte ++ replicate behind false))

front_check : ℕ → ℕ → ℕ → ℕ
front_check size behind word = number (remainder frame_divisor (bits_in size word ++ replicate behind false))

-- the last byte of a front, apart from those before it
front_step : (size behind word : ℕ) → front_check (size + 8) behind word ≡ bit_xor (front_check size (8 + behind) (word / 256)) (byte_check behind word)
unfolding front_check
front_step size behind word =
    let tail : List Bool = replicate behind false in
    let first : List Bool = bits_in size (word / 256) in
    let last : List Bool = bits_in 8 word ++ tail in
    let last_size : length last ≡ 8 + behind = length-append (bits_in 8 word) tail ∙ ap (λ (k : ℕ). k + length tail) (length-bits_in 8 word) ∙ ap (λ (k : ℕ). 8 + k) (length-replicate behind false) in
    let sizes : length (remainder frame_divisor (first ++ replicate (length last) false)) ≡ length (remainder frame_divisor last) =
    length-remainder frame_divisor (first ++ replicate (length last) false) ∙ sym (length-remainder frame_divisor last) in
    ap (λ (xs : List Bool). number (remainder frame_divisor (xs ++ tail))) (bits_in-add size 8 word)
    ∙ ap (λ (xs : List Bool). number (remainder frame_divisor xs)) (append_assoc first (bits_in 8 word) tail)
    ∙ ap number (remainder-split frame_divisor first last)
    ∙ number-less (remainder frame_divisor (first ++ replicate (length last) false)) (remainder frame_divisor last) sizes
    ∙ ap (λ (k : ℕ). bit_xor (number (remainder frame_divisor (first ++ replicate k false))) (number (remainder frame_divisor last))) last_size

front_whole : (word : ℕ) → front_check 64 0 word ≡ number (remainder frame_divisor (bits_in 64 word))
unfolding front_check
front_whole word = ap (λ (xs : List Bool). number (remainder frame_divisor xs)) (append-nil (bits_in 64 word))

front_one : (behind word : ℕ) → front_check 8 behind word ≡ byte_check behind word
unfolding front_check
front_one behind word = refl

byte_mod : (behind word : ℕ) → byte_check behind word ≡ byte_check behind (word % 256)
byte_mod behind word = ap (λ (xs : List Bool). number (remainder frame_divisor (xs ++ replicate behind false))) (sym (bits_in-mod 8 word))

-- the front, by the bytes of a word
step_at : (size behind word shifted : ℕ) → shifted ≡ word / 2 ^ behind
    → front_check (size + 8) behind shifted ≡ bit_xor (front_check size (8 + behind) (word / 2 ^ (behind + 8))) (byte_check behind (word / 2 ^ behind % 256))
step_at size behind word shifted is =
    ap (front_check (size + 8) behind) is ∙ front_step size behind (word / 2 ^ behind)
    ∙ ap (λ (n : ℕ). bit_xor (front_check size (8 + behind) n) (byte_check behind (word / 2 ^ behind))) (shr-shr word behind 8)
    ∙ ap (bit_xor (front_check size (8 + behind) (word / 2 ^ (behind + 8)))) (byte_mod behind (word / 2 ^ behind))

-- the check over a word is that of its bytes, each with zeros in place of those behind it
word_check : (word : ℕ)
    → bit_xor (bit_xor (bit_xor (bit_xor (bit_xor (bit_xor (bit_xor (byte_check 56 (word / 2 ^ 56)) (byte_check 48 (word / 2 ^ 48 % 256))) (byte_check 40 (word / 2 ^ 40 % 256)))
    (byte_check 32 (word / 2 ^ 32 % 256))) (byte_check 24 (word / 2 ^ 24 % 256))) (byte_check 16 (word / 2 ^ 16 % 256))) (byte_check 8 (word / 2 ^ 8 % 256))) (byte_check 0 (word % 256))
    ≡ number (remainder frame_divisor (bits_in 64 word))
word_check word =
    let e0 : ℕ = byte_check 0 (word % 256) in
    let e1 : ℕ = byte_check 8 (word / 2 ^ 8 % 256) in
    let e2 : ℕ = byte_check 16 (word / 2 ^ 16 % 256) in
    let e3 : ℕ = byte_check 24 (word / 2 ^ 24 % 256) in
    let e4 : ℕ = byte_check 32 (word / 2 ^ 32 % 256) in
    let e5 : ℕ = byte_check 40 (word / 2 ^ 40 % 256) in
    let e6 : ℕ = byte_check 48 (word / 2 ^ 48 % 256) in
    let start : word ≡ word / 2 ^ 0 = omega arith in
    sym (sym (front_whole word)
    ∙ step_at 56 0 word word start ∙ ap (λ (n : ℕ). bit_xor (front_check 56 8 (word / 2 ^ 8)) (byte_check 0 (n % 256))) (sym start)
    ∙ ap (λ (n : ℕ). bit_xor n e0) (step_at 48 8 word (word / 2 ^ 8) refl
    ∙ ap (λ (n : ℕ). bit_xor n e1) (step_at 40 16 word (word / 2 ^ 16) refl
    ∙ ap (λ (n : ℕ). bit_xor n e2) (step_at 32 24 word (word / 2 ^ 24) refl
    ∙ ap (λ (n : ℕ). bit_xor n e3) (step_at 24 32 word (word / 2 ^ 32) refl
    ∙ ap (λ (n : ℕ). bit_xor n e4) (step_at 16 40 word (word / 2 ^ 40) refl
    ∙ ap (λ (n : ℕ). bit_xor n e5) (step_at 8 48 word (word / 2 ^ 48) refl
    ∙ ap (λ (n : ℕ). bit_xor n e6) (front_one 56 (word / 2 ^ 56)))))))))

both : (a b c d : ℕ) → a ≡ c → b ≡ d → bit_xor a b ≡ bit_xor c d
both a b c d first second = ap (λ (n : ℕ). bit_xor n b) first ∙ ap (bit_xor c) second

-- the same, by entries of the tables
word_entries : (word e7 e6 e5 e4 e3 e2 e1 e0 : ℕ) → e7 ≡ byte_check 56 (word / 2 ^ 56) → e6 ≡ byte_check 48 (word / 2 ^ 48 % 256) → e5 ≡ byte_check 40 (word / 2 ^ 40 % 256)
    → e4 ≡ byte_check 32 (word / 2 ^ 32 % 256) → e3 ≡ byte_check 24 (word / 2 ^ 24 % 256) → e2 ≡ byte_check 16 (word / 2 ^ 16 % 256) → e1 ≡ byte_check 8 (word / 2 ^ 8 % 256)
    → e0 ≡ byte_check 0 (word % 256)
    → bit_xor (bit_xor (bit_xor (bit_xor (bit_xor (bit_xor (bit_xor e7 e6) e5) e4) e3) e2) e1) e0 ≡ number (remainder frame_divisor (bits_in 64 word))
word_entries word e7 e6 e5 e4 e3 e2 e1 e0 is_7 is_6 is_5 is_4 is_3 is_2 is_1 is_0 =
    both _ _ _ _ (both _ _ _ _ (both _ _ _ _ (both _ _ _ _ (both _ _ _ _ (both _ _ _ _ (both _ _ _ _ is_7 is_6) is_5) is_4) is_3) is_2) is_1) is_0 ∙ word_check word

-- the front of a word with a check above it
word_front : (check word : ℕ) → bit_xor (check * 2 ^ 48) word / 2 ^ 48 ≡ bit_xor check (word / 2 ^ 48)
word_front check word = xor_shr (check * 2 ^ 48) word 48 ∙ ap (λ (n : ℕ). bit_xor n (word / 2 ^ 48)) (shl-shr check 48)

word_first : (check word : ℕ) → bit_xor (check * 2 ^ 48) word / 2 ^ 56 ≡ bit_xor check (word / 2 ^ 48) / 2 ^ 8
word_first check word = sym (shr-shr (bit_xor (check * 2 ^ 48) word) 48 8) ∙ ap (λ (n : ℕ). n / 2 ^ 8) (word_front check word)

-- the other bytes of the word know nothing of the check
word_byte : (check word shift : ℕ) → check * 2 ^ 48 / 2 ^ shift % 2 ^ 8 ≡ 0 → bit_xor (check * 2 ^ 48) word / 2 ^ shift % 256 ≡ word / 2 ^ shift % 256
word_byte check word shift none =
    ap (λ (n : ℕ). n % 256) (xor_shr (check * 2 ^ 48) word shift) ∙ xor_mod (check * 2 ^ 48 / 2 ^ shift) (word / 2 ^ shift) 8
    ∙ ap (λ (n : ℕ). bit_xor n (word / 2 ^ shift % 2 ^ 8)) none ∙ xor_zero_l (word / 2 ^ shift % 2 ^ 8)

regrouped : (a f e d c b g : ℕ) → bit_xor a (bit_xor (bit_xor (bit_xor (bit_xor (bit_xor f e) d) c) b) g) ≡ bit_xor (bit_xor (bit_xor (bit_xor (bit_xor (bit_xor a f) e) d) c) b) g
regrouped a f e d c b g =
    sym (xor_assoc a (bit_xor (bit_xor (bit_xor (bit_xor f e) d) c) b) g)
    ∙ ap (λ (n : ℕ). bit_xor n g) (sym (xor_assoc a (bit_xor (bit_xor (bit_xor f e) d) c) b)
    ∙ ap (λ (n : ℕ). bit_xor n b) (sym (xor_assoc a (bit_xor (bit_xor f e) d) c)
    ∙ ap (λ (n : ℕ). bit_xor n c) (sym (xor_assoc a (bit_xor f e) d)
    ∙ ap (λ (n : ℕ). bit_xor n d) (sym (xor_assoc a f e)))))

-- the check after a word, by entries of the tables
crc16_entries : (before next : List ℕ) (check word high e7 e6 e5 e4 e3 e2 e1 e0 : ℕ) → length next ≡ 8 → word ≡ number (bits next) → check ≡ crc16 before
    → high ≡ bit_xor check (word / 2 ^ 48)
    → e7 ≡ byte_check 56 (high / 2 ^ 8) → e6 ≡ byte_check 48 (high % 256) → e5 ≡ byte_check 40 (word / 2 ^ 40 % 256)
    → e4 ≡ byte_check 32 (word / 2 ^ 32 % 256) → e3 ≡ byte_check 24 (word / 2 ^ 24 % 256) → e2 ≡ byte_check 16 (word / 2 ^ 16 % 256) → e1 ≡ byte_check 8 (word / 2 ^ 8 % 256)
    → e0 ≡ byte_check 0 (word % 256)
    → bit_xor (bit_xor e7 e6) (bit_xor (bit_xor (bit_xor (bit_xor (bit_xor e5 e4) e3) e2) e1) e0) ≡ crc16 (before ++ next)
crc16_entries before next check word high e7 e6 e5 e4 e3 e2 e1 e0 size is_word is is_high is_7 is_6 is_5 is_4 is_3 is_2 is_1 is_0 =
    let whole : ℕ = bit_xor (check * 2 ^ 48) word in
    let first : high / 2 ^ 8 ≡ whole / 2 ^ 56 = ap (λ (n : ℕ). n / 2 ^ 8) is_high ∙ sym (word_first check word) in
    let second : high % 256 ≡ whole / 2 ^ 48 % 256 = ap (λ (n : ℕ). n % 256) (is_high ∙ sym (word_front check word)) in
    let same_0 : whole % 256 ≡ word % 256 =
    (let start : whole ≡ whole / 2 ^ 0 = omega arith in let end : word / 2 ^ 0 ≡ word = omega arith in
    ap (λ (n : ℕ). n % 256) start ∙ word_byte check word 0 (omega arith) ∙ ap (λ (n : ℕ). n % 256) end) in
    regrouped (bit_xor e7 e6) e5 e4 e3 e2 e1 e0
    ∙ word_entries whole e7 e6 e5 e4 e3 e2 e1 e0 (is_7 ∙ ap (byte_check 56) first) (is_6 ∙ ap (byte_check 48) second)
    (is_5 ∙ ap (byte_check 40) (sym (word_byte check word 40 (omega arith)))) (is_4 ∙ ap (byte_check 32) (sym (word_byte check word 32 (omega arith))))
    (is_3 ∙ ap (byte_check 24) (sym (word_byte check word 24 (omega arith)))) (is_2 ∙ ap (byte_check 16) (sym (word_byte check word 16 (omega arith))))
    (is_1 ∙ ap (byte_check 8) (sym (word_byte check word 8 (omega arith)))) (is_0 ∙ ap (byte_check 0) (sym same_0))
    ∙ crc16_word before next check word size is_word is

-- the check after eight bytes, by entries of the tables
pub crc16_bytes : (before : List ℕ) (check : ℕ) (b : ℕ → ℕ) (e7 e6 e5 e4 e3 e2 e1 e0 : ℕ) → ((i : ℕ) → b i < 256) → check ≡ crc16 before
    → e7 ≡ byte_check 56 (bit_xor (check / 256) (b 0)) → e6 ≡ byte_check 48 (bit_xor (check % 256) (b 1)) → e5 ≡ byte_check 40 (b 2) → e4 ≡ byte_check 32 (b 3)
    → e3 ≡ byte_check 24 (b 4) → e2 ≡ byte_check 16 (b 5) → e1 ≡ byte_check 8 (b 6) → e0 ≡ byte_check 0 (b 7)
    → bit_xor (bit_xor e7 e6) (bit_xor (bit_xor (bit_xor (bit_xor (bit_xor e5 e4) e3) e2) e1) e0)
    ≡ crc16 (before ++ b 0 ∷ b 1 ∷ b 2 ∷ b 3 ∷ b 4 ∷ b 5 ∷ b 6 ∷ b 7 ∷ [])
crc16_bytes before check b e7 e6 e5 e4 e3 e2 e1 e0 bytes is is_7 is_6 is_5 is_4 is_3 is_2 is_1 is_0 =
    let next : List ℕ = b 0 ∷ b 1 ∷ b 2 ∷ b 3 ∷ b 4 ∷ b 5 ∷ b 6 ∷ b 7 ∷ [] in
    let word : ℕ = number (bits next) in
    let high : ℕ = bit_xor check (word / 2 ^ 48) in
    let sum = eight (b 0) (b 1) (b 2) (b 3) (b 4) (b 5) (b 6) (b 7) (bytes 0) (bytes 1) (bytes 2) (bytes 3) (bytes 4) (bytes 5) (bytes 6) (bytes 7) in
    let b0 = bytes 0 in let b1 = bytes 1 in let b2 = bytes 2 in let b3 = bytes 3 in let b4 = bytes 4 in let b5 = bytes 5 in let b6 = bytes 6 in let b7 = bytes 7 in
    let top : word / 2 ^ 48 / 2 ^ 8 ≡ b 0 = omega arith in
    let next_top : word / 2 ^ 48 % 2 ^ 8 ≡ b 1 = omega arith in
    let at_5 : b 2 ≡ word / 2 ^ 40 % 256 = omega arith in
    let at_4 : b 3 ≡ word / 2 ^ 32 % 256 = omega arith in
    let at_3 : b 4 ≡ word / 2 ^ 24 % 256 = omega arith in
    let at_2 : b 5 ≡ word / 2 ^ 16 % 256 = omega arith in
    let at_1 : b 6 ≡ word / 2 ^ 8 % 256 = omega arith in
    let at_0 : b 7 ≡ word % 256 = omega arith in
    let first : bit_xor (check / 256) (b 0) ≡ high / 2 ^ 8 = sym (xor_shr check (word / 2 ^ 48) 8 ∙ ap (bit_xor (check / 2 ^ 8)) top) in
    let second : bit_xor (check % 256) (b 1) ≡ high % 256 = sym (xor_mod check (word / 2 ^ 48) 8 ∙ ap (bit_xor (check % 2 ^ 8)) next_top) in
    crc16_entries before next check word high e7 e6 e5 e4 e3 e2 e1 e0 refl refl is refl
    (is_7 ∙ ap (byte_check 56) first) (is_6 ∙ ap (byte_check 48) second) (is_5 ∙ ap (byte_check 40) at_5) (is_4 ∙ ap (byte_check 32) at_4)
    (is_3 ∙ ap (byte_check 24) at_3) (is_2 ∙ ap (byte_check 16) at_2) (is_1 ∙ ap (byte_check 8) at_1) (is_0 ∙ ap (byte_check 0) at_0)

pub byte_check_below : (behind byte : ℕ) → byte_check behind byte < 65536
byte_check_below behind byte =
    let left : List Bool = remainder frame_divisor (bits_in 8 byte ++ replicate behind false) in
    let size : length left ≡ 16 = length-remainder frame_divisor (bits_in 8 byte ++ replicate behind false) ∙ frame_size in
    let P : ℕ → Type 0 = λ k. number left < 2 ^ k in subst P size (number-below left)

zero_bits : bits_in 8 0 ≡ replicate 8 false
unfolding bits_in
zero_bits = refl

-- with eight zeros more behind the byte
pub byte_check_next : (behind byte : ℕ)
    → byte_check (behind + 8) byte ≡ bit_xor (number (remainder frame_divisor (bits_in 8 (byte_check behind byte / 256)))) (byte_check behind byte % 256 * 256)
byte_check_next behind byte =
    let check : ℕ = byte_check behind byte in
    let message : List Bool = bits_in 8 byte ++ replicate behind false in
    let longer : bits_in 8 byte ++ replicate (behind + 8) false ≡ message ++ bits_in 8 0 =
    ap (λ (xs : List Bool). bits_in 8 byte ++ xs) (sym (replicate-append-replicate behind 8 false) ∙ ap (λ (xs : List Bool). replicate behind false ++ xs) (sym zero_bits))
    ∙ sym (append_assoc (bits_in 8 byte) (replicate behind false) (bits_in 8 0)) in
    ap (λ (xs : List Bool). number (remainder frame_divisor xs)) longer
    ∙ check_byte message check 0 (byte_check_below behind byte) (omega arith) refl
    ∙ ap (λ (n : ℕ). bit_xor (number (remainder frame_divisor (bits_in 8 n))) (check % 256 * 256)) (xor_zero_r (check / 256))

-- ---- steps of the loops

pub crc8_step : (bytes : List ℕ) (place check next : ℕ) → place < length bytes → check < 256 → get_or bytes place 0 < 256 → check ≡ crc8 (take place bytes)
    → next ≡ number (remainder header_divisor (bits_in 8 (bit_xor check (get_or bytes place 0)))) → next ≡ crc8 (take (place + 1) bytes)
crc8_step bytes place check next within small below is is_next =
    is_next ∙ crc8_more (take place bytes) check (get_or bytes place 0) small below is ∙ ap crc8 (sym (take_more bytes place 0 within))

pub crc16_step : (front bytes : List ℕ) (place check next : ℕ) → place < length bytes → check ≡ crc16 (front ++ take place bytes)
    → ((before : List ℕ) → check ≡ crc16 before → next ≡ crc16 (before ++ get_or bytes place 0 ∷ [])) → next ≡ crc16 (front ++ take (place + 1) bytes)
crc16_step front bytes place check next within is after =
    after (front ++ take place bytes) is
    ∙ ap crc16 (append_assoc front (take place bytes) (get_or bytes place 0 ∷ []) ∙ ap (λ (xs : List ℕ). front ++ xs) (sym (take_more bytes place 0 within)))

pub crc16_start : (front : List ℕ) (check : ℕ) → check ≡ crc16 front → check ≡ crc16 (front ++ [])
crc16_start front check is = is ∙ ap crc16 (sym (append-nil front))

pub crc16_whole : (bytes back : List ℕ) (whole check : ℕ) → back ≡ drop whole bytes → check ≡ crc16 (take whole bytes ++ back) → check ≡ crc16 bytes
crc16_whole bytes back whole check is_back is =
    is ∙ ap (λ (xs : List ℕ). crc16 (take whole bytes ++ xs)) is_back ∙ ap crc16 (take-append-drop whole bytes)

pub eights_step : (bytes rest : List ℕ) (place check next : ℕ) → rest ≡ drop (8 * place) bytes → check ≡ crc16 (take (8 * place) bytes)
    → ((before : List ℕ) → check ≡ crc16 before → next ≡ crc16 (before ++ take 8 rest)) → next ≡ crc16 (take (8 * (place + 1)) bytes)
eights_step bytes rest place check next is_rest is goes =
    let more : 8 * (place + 1) ≡ 8 * place + 8 = omega arith in
    goes (take (8 * place) bytes) is
    ∙ ap (λ (xs : List ℕ). crc16 (take (8 * place) bytes ++ take 8 xs)) is_rest
    ∙ ap crc16 (sym (take-add (8 * place) 8 bytes) ∙ ap (λ (k : ℕ). take k bytes) (sym more))
