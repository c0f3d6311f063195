-- Lemmas on remainders of polynomials.
use Rattle.std.proofs.Common.{◌≡◌, ◌≤◌, ◌<◌, ◌+◌, ◌-◌, ◌*◌, ◌^◌, ℕ, zero, suc, Bool, true, false, not, List, [], ◌∷◌, ◌++◌, length, take, drop, replicate, zero-add, length-append, append_assoc, refl, sym, ap, ◌∙◌, arith}
use Rattle.std.specs.Int.Bits.{bit_xor}
use Rattle.std.proofs.lemmas.List.{length-replicate, replicate-append-replicate, take-append-drop, length-take-le}
use Rattle.std.proofs.lemmas.Nat.{xor_block}
use Rattle.file_model.specs.Bits.{bits, number}
use Rattle.file_model.specs.Crc.{less, divided, remainder}
use Rattle.file_model.proofs.BitsLemmas.{number-below}

-- ---- polynomials of as many coefficients

pub length-less : (ones bits : List Bool) → length (less ones bits) ≡ length bits
unfolding less
length-less [] bits = refl
length-less (one ∷ ones) [] = refl
length-less (true ∷ ones) (bit ∷ bits) = ap suc (length-less ones bits)
length-less (false ∷ ones) (bit ∷ bits) = ap suc (length-less ones bits)

-- three ways in which taking away goes together with taking away
less_first : (p t u : List Bool) → length t ≡ length u → less p (less t u) ≡ less (less p t) u
unfolding less
less_first [] t u same = refl
less_first (one ∷ p) [] [] same = refl
less_first (one ∷ p) [] (bit ∷ u) same = absurd (omega arith)
less_first (one ∷ p) (bit ∷ t) [] same = absurd (omega arith)
less_first (true ∷ p) (true ∷ t) (true ∷ u) same = ap (λ (xs : List Bool). true ∷ xs) (less_first p t u (omega arith))
less_first (true ∷ p) (true ∷ t) (false ∷ u) same = ap (λ (xs : List Bool). false ∷ xs) (less_first p t u (omega arith))
less_first (true ∷ p) (false ∷ t) (true ∷ u) same = ap (λ (xs : List Bool). false ∷ xs) (less_first p t u (omega arith))
less_first (true ∷ p) (false ∷ t) (false ∷ u) same = ap (λ (xs : List Bool). true ∷ xs) (less_first p t u (omega arith))
less_first (false ∷ p) (true ∷ t) (true ∷ u) same = ap (λ (xs : List Bool). false ∷ xs) (less_first p t u (omega arith))
less_first (false ∷ p) (true ∷ t) (false ∷ u) same = ap (λ (xs : List Bool). true ∷ xs) (less_first p t u (omega arith))
less_first (false ∷ p) (false ∷ t) (true ∷ u) same = ap (λ (xs : List Bool). true ∷ xs) (less_first p t u (omega arith))
less_first (false ∷ p) (false ∷ t) (false ∷ u) same = ap (λ (xs : List Bool). false ∷ xs) (less_first p t u (omega arith))

less_second : (p t u : List Bool) → length t ≡ length u → less p (less t u) ≡ less t (less p u)
unfolding less
less_second [] t u same = refl
less_second (one ∷ p) [] [] same = refl
less_second (one ∷ p) [] (bit ∷ u) same = absurd (omega arith)
less_second (one ∷ p) (bit ∷ t) [] same = absurd (omega arith)
less_second (true ∷ p) (true ∷ t) (true ∷ u) same = ap (λ (xs : List Bool). true ∷ xs) (less_second p t u (omega arith))
less_second (true ∷ p) (true ∷ t) (false ∷ u) same = ap (λ (xs : List Bool). false ∷ xs) (less_second p t u (omega arith))
less_second (true ∷ p) (false ∷ t) (true ∷ u) same = ap (λ (xs : List Bool). false ∷ xs) (less_second p t u (omega arith))
less_second (true ∷ p) (false ∷ t) (false ∷ u) same = ap (λ (xs : List Bool). true ∷ xs) (less_second p t u (omega arith))
less_second (false ∷ p) (true ∷ t) (true ∷ u) same = ap (λ (xs : List Bool). false ∷ xs) (less_second p t u (omega arith))
less_second (false ∷ p) (true ∷ t) (false ∷ u) same = ap (λ (xs : List Bool). true ∷ xs) (less_second p t u (omega arith))
less_second (false ∷ p) (false ∷ t) (true ∷ u) same = ap (λ (xs : List Bool). true ∷ xs) (less_second p t u (omega arith))
less_second (false ∷ p) (false ∷ t) (false ∷ u) same = ap (λ (xs : List Bool). false ∷ xs) (less_second p t u (omega arith))

less_both : (p t u : List Bool) → length t ≡ length u → less t u ≡ less (less p t) (less p u)
unfolding less
less_both [] t u same = refl
less_both (one ∷ p) [] [] same = refl
less_both (one ∷ p) [] (bit ∷ u) same = absurd (omega arith)
less_both (one ∷ p) (bit ∷ t) [] same = absurd (omega arith)
less_both (true ∷ p) (true ∷ t) (true ∷ u) same = ap (λ (xs : List Bool). false ∷ xs) (less_both p t u (omega arith))
less_both (true ∷ p) (true ∷ t) (false ∷ u) same = ap (λ (xs : List Bool). true ∷ xs) (less_both p t u (omega arith))
less_both (true ∷ p) (false ∷ t) (true ∷ u) same = ap (λ (xs : List Bool). true ∷ xs) (less_both p t u (omega arith))
less_both (true ∷ p) (false ∷ t) (false ∷ u) same = ap (λ (xs : List Bool). false ∷ xs) (less_both p t u (omega arith))
less_both (false ∷ p) (true ∷ t) (true ∷ u) same = ap (λ (xs : List Bool). false ∷ xs) (less_both p t u (omega arith))
less_both (false ∷ p) (true ∷ t) (false ∷ u) same = ap (λ (xs : List Bool). true ∷ xs) (less_both p t u (omega arith))
less_both (false ∷ p) (false ∷ t) (true ∷ u) same = ap (λ (xs : List Bool). true ∷ xs) (less_both p t u (omega arith))
less_both (false ∷ p) (false ∷ t) (false ∷ u) same = ap (λ (xs : List Bool). false ∷ xs) (less_both p t u (omega arith))

-- what stands behind is not touched
less-append : (ones bits more : List Bool) → length ones ≤ length bits → less ones (bits ++ more) ≡ less ones bits ++ more
unfolding less
less-append [] bits more within = refl
less-append (one ∷ ones) [] more within = absurd (omega arith)
less-append (true ∷ ones) (bit ∷ bits) more within = ap (λ (xs : List Bool). not bit ∷ xs) (less-append ones bits more (omega arith))
less-append (false ∷ ones) (bit ∷ bits) more within = ap (λ (xs : List Bool). bit ∷ xs) (less-append ones bits more (omega arith))

less-append-both : (a b c d : List Bool) → length a ≡ length b → less (a ++ c) (b ++ d) ≡ less a b ++ less c d
unfolding less
less-append-both [] [] c d same = refl
less-append-both [] (bit ∷ b) c d same = absurd (omega arith)
less-append-both (one ∷ a) [] c d same = absurd (omega arith)
less-append-both (true ∷ a) (bit ∷ b) c d same = ap (λ (xs : List Bool). not bit ∷ xs) (less-append-both a b c d (omega arith))
less-append-both (false ∷ a) (bit ∷ b) c d same = ap (λ (xs : List Bool). bit ∷ xs) (less-append-both a b c d (omega arith))

-- nothing, taken away
less-zeros : (count : ℕ) (bits : List Bool) → less (replicate count false) bits ≡ bits
unfolding less
less-zeros zero bits = refl
less-zeros (suc count) [] = refl
less-zeros (suc count) (bit ∷ bits) = ap (λ (xs : List Bool). bit ∷ xs) (less-zeros count bits)

-- taken away from nothing
less-from-zeros : (bits : List Bool) → less bits (replicate (length bits) false) ≡ bits
unfolding less
less-from-zeros [] = refl
less-from-zeros (true ∷ bits) = ap (λ (xs : List Bool). true ∷ xs) (less-from-zeros bits)
less-from-zeros (false ∷ bits) = ap (λ (xs : List Bool). false ∷ xs) (less-from-zeros bits)

-- zeros behind what is taken away do nothing
pub less-longer : (ones bits : List Bool) (count : ℕ) → less (ones ++ replicate count false) bits ≡ less ones bits
unfolding less
less-longer [] bits count = less-zeros count bits
less-longer (one ∷ ones) [] count = refl
less-longer (true ∷ ones) (bit ∷ bits) count = ap (λ (xs : List Bool). not bit ∷ xs) (less-longer ones bits count)
less-longer (false ∷ ones) (bit ∷ bits) count = ap (λ (xs : List Bool). bit ∷ xs) (less-longer ones bits count)

-- two parts of a message, each with nothing in place of the other
split_less : (xs ys : List Bool) → xs ++ ys ≡ less (xs ++ replicate (length ys) false) (replicate (length xs) false ++ ys)
split_less xs ys =
    sym (less-append-both xs (replicate (length xs) false) (replicate (length ys) false) ys (sym (length-replicate (length xs) false))
    ∙ ap (λ (front : List Bool). front ++ less (replicate (length ys) false) ys) (less-from-zeros xs)
    ∙ ap (λ (back : List Bool). xs ++ back) (less-zeros (length ys) ys))

-- ---- steps of the division

divided-nil : (steps : ℕ) (p : List Bool) → divided steps p [] ≡ []
unfolding divided
divided-nil zero p = refl
divided-nil (suc steps) p = refl

-- the division of a difference
divided-less : (steps : ℕ) (p a b : List Bool) → length a ≡ length b → divided steps p (less a b) ≡ less (divided steps p a) (divided steps p b)
unfolding less divided
divided-less zero p a b same = refl
divided-less (suc steps) p [] [] same = refl
divided-less (suc steps) p [] (bit ∷ b) same = absurd (omega arith)
divided-less (suc steps) p (one ∷ a) [] same = absurd (omega arith)
divided-less (suc steps) p (true ∷ a) (true ∷ b) same =
    ap (divided steps p) (less_both p a b (omega arith))
    ∙ divided-less steps p (less p a) (less p b) (let first = length-less p a in let second = length-less p b in omega arith)
divided-less (suc steps) p (true ∷ a) (false ∷ b) same =
    ap (divided steps p) (less_first p a b (omega arith)) ∙ divided-less steps p (less p a) b (let first = length-less p a in omega arith)
divided-less (suc steps) p (false ∷ a) (true ∷ b) same =
    ap (divided steps p) (less_second p a b (omega arith)) ∙ divided-less steps p a (less p b) (let second = length-less p b in omega arith)
divided-less (suc steps) p (false ∷ a) (false ∷ b) same = divided-less steps p a b (omega arith)

-- zeros in front fall away
divided-zeros : (steps : ℕ) (p bits : List Bool) → divided steps p (replicate steps false ++ bits) ≡ bits
unfolding divided
divided-zeros zero p bits = refl
divided-zeros (suc steps) p bits = divided-zeros steps p bits

divided-add : (m n : ℕ) (p bits : List Bool) → divided (m + n) p bits ≡ divided n p (divided m p bits)
unfolding divided
divided-add zero n p bits = ap (λ (k : ℕ). divided k p bits) (zero-add n)
divided-add (suc m) n p [] = divided-nil (suc m + n) p ∙ sym (divided-nil n p)
divided-add (suc m) n p (true ∷ bits) =
    ap (λ (k : ℕ). divided k p (true ∷ bits)) (let same : suc m + n ≡ suc (m + n) = omega arith in same) ∙ divided-add m n p (less p bits)
divided-add (suc m) n p (false ∷ bits) =
    ap (λ (k : ℕ). divided k p (false ∷ bits)) (let same : suc m + n ≡ suc (m + n) = omega arith in same) ∙ divided-add m n p bits

-- the division does not reach what stands far behind
divided-append : (steps : ℕ) (p bits more : List Bool) → steps + length p ≤ length bits → divided steps p (bits ++ more) ≡ divided steps p bits ++ more
unfolding divided
divided-append zero p bits more within = refl
divided-append (suc steps) p [] more within = absurd (omega arith)
divided-append (suc steps) p (true ∷ bits) more within =
    ap (divided steps p) (less-append p bits more (omega arith))
    ∙ divided-append steps p (less p bits) more (let size = length-less p bits in omega arith)
divided-append (suc steps) p (false ∷ bits) more within = divided-append steps p bits more (omega arith)

length-divided : (steps : ℕ) (p bits : List Bool) → length (divided steps p bits) ≡ length bits - steps
unfolding divided
length-divided zero p bits = omega arith
length-divided (suc steps) p [] = omega arith
length-divided (suc steps) p (true ∷ bits) = let rest = length-divided steps p (less p bits) in let size = length-less p bits in omega arith
length-divided (suc steps) p (false ∷ bits) = let rest = length-divided steps p bits in omega arith

-- ---- remainders

pub length-remainder : (p message : List Bool) → length (remainder p message) ≡ length p
unfolding remainder
length-remainder p message =
    let zeros = length-replicate (length p) false in
    let whole = length-append message (replicate (length p) false) in
    length-divided (length message) p (message ++ replicate (length p) false) ∙ (omega arith)

-- zeros before a message do nothing
pub remainder-zeros : (count : ℕ) (p message : List Bool) → remainder p (replicate count false ++ message) ≡ remainder p message
unfolding remainder
remainder-zeros count p message =
    let size : length (replicate count false ++ message) ≡ count + length message = length-append (replicate count false) message ∙ ap (λ (k : ℕ). k + length message) (length-replicate count false) in
    let tail : List Bool = replicate (length p) false in
    ap (λ (k : ℕ). divided k p ((replicate count false ++ message) ++ tail)) size
    ∙ ap (divided (count + length message) p) (append_assoc (replicate count false) message tail)
    ∙ divided-add count (length message) p (replicate count false ++ (message ++ tail))
    ∙ ap (divided (length message) p) (divided-zeros count p (message ++ tail))

pub remainder-less : (p a b : List Bool) → length a ≡ length b → remainder p (less a b) ≡ less (remainder p a) (remainder p b)
unfolding remainder
remainder-less p a b same =
    let tail : List Bool = replicate (length p) false in
    let padded : less a b ++ tail ≡ less (a ++ tail) (b ++ tail) =
    sym (less-append-both a b tail tail same ∙ ap (λ (back : List Bool). less a b ++ back) (less-zeros (length p) tail)) in
    let sizes : length (a ++ tail) ≡ length (b ++ tail) = (let one = length-append a tail in let other = length-append b tail in omega arith) in
    ap (λ (k : ℕ). divided k p (less a b ++ tail)) (length-less a b) ∙ ap (divided (length b) p) padded
    ∙ divided-less (length b) p (a ++ tail) (b ++ tail) sizes
    ∙ ap (λ (k : ℕ). less (divided k p (a ++ tail)) (divided (length b) p (b ++ tail))) (sym same)

-- the division of a message with more behind it
divided_front : (p message more : List Bool) → length p ≤ length more → divided (length message) p (message ++ more) ≡ less (remainder p message) more
unfolding remainder
divided_front p message more enough =
    let near : List Bool = take (length p) more in
    let far : List Bool = drop (length p) more in
    let near_size : length near ≡ length p = length-take-le (length p) more enough in
    let zeros : List Bool = replicate (length message) false in
    let padded : message ++ near ≡ less (message ++ replicate (length p) false) (zeros ++ near) =
    split_less message near ∙ ap (λ (k : ℕ). less (message ++ replicate k false) (zeros ++ near)) near_size in
    let sizes : length (message ++ replicate (length p) false) ≡ length (zeros ++ near) =
    (let one = length-append message (replicate (length p) false) in let two = length-append zeros near in
    let three = length-replicate (length p) false in let four = length-replicate (length message) false in omega arith) in
    let reached : length message + length p ≤ length (message ++ near) = (let size = length-append message near in omega arith) in
    let left : length (remainder p message) ≤ length near = (let size = length-remainder p message in omega arith) in
    ap (λ (back : List Bool). divided (length message) p (message ++ back)) (sym (take-append-drop (length p) more))
    ∙ ap (divided (length message) p) (sym (append_assoc message near far))
    ∙ divided-append (length message) p (message ++ near) far reached
    ∙ ap (λ (xs : List Bool). xs ++ far) (ap (divided (length message) p) padded
    ∙ divided-less (length message) p (message ++ replicate (length p) false) (zeros ++ near) sizes
    ∙ ap (less (remainder p message)) (divided-zeros (length message) p near))
    ∙ sym (less-append (remainder p message) near far left)
    ∙ ap (less (remainder p message)) (take-append-drop (length p) more)

divided_two : (p one two : List Bool) → remainder p (one ++ two) ≡ divided (length two) p (less (remainder p one) (two ++ replicate (length p) false))
unfolding remainder
divided_two p one two =
    let tail : List Bool = replicate (length p) false in
    let enough : length p ≤ length (two ++ tail) = (let whole = length-append two tail in let size = length-replicate (length p) false in omega arith) in
    ap (λ (k : ℕ). divided k p ((one ++ two) ++ tail)) (length-append one two)
    ∙ ap (divided (length one + length two) p) (append_assoc one two tail)
    ∙ divided-add (length one) (length two) p (one ++ (two ++ tail))
    ∙ ap (divided (length two) p) (divided_front p one (two ++ tail) enough)

-- A message goes on with at least as many bits as the remainder has.
pub remainder-append : (p one two : List Bool) → length p ≤ length two → remainder p (one ++ two) ≡ remainder p (less (remainder p one) two)
unfolding remainder
remainder-append p one two enough =
    let left : length (remainder p one) ≤ length two = (let size = length-remainder p one in omega arith) in
    divided_two p one two
    ∙ ap (divided (length two) p) (less-append (remainder p one) two (replicate (length p) false) left)
    ∙ ap (λ (k : ℕ). divided k p (less (remainder p one) two ++ replicate (length p) false)) (sym (length-less (remainder p one) two))

-- A message goes on with fewer bits: the remainder's high ones go with them, its low ones move up.
pub remainder-append-short : (p one two high low : List Bool) → remainder p one ≡ high ++ low → length high ≡ length two
    → remainder p (one ++ two) ≡ less (remainder p (less high two)) (low ++ replicate (length two) false)
remainder-append-short p one two high low is same =
    let size : length high + length low ≡ length p = (let whole = length-append high low in let parts = ap length is in let all = length-remainder p one in omega arith) in
    let zeros : replicate (length p) false ≡ replicate (length low) false ++ replicate (length two) false =
    ap (λ (k : ℕ). replicate k false) (let sum : length p ≡ length low + length two = omega arith in sum) ∙ sym (replicate-append-replicate (length low) (length two) false) in
    let moved : less (high ++ low) (two ++ replicate (length p) false) ≡ less high two ++ (low ++ replicate (length two) false) =
    less-append-both high two low (replicate (length p) false) same
    ∙ ap (λ (back : List Bool). less high two ++ less low back) zeros
    ∙ ap (λ (back : List Bool). less high two ++ back)
    (less-append low (replicate (length low) false) (replicate (length two) false) (let all = length-replicate (length low) false in omega arith)
    ∙ ap (λ (xs : List Bool). xs ++ replicate (length two) false) (less-from-zeros low)) in
    let enough : length p ≤ length (low ++ replicate (length two) false) =
    (let whole = length-append low (replicate (length two) false) in let all = length-replicate (length two) false in omega arith) in
    divided_two p one two
    ∙ ap (λ (xs : List Bool). divided (length two) p (less xs (two ++ replicate (length p) false))) is
    ∙ ap (divided (length two) p) moved
    ∙ ap (λ (k : ℕ). divided k p (less high two ++ (low ++ replicate (length two) false))) (sym (length-less high two))
    ∙ divided_front p (less high two) (low ++ replicate (length two) false) enough

-- A message by its two parts.
pub remainder-split : (p one two : List Bool) → remainder p (one ++ two) ≡ less (remainder p (one ++ replicate (length two) false)) (remainder p two)
remainder-split p one two =
    let sizes : length (one ++ replicate (length two) false) ≡ length (replicate (length one) false ++ two) =
    (let first = length-append one (replicate (length two) false) in let second = length-append (replicate (length one) false) two in
    let third = length-replicate (length two) false in let fourth = length-replicate (length one) false in omega arith) in
    ap (remainder p) (split_less one two)
    ∙ remainder-less p (one ++ replicate (length two) false) (replicate (length one) false ++ two) sizes
    ∙ ap (less (remainder p (one ++ replicate (length two) false))) (remainder-zeros (length one) p two)

-- ---- as numbers

-- one coefficient more
worth : (v p t less_power power_a power_b low_a low_b low : ℕ) → bit_xor p t ≡ v → less_power ≡ power_b → power_a ≡ power_b → low ≡ bit_xor low_a low_b
    → bit_xor (p * power_b + low_a) (t * power_b + low_b) ≡ bit_xor p t * power_b + bit_xor low_a low_b
    → v * less_power + low ≡ bit_xor (p * power_a + low_a) (t * power_b + low_b)
worth v p t less_power power_a power_b low_a low_b low is_v same_less same_a is_low block =
    ap (λ (k : ℕ). v * k + low) same_less ∙ ap (λ (n : ℕ). v * power_b + n) is_low ∙ ap (λ (n : ℕ). n * power_b + bit_xor low_a low_b) (sym is_v)
    ∙ sym block ∙ ap (λ (k : ℕ). bit_xor (p * k + low_a) (t * power_b + low_b)) (sym same_a)

number_true : (bits : List Bool) → number (true ∷ bits) ≡ 1 * 2 ^ length bits + number bits
unfolding number
number_true bits = omega arith

number_false : (bits : List Bool) → number (false ∷ bits) ≡ 0 * 2 ^ length bits + number bits
unfolding number
number_false bits = omega arith

nothing_less : number [] ≡ bit_xor (number []) (number [])
unfolding number
nothing_less = refl

pub number-less : (a b : List Bool) → length a ≡ length b → number (less a b) ≡ bit_xor (number a) (number b)
unfolding less
number-less [] [] same = nothing_less
number-less [] (bit ∷ b) same = absurd (omega arith)
number-less (one ∷ a) [] same = absurd (omega arith)
number-less (true ∷ a) (true ∷ b) same =
    let size : length a ≡ length b = omega arith in
    let power : 2 ^ length a ≡ 2 ^ length b = ap (λ (k : ℕ). 2 ^ k) size in
    let less_power : 2 ^ length (less a b) ≡ 2 ^ length b = ap (λ (k : ℕ). 2 ^ k) (length-less a b) in
    let below : number a < 2 ^ length b = (let own = number-below a in omega arith) in
    number_false (less a b)
    ∙ worth 0 1 1 (2 ^ length (less a b)) (2 ^ length a) (2 ^ length b) (number a) (number b) (number (less a b)) refl less_power power (number-less a b size)
    (xor_block (length b) 1 1 (number a) (number b) below (number-below b))
    ∙ ap (λ (n : ℕ). bit_xor n (1 * 2 ^ length b + number b)) (sym (number_true a)) ∙ ap (bit_xor (number (true ∷ a))) (sym (number_true b))
number-less (true ∷ a) (false ∷ b) same =
    let size : length a ≡ length b = omega arith in
    let power : 2 ^ length a ≡ 2 ^ length b = ap (λ (k : ℕ). 2 ^ k) size in
    let less_power : 2 ^ length (less a b) ≡ 2 ^ length b = ap (λ (k : ℕ). 2 ^ k) (length-less a b) in
    let below : number a < 2 ^ length b = (let own = number-below a in omega arith) in
    number_true (less a b)
    ∙ worth 1 1 0 (2 ^ length (less a b)) (2 ^ length a) (2 ^ length b) (number a) (number b) (number (less a b)) refl less_power power (number-less a b size)
    (xor_block (length b) 1 0 (number a) (number b) below (number-below b))
    ∙ ap (λ (n : ℕ). bit_xor n (0 * 2 ^ length b + number b)) (sym (number_true a)) ∙ ap (bit_xor (number (true ∷ a))) (sym (number_false b))
number-less (false ∷ a) (true ∷ b) same =
    let size : length a ≡ length b = omega arith in
    let power : 2 ^ length a ≡ 2 ^ length b = ap (λ (k : ℕ). 2 ^ k) size in
    let less_power : 2 ^ length (less a b) ≡ 2 ^ length b = ap (λ (k : ℕ). 2 ^ k) (length-less a b) in
    let below : number a < 2 ^ length b = (let own = number-below a in omega arith) in
    number_true (less a b)
    ∙ worth 1 0 1 (2 ^ length (less a b)) (2 ^ length a) (2 ^ length b) (number a) (number b) (number (less a b)) refl less_power power (number-less a b size)
    (xor_block (length b) 0 1 (number a) (number b) below (number-below b))
    ∙ ap (λ (n : ℕ). bit_xor n (1 * 2 ^ length b + number b)) (sym (number_false a)) ∙ ap (bit_xor (number (false ∷ a))) (sym (number_true b))
number-less (false ∷ a) (false ∷ b) same =
    let size : length a ≡ length b = omega arith in
    let power : 2 ^ length a ≡ 2 ^ length b = ap (λ (k : ℕ). 2 ^ k) size in
    let less_power : 2 ^ length (less a b) ≡ 2 ^ length b = ap (λ (k : ℕ). 2 ^ k) (length-less a b) in
    let below : number a < 2 ^ length b = (let own = number-below a in omega arith) in
    number_false (less a b)
    ∙ worth 0 0 0 (2 ^ length (less a b)) (2 ^ length a) (2 ^ length b) (number a) (number b) (number (less a b)) refl less_power power (number-less a b size)
    (xor_block (length b) 0 0 (number a) (number b) below (number-below b))
    ∙ ap (λ (n : ℕ). bit_xor n (0 * 2 ^ length b + number b)) (sym (number_false a)) ∙ ap (bit_xor (number (false ∷ a))) (sym (number_false b))
