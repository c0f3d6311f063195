-- Residuals, and numbers that are held to a greatest one.
use Rattle.std.proofs.Common.{◌≡◌, ◌≤◌, ◌<◌, ◌+◌, ◌-◌, ◌*◌, ◌/◌, ◌%◌, ◌^◌, ℕ, zero, suc, min, Bool, true, false, eqb, cond, List, [], ◌∷◌, ◌++◌, length, take, drop, Result, Ok, Err, refl, ap, sym, ◌∙◌, arith}
use Rattle.std.specs.Prelude.{ℤ, pos, neg_ℤ, unsigned_abs, if◌then◌else◌, nat_lt}
use Rattle.std.proofs.lemmas.Bool.{lt-ltb, le-ltb}
use Rattle.std.proofs.lemmas.Int.{ints}
use Rattle.std.proofs.lemmas.List.{drop_at, take_at}
use Rattle.lib_base.specs.Sounds.{part}
use Rattle.file_model.specs.declared.bits.BitFault.{BitFault}
use Rattle.file_model.specs.declared.flac_rules.FlacRule.{FlacRule}
use Rattle.file_model.specs.declared.flac_rules.FlacRule.TheVariants.{OutOfRange}
use Rattle.file_model.specs.Fields.{field, signed_field, unary_at, rice_at, held}
use Rattle.file_model.specs.FlacHeader.{of_frame}
use Rattle.file_model.specs.FlacRules.{rule_of_fault}
use Rattle.file_model.specs.Outcomes.{◌>>=◌, Gives, holds}
use Rattle.file_model.specs.Subframe.{unfolded, residual_at}
use Rattle.flac_frames.proofs.Wholes.{both_give, field_shorter}

abbrev pub okay : {A E : Type 0} → A → Result A E
okay value = Ok value

pub ok_is : {A E : Type 0} (one other : A) → okay {A = A} {E = E} one ≡ okay other → one ≡ other
ok_is one other is = cc

-- ---- what is behind a field is no longer than what was before it

pub signed_shorter : (count : ℕ) (bits : List Bool) (value : ℤ) (rest : List Bool) → signed_field count bits ≡ Ok (value, rest) → length rest ≤ length bits
unfolding signed_field
signed_shorter count bits value rest is =
    let first = both_give (field count bits) _ (value, rest) is in
    let shorter = field_shorter count first.0.0 bits first.0.1 first.1 in
    let size = ap (λ (p : ℤ × List Bool). length p.1) (ok_is _ _ first.2) in omega (arith, shorter, size)

pub unary_shorter : (bits : List Bool) (count : ℕ) (rest : List Bool) → unary_at bits ≡ Ok (count, rest) → length rest ≤ length bits
unfolding unary_at
unary_shorter [] count rest is = cc
unary_shorter (true ∷ bits) count rest is = let size = ap (λ (p : ℕ × List Bool). length p.1) (ok_is _ _ is) in omega (arith, size)
unary_shorter (false ∷ bits) count rest is =
    let first = both_give (unary_at bits) _ (count, rest) is in
    let shorter = unary_shorter bits first.0.0 first.0.1 first.1 in
    let size = ap (λ (p : ℕ × List Bool). length p.1) (ok_is _ _ first.2) in omega (arith, shorter, size)

pub rice_shorter : (low : ℕ) (bits : List Bool) (value : ℕ) (rest : List Bool) → rice_at low bits ≡ Ok (value, rest) → length rest ≤ length bits
unfolding rice_at
rice_shorter low bits value rest is =
    let quotient = both_give (unary_at bits) _ (value, rest) is in
    let more = both_give (field low quotient.0.1) _ (value, rest) quotient.2 in
    let one = unary_shorter bits quotient.0.0 quotient.0.1 quotient.1 in
    let two = field_shorter low more.0.0 quotient.0.1 more.0.1 more.1 in
    let size = ap (λ (p : ℕ × List Bool). length p.1) (ok_is _ _ more.2) in omega (arith, one, two, size)

-- ---- numbers that are held to the greatest of 64 bits

pub held_parts : (read : Result (ℕ × List Bool) BitFault) (value : ℕ) (rest : List Bool) → held read ≡ Ok (value, rest)
    → (whole : ℕ) × (read ≡ Ok (whole, rest)) × (value ≡ min whole (2 ^ 64 - 1))
held_parts (Ok (whole, behind)) value rest is =
    let same = ok_is _ _ is in
    (whole, ap (λ (p : ℕ × List Bool). Ok (whole, p.1)) same, sym (ap (λ (p : ℕ × List Bool). p.0) same))
held_parts (Err fault) value rest is = cc

pub held_fault : (read : Result (ℕ × List Bool) BitFault) (fault : BitFault) → held read ≡ Err fault → read ≡ Err fault
held_fault (Ok value) fault is = cc
held_fault (Err other) fault is = let same : other ≡ fault = cc in ap Err same

-- ---- residuals

neg_size : (n : ℕ) → unsigned_abs (neg_ℤ (pos n)) ≡ n
neg_size zero = refl
neg_size (suc n) = refl

size_by : (even : Bool) (n : ℕ) → eqb (n % 2) 0 ≡ even → unsigned_abs (if even then pos (n / 2) else neg_ℤ (pos ((n + 1) / 2))) ≡ (n + 1) / 2
size_by true n is = let whole : n % 2 ≡ 0 = grind arith in let half : n / 2 ≡ (n + 1) / 2 = omega (arith, whole) in half
size_by false n is = neg_size ((n + 1) / 2)

-- how far an unfolded number is from 0
pub unfolded_size : (n : ℕ) → unsigned_abs (unfolded n) ≡ (n + 1) / 2
unfolded_size n = size_by (eqb (n % 2) 0) n refl

abbrev tried : Bool → ℕ → List Bool → Result (ℤ × List Bool) FlacRule
tried is_small folded rest = (holds is_small OutOfRange) >>= λ _. Ok (unfolded folded, rest)

-- a residual that is within range
pub residual_within : (low : ℕ) (bits : List Bool) (folded : ℕ) (rest : List Bool) → held (rice_at low bits) ≡ Ok (folded, rest)
    → folded < 2 ^ 32 - 1 → residual_at low bits ≡ Ok (unfolded folded, rest)
unfolding residual_at
residual_within low bits folded rest is small =
    let parts = held_parts (rice_at low bits) folded rest is in
    let same : parts.0 ≡ folded = (let least = parts.2 in omega (arith, least, small)) in
    let size = unfolded_size folded in
    let few : unsigned_abs (unfolded folded) < 2 ^ 31 = omega (arith, size, small) in
    ap (λ (r : Result (ℕ × List Bool) BitFault). of_frame r >>= λ f. tried (nat_lt (unsigned_abs (unfolded f.0)) (2 ^ 31)) f.0 f.1) parts.1
    ∙ ap (λ (n : ℕ). tried (nat_lt (unsigned_abs (unfolded n)) (2 ^ 31)) n rest) same
    ∙ ap (λ (b : Bool). tried b folded rest) (lt-ltb (unsigned_abs (unfolded folded)) (2 ^ 31) few)

-- one that is not
pub residual_beyond : (low : ℕ) (bits : List Bool) (folded : ℕ) (rest : List Bool) → held (rice_at low bits) ≡ Ok (folded, rest)
    → 2 ^ 32 - 1 ≤ folded → residual_at low bits ≡ Err OutOfRange
unfolding residual_at
residual_beyond low bits folded rest is large =
    let parts = held_parts (rice_at low bits) folded rest is in
    let size = unfolded_size parts.0 in
    let least = parts.2 in
    let many : 2 ^ 31 ≤ unsigned_abs (unfolded parts.0) = omega (arith, size, least, large) in
    ap (λ (r : Result (ℕ × List Bool) BitFault). of_frame r >>= λ f. tried (nat_lt (unsigned_abs (unfolded f.0)) (2 ^ 31)) f.0 f.1) parts.1
    ∙ ap (λ (b : Bool). tried b parts.0 rest) (le-ltb (unsigned_abs (unfolded parts.0)) (2 ^ 31) many)

-- no field
pub residual_cut : (low : ℕ) (bits : List Bool) (fault : BitFault) (rule : FlacRule) → held (rice_at low bits) ≡ Err fault → rule ≡ rule_of_fault fault
    → residual_at low bits ≡ Err rule
unfolding residual_at
residual_cut low bits fault rule is named =
    ap (λ (r : Result (ℕ × List Bool) BitFault). of_frame r >>= λ f. tried (nat_lt (unsigned_abs (unfolded f.0)) (2 ^ 31)) f.0 f.1)
    (held_fault (rice_at low bits) fault is) ∙ ap Err (sym named)

pub residual_later : (low : ℕ) (bits : List Bool) (folded : ℕ) (rest : List Bool) → held (rice_at low bits) ≡ Ok (folded, rest) → length rest ≤ length bits
residual_later low bits folded rest is =
    let parts = held_parts (rice_at low bits) folded rest is in rice_shorter low bits parts.0 rest parts.1

-- ---- parts of a slice

-- what was written in front
pub front_given : {E : Type 0} (front back : List ℤ) (size : ℕ) (next : List Bool) (read : Result (List ℤ × List Bool) E) → length front ≡ size
    → read ≡ Ok (front, next) → read ≡ Ok (take size (front ++ back), next)
front_given front back size next read is gives = gives ∙ ap (λ (xs : List ℤ). Ok (xs, next)) (sym (take_at front back size is))

-- what was written behind so many
pub behind_given : {E : Type 0} (front back : List ℤ) (place size : ℕ) (next : List Bool) (read : Result (List ℤ × List Bool) E) → length front ≡ place
    → read ≡ Ok (take size back, next) → read ≡ Ok (part (front ++ back) place size, next)
behind_given front back place size next read is gives =
    gives ∙ ap (λ (xs : List ℤ). Ok (take size xs, next)) (sym (drop_at front back place is))
