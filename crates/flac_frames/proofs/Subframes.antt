-- What a subframe's fields say of samples.
use Rattle.std.proofs.Common.{◌≡◌, ◌≤◌, ◌<◌, ◌+◌, ◌-◌, ◌*◌, ◌^◌, inl, inr, ℕ, zero, suc, min, Bool, true, false, cond, List, [], ◌∷◌, ◌++◌, length, take, drop, set, get_or, Result, Ok, Err, refl, ap, sym, ◌∙◌, subst, arith}
use Rattle.std.specs.Prelude.{not, ◌==◌, ℤ, pos, negsuc, neg_ℤ, ◌*ℤ◌, ◌≤ℤ◌, ◌<ℤ◌, All, nat_lt, nat_eq, map, unsigned_abs, if◌then◌else◌, OnOk}
use Rattle.std.specs.Int.{is_negative}
use Rattle.std.proofs.lemmas.Bool.{cases_lt, lt-ltb, le-ltb, eq-eqb, ne_eqb}
use Rattle.std.proofs.lemmas.Int.{ints}
use Rattle.std.proofs.lemmas.List.{take_at, take_all, drop_all, append-nil, length-map, length-take-le, get_or-append_right, get_or-drop, get_or_default}
use Rattle.std.proofs.lemmas.List.Edits.{map_over_more}
use Rattle.std.proofs.lemmas.List.Elements.{All-nil, All-cons, All-map, All-get_or, All-from_get_or}
use Rattle.std.proofs.lemmas.Int.{unsigned_abs-mul}
use Rattle.std.proofs.lemmas.Nat.{pow-add, pow_pos, mul-le}
use Rattle.std.proofs.Math.Nat.{pow-succ'}
use Rattle.std.proofs.Math.Pow.{pow_mono}
use Rattle.lib_base.specs.Sounds.{IsSample}
use Rattle.file_model.specs.declared.bits.BitFault.{BitFault}
use Rattle.file_model.specs.declared.flac_rules.FlacRule.{FlacRule}
use Rattle.file_model.specs.declared.flac_rules.FlacRule.TheVariants.{ForbiddenPrecision, NegativeShift, WastedBits}
use Rattle.file_model.specs.Fields.{field, signed_field, unary_at, held}
use Rattle.file_model.specs.FlacHeader.{of_frame}
use Rattle.file_model.specs.FlacRules.{rule_of_fault}
use Rattle.file_model.specs.Outcomes.{◌>>=◌, holds, times_at}
use Rattle.file_model.specs.Samples.{signed}
use Rattle.file_model.specs.Subframe as model
use Rattle.file_model.specs.Subframe.{samples_at, predictor_at, wasted_at}
use Rattle.file_model.proofs.FieldsLemmas.{field_below}
use Rattle.file_model.proofs.Samples.{signed_low, signed_high}
use Rattle.flac_frames.specs.declared.subframe.Weights.{Weights}
use Rattle.flac_frames.specs.Subframes.{weights_in, AreWeights, head_with, head_with_some}
use Rattle.flac_frames.proofs.Residuals.{ok_is, held_parts, held_fault}
use Rattle.flac_frames.proofs.Wholes.{both_give}

-- ---- samples within their depth

low_within : (depth n : ℕ) → n < 2 ^ (depth - 1) → IsSample depth (pos n)
low_within depth n low = (omega (arith, ints, low), omega (arith, ints, low))

high_within : (depth n whole : ℕ) → 2 ^ (depth - 1) ≤ n → n < whole → whole ≤ 2 ^ (depth - 1) + 2 ^ (depth - 1) → IsSample depth (negsuc (whole - suc n))
high_within depth n whole high below twice = (omega (arith, ints, high, below, twice), omega (arith, ints, high, below, twice))

twice_half : (depth : ℕ) → 2 ^ depth ≤ 2 ^ (depth - 1) + 2 ^ (depth - 1)
twice_half zero = omega arith
twice_half (suc depth) =
    let same = ap (λ (n : ℕ). 2 ^ n) (let less : suc depth - 1 ≡ depth = omega arith in less) in
    let more = pow-succ' 2 depth in omega (arith, same, more)

-- a number of so many bits is a sample of them
pub signed_within : (depth n : ℕ) → n < 2 ^ depth → IsSample depth (signed depth n)
signed_within depth n below =
    elim (cases_lt n (2 ^ (depth - 1))) [
      | inl low ↦ subst (IsSample depth) (sym (signed_low depth n low)) (low_within depth n low)
      | inr high ↦ subst (IsSample depth) (sym (signed_high depth n high)) (high_within depth n (2 ^ depth) high below (twice_half depth))
    ]

pub signed_field_within : (depth : ℕ) (bits : List Bool) (value : ℤ) (rest : List Bool) → signed_field depth bits ≡ Ok (value, rest) → IsSample depth value
unfolding signed_field
signed_field_within depth bits value rest is =
    let first = both_give (field depth bits) _ (value, rest) is in
    let same : signed depth first.0.0 ≡ value = ap (λ (p : ℤ × List Bool). p.0) (ok_is _ _ first.2) in
    subst (IsSample depth) same (signed_within depth first.0.0 (field_below depth first.0.0 bits first.0.1 first.1))

-- a field of a frame is one
of_frame_ok : {A : Type 0} (read : Result A BitFault) (value : A) → of_frame read ≡ Ok value → read ≡ Ok value
of_frame_ok (Ok value) other is = ap Ok (ok_is value other is)
of_frame_ok (Err fault) other is = cc

pub samples_within : (depth count : ℕ) (bits : List Bool) (xs : List ℤ) (rest : List Bool) → samples_at depth count bits ≡ Ok (xs, rest) → All (IsSample depth) xs
unfolding times_at
samples_within depth zero bits xs rest is =
    let same : [] ≡ xs = ap (λ (p : List ℤ × List Bool). p.0) (ok_is _ _ is) in subst (All (IsSample depth)) same (All-nil (IsSample depth))
samples_within depth (suc count) bits xs rest is =
    let first = both_give (of_frame (signed_field depth bits)) _ (xs, rest) is in
    let more = both_give (samples_at depth count first.0.1) _ (xs, rest) first.2 in
    let same : first.0.0 ∷ more.0.0 ≡ xs = ap (λ (p : List ℤ × List Bool). p.0) (ok_is _ _ more.2) in
    subst (All (IsSample depth)) same
    (All-cons (IsSample depth) first.0.0 more.0.0
    (signed_field_within depth bits first.0.0 first.0.1 (of_frame_ok (signed_field depth bits) first.0 first.1))
    (samples_within depth count first.0.1 more.0.0 more.0.1 more.1))

-- a sample of few bits is one of more
wider : (depth more : ℕ) (z : ℤ) → depth ≤ more → IsSample depth z → IsSample more z
wider depth more z order within =
    let limit : 2 ^ (depth - 1) ≤ 2 ^ (more - 1) = (let less : depth - 1 ≤ more - 1 = omega (arith, order) in pow_mono less) in
    (omega (arith, ints, limit, within.0), omega (arith, ints, limit, within.1))

pub All_wider : (depth more : ℕ) (xs : List ℤ) → depth ≤ more → All (IsSample depth) xs → All (IsSample more) xs
All_wider depth more xs order within =
    All-from_get_or (IsSample more) xs (pos 0)
    (λ i inside. wider depth more _ order (All-get_or (IsSample depth) xs i (pos 0) inside within))

-- a fact that is tried holds
held_fact : {E : Type 0} (fact : Bool) (rule : E) (value : Bool) → holds fact rule ≡ Ok value → fact ≡ true
held_fact true rule value is = refl
held_fact false rule value is = cc

shift_few : (shift : ℤ) → not (is_negative shift) ≡ true → IsSample 5 shift → unsigned_abs shift ≤ 15
shift_few (pos n) is within = omega (arith, ints, within.1)
shift_few (negsuc n) is within = cc

-- what is read of a predictor are weights and a shift as they can be coded
pub predictor_within : (order : ℕ) (bits : List Bool) (linear : Weights) (rest : List Bool) → 1 ≤ linear.order → linear.order ≤ 32
    → predictor_at order bits ≡ Ok ((linear.shift, weights_in linear), rest) → AreWeights linear
unfolding predictor_at
predictor_within order bits linear rest some few is =
    let precision = both_give (of_frame (field 4 bits)) _ _ is in
    let allowed = both_give (holds (not (precision.0.0 == 15)) ForbiddenPrecision) _ _ precision.2 in
    let shift = both_give (of_frame (signed_field 5 precision.0.1)) _ _ allowed.2 in
    let positive = both_give (holds (not (is_negative shift.0.0)) NegativeShift) _ _ shift.2 in
    let weights = both_give (samples_at (precision.0.0 + 1) order shift.0.1) _ _ positive.2 in
    let read = ok_is _ _ weights.2 in
    let shift_is : unsigned_abs shift.0.0 ≡ linear.shift = ap (λ (x : (ℕ × List ℤ) × List Bool). x.0.0) read in
    let weights_are : weights.0.0 ≡ weights_in linear = ap (λ (x : (ℕ × List ℤ) × List Bool). x.0.1) read in
    let small = field_below 4 precision.0.0 bits precision.0.1 (of_frame_ok (field 4 bits) precision.0 precision.1) in
    let fact = held_fact (not (precision.0.0 == 15)) ForbiddenPrecision allowed.0 allowed.1 in
    let other : ¬ (precision.0.0 ≡ 15) = λ same. (let so = ap not (eq-eqb precision.0.0 15 same) in let never : false ≡ true = sym so ∙ fact in cc) in
    let within = signed_field_within 5 precision.0.1 shift.0.0 shift.0.1 (of_frame_ok (signed_field 5 precision.0.1) shift.0 shift.1) in
    let least = shift_few shift.0.0 (held_fact (not (is_negative shift.0.0)) NegativeShift positive.0 positive.1) within in
    record {
      some = some;
      few = few;
      bits =
          subst (All (IsSample 15)) weights_are
          (All_wider (precision.0.0 + 1) 15 weights.0.0 (omega (arith, small, other))
          (samples_within (precision.0.0 + 1) order shift.0.1 weights.0.0 weights.0.1 weights.1));
      shift = omega (arith, least, shift_is);
    }

-- the front of a list that was read in two parts
pub within_front : (depth count size : ℕ) (front back : List ℤ) (bits rest : List Bool) → length front ≡ count
    → samples_at depth size bits ≡ Ok (front, rest) → All (IsSample depth) (take count (front ++ back))
within_front depth count size front back bits rest long is =
    subst (All (IsSample depth)) (sym (take_at front back count long)) (samples_within depth size bits front rest is)

-- ---- wasted bits

abbrev tried : Bool → model.Coding → ℕ → List Bool → Result ((model.Coding × ℕ) × List Bool) FlacRule
tried is_few coding wasted rest = (holds is_few WastedBits) >>= λ _. Ok ((coding, wasted), rest)

abbrev one_more : List Bool → Result (ℕ × List Bool) FlacRule
one_more behind = do
  more ← of_frame (unary_at behind)
  Ok (more.0 + 1, more.1)

abbrev by_flag : Bool → List Bool → Result (ℕ × List Bool) FlacRule
by_flag none behind = if none then Ok (0, behind) else one_more behind

abbrev from_flag : ℕ → model.Coding → Result (ℕ × List Bool) BitFault → Result ((model.Coding × ℕ) × List Bool) FlacRule
from_flag depth coding read =
    (of_frame read >>= λ flag. by_flag (nat_eq flag.0 0) flag.1) >>= λ wasted. tried (nat_lt wasted.0 depth) coding wasted.0 wasted.1

-- none are
pub none_wasted : (depth : ℕ) (coding : model.Coding) (flag : ℕ) (bits rest : List Bool) → 1 ≤ depth → field 1 bits ≡ Ok (flag, rest) → flag ≡ 0
    → head_with depth coding bits ≡ Ok ((coding, 0), rest)
unfolding head_with wasted_at
none_wasted depth coding flag bits rest some is none =
    ap (from_flag depth coding) (is ∙ ap (λ (n : ℕ). Ok (n, rest)) none)
    ∙ ap (λ (b : Bool). tried b coding 0 rest) (lt-ltb 0 depth (omega (arith, some)))

one_by_one : (depth : ℕ) (coding : model.Coding) (read : Result (ℕ × List Bool) BitFault)
    → ((of_frame read >>= λ more. Ok (more.0 + 1, more.1)) >>= λ (wasted : ℕ × List Bool). tried (nat_lt wasted.0 depth) coding wasted.0 wasted.1)
    ≡ (of_frame read >>= λ more. tried (nat_lt (more.0 + 1) depth) coding (more.0 + 1) more.1)
one_by_one depth coding (Ok value) = refl
one_by_one depth coding (Err fault) = refl

-- some are
pub some_wasted : (depth : ℕ) (coding : model.Coding) (flag : ℕ) (bits rest : List Bool) → field 1 bits ≡ Ok (flag, rest) → ¬ (flag ≡ 0)
    → head_with depth coding bits ≡ head_with_some depth coding rest
unfolding head_with head_with_some wasted_at
some_wasted depth coding flag bits rest is some =
    ap (from_flag depth coding) is
    ∙ ap (λ (b : Bool). by_flag b rest >>= λ wasted. tried (nat_lt wasted.0 depth) coding wasted.0 wasted.1) (ne_eqb flag 0 some)
    ∙ one_by_one depth coding (unary_at rest)

-- the flag is cut
pub wasted_cut : (depth : ℕ) (coding : model.Coding) (bits : List Bool) (fault : BitFault) (rule : FlacRule) → field 1 bits ≡ Err fault → rule ≡ rule_of_fault fault
    → head_with depth coding bits ≡ Err rule
unfolding head_with wasted_at
wasted_cut depth coding bits fault rule is named = ap (from_flag depth coding) is ∙ ap Err (sym named)

-- so many, fewer than a sample has
pub few_wasted : (depth : ℕ) (coding : model.Coding) (bits : List Bool) (less : ℕ) (rest : List Bool) → depth < 2 ^ 32 → held (unary_at bits) ≡ Ok (less, rest)
    → less < depth - 1 → head_with_some depth coding bits ≡ Ok ((coding, less + 1), rest)
unfolding head_with_some
few_wasted depth coding bits less rest fits is few =
    let parts = held_parts (unary_at bits) less rest is in
    let same : parts.0 ≡ less = (let least = parts.2 in omega (arith, least, few, fits)) in
    ap (λ (r : Result (ℕ × List Bool) BitFault). of_frame r >>= λ m. tried (nat_lt (m.0 + 1) depth) coding (m.0 + 1) m.1) (parts.1 ∙ ap (λ (n : ℕ). Ok (n, rest)) same)
    ∙ ap (λ (b : Bool). tried b coding (less + 1) rest) (lt-ltb (less + 1) depth (omega (arith, few)))

-- as many as a sample has, or more
pub all_wasted : (depth : ℕ) (coding : model.Coding) (bits : List Bool) (less : ℕ) (rest : List Bool) → held (unary_at bits) ≡ Ok (less, rest)
    → depth - 1 ≤ less → head_with_some depth coding bits ≡ Err WastedBits
unfolding head_with_some
all_wasted depth coding bits less rest is many =
    let parts = held_parts (unary_at bits) less rest is in
    let enough : depth ≤ parts.0 + 1 = (let least = parts.2 in omega (arith, least, many)) in
    ap (λ (r : Result (ℕ × List Bool) BitFault). of_frame r >>= λ m. tried (nat_lt (m.0 + 1) depth) coding (m.0 + 1) m.1) parts.1
    ∙ ap (λ (b : Bool). tried b coding (parts.0 + 1) rest) (le-ltb (parts.0 + 1) depth enough)

-- the count is cut
pub some_wasted_cut : (depth : ℕ) (coding : model.Coding) (bits : List Bool) (fault : BitFault) (rule : FlacRule) → held (unary_at bits) ≡ Err fault
    → rule ≡ rule_of_fault fault → head_with_some depth coding bits ≡ Err rule
unfolding head_with_some
some_wasted_cut depth coding bits fault rule is named =
    ap (λ (r : Result (ℕ × List Bool) BitFault). of_frame r >>= λ m. tried (nat_lt (m.0 + 1) depth) coding (m.0 + 1) m.1)
    (held_fault (unary_at bits) fault is) ∙ ap Err (sym named)

-- ---- wasted bits behind samples

shifted_low : (half power whole : ℕ) (s : ℤ) → half * power ≡ whole → neg_ℤ (pos half) ≤ℤ s → neg_ℤ (pos whole) ≤ℤ (s *ℤ pos power)
shifted_low half power whole (pos n) is low = omega (arith, ints)
shifted_low half power whole (negsuc n) is low =
    let size = unsigned_abs-mul (negsuc n) (pos power) in
    let most : suc n * power ≤ half * power = mul-le (suc n) power half power (omega (arith, ints, low)) (omega arith) in
    omega (arith, ints, size, most, is)

shifted_high : (half power whole : ℕ) (s : ℤ) → half * power ≡ whole → 1 ≤ power → 1 ≤ whole → s <ℤ pos half → (s *ℤ pos power) <ℤ pos whole
shifted_high half power whole (pos n) is some wide high =
    let most : (n + 1) * power ≤ half * power = mul-le (n + 1) power half power (omega (arith, ints, high)) (omega arith) in
    let next : (n + 1) * power ≡ n * power + power = omega arith in
    omega (arith, ints, most, next, is, some)
shifted_high half power whole (negsuc n) is some wide high = omega (arith, ints, wide)

pub shifted_within : (depth wasted : ℕ) (s : ℤ) → wasted < depth → IsSample (depth - wasted) s → IsSample depth (s *ℤ pos (2 ^ wasted))
shifted_within depth wasted s fewer within =
    let parts : 2 ^ (depth - wasted - 1) * 2 ^ wasted ≡ 2 ^ (depth - 1) =
    sym (pow-add 2 (depth - wasted - 1) wasted) ∙ ap (λ (n : ℕ). 2 ^ n) (let same : depth - wasted - 1 + wasted ≡ depth - 1 = omega (arith, fewer) in same) in (
      shifted_low (2 ^ (depth - wasted - 1)) (2 ^ wasted) (2 ^ (depth - 1)) s parts within.0,
      shifted_high (2 ^ (depth - wasted - 1)) (2 ^ wasted) (2 ^ (depth - 1)) s parts (pow_pos wasted) (pow_pos (depth - 1)) within.1,
    )

-- no bits behind samples leave them as they are
pub none_behind : (wasted : ℕ) (xs : List ℤ) → wasted ≡ 0 → xs ≡ map (λ (s : ℤ). s *ℤ pos (2 ^ wasted)) xs
none_behind wasted [] none = refl
none_behind wasted (x ∷ xs) none =
    let one : x ≡ x *ℤ pos (2 ^ wasted) = sym (ap (λ (n : ℕ). x *ℤ pos (2 ^ n)) none ∙ by_one x) in
    ap (λ (y : ℤ). y ∷ xs) one ∙ ap (λ (ys : List ℤ). (x *ℤ pos (2 ^ wasted)) ∷ ys) (none_behind wasted xs none)
  where
    by_one : (y : ℤ) → y *ℤ pos 1 ≡ y
    by_one y = omega (arith, ints)

-- a fact that holds anyway does where a call went well
pub on_ok : {T E P : Type 0} (result : Result T E) → P → OnOk result P
on_ok (Ok value) p = p
on_ok (Err fault) p = tt

pub on_ok_then : {T E P Q : Type 0} (result : Result T E) → (P → Q) → OnOk result P → OnOk result Q
on_ok_then (Ok value) next p = next p
on_ok_then (Err fault) next p = tt

-- ---- the loop that puts wasted bits back

abbrev times : ℕ → ℤ → ℤ
times wasted s = s *ℤ pos (2 ^ wasted)

-- at the place there is still what was there
pub still_there : (wasted : ℕ) (xs ys : List ℤ) (place : ℕ) → place < length xs → ys ≡ map (λ (s : ℤ). s *ℤ pos (2 ^ wasted)) (take place xs) ++ drop place xs
    → get_or ys place (pos 0) ≡ get_or xs place (pos 0)
still_there wasted xs ys place inside is =
    let front = map (times wasted) (take place xs) in
    let long : length front ≡ place = length-map (take place xs) (times wasted) ∙ length-take-le place xs (omega (arith, inside)) in
    let none : place - place ≡ 0 = omega arith in
    let same : place + 0 ≡ place = omega arith in
    ap (λ (zs : List ℤ). get_or zs place (pos 0)) is ∙ get_or-append_right front (drop place xs) place place (pos 0) long (omega arith)
    ∙ ap (λ (n : ℕ). get_or (drop place xs) n (pos 0)) none ∙ get_or-drop place xs 0 (pos 0) ∙ ap (λ (n : ℕ). get_or xs n (pos 0)) same

pub within_there : (depth wasted : ℕ) (xs ys : List ℤ) (place : ℕ) → place < length xs → All (IsSample (depth - wasted)) xs
    → ys ≡ map (λ (s : ℤ). s *ℤ pos (2 ^ wasted)) (take place xs) ++ drop place xs → IsSample (depth - wasted) (get_or ys place (pos 0))
within_there depth wasted xs ys place inside within is =
    subst (IsSample (depth - wasted)) (sym (still_there wasted xs ys place inside is)) (All-get_or (IsSample (depth - wasted)) xs place (pos 0) inside within)

-- one more has them
pub one_shifted : (wasted : ℕ) (xs ys : List ℤ) (place : ℕ) (value : ℤ) → place < length xs → place < length ys
    → value ≡ get_or ys place (pos 0) *ℤ pos (2 ^ wasted) → ys ≡ map (λ (s : ℤ). s *ℤ pos (2 ^ wasted)) (take place xs) ++ drop place xs
    → set ys place value ≡ map (λ (s : ℤ). s *ℤ pos (2 ^ wasted)) (take (place + 1) xs) ++ drop (place + 1) xs
one_shifted wasted xs ys place value inside there is so_far =
    let here = get_or ys place (pos 0) in
    ap (set ys place) is ∙ map_over_more (λ (s : ℤ). s *ℤ pos (2 ^ wasted)) xs ys place here inside so_far (get_or_default ys place (pos 0) here there)

-- all have
pub all_shifted : (depth wasted : ℕ) (xs ys : List ℤ) (place : ℕ) → wasted < depth → length xs ≤ place → All (IsSample (depth - wasted)) xs
    → ys ≡ map (λ (s : ℤ). s *ℤ pos (2 ^ wasted)) (take place xs) ++ drop place xs → All (IsSample depth) ys
all_shifted depth wasted xs ys place fewer past within is =
    let mapped : ys ≡ map (times wasted) xs =
    is ∙ ap (λ (zs : List ℤ). map (times wasted) zs ++ drop place xs) (take_all place xs past)
    ∙ ap (λ (zs : List ℤ). map (times wasted) xs ++ zs) (drop_all place xs past) ∙ append-nil (map (times wasted) xs) in
    subst (All (IsSample depth)) (sym mapped)
    (All-map (IsSample depth) (times wasted) xs
    (All-from_get_or (λ (s : ℤ). IsSample depth (times wasted s)) xs (pos 0)
    (λ i inside. shifted_within depth wasted _ fewer (All-get_or (IsSample (depth - wasted)) xs i (pos 0) inside within))))

-- a sample of fewer bits is one of 25
pub few_bits : (depth wasted : ℕ) (s : ℤ) → depth ≤ 25 → IsSample (depth - wasted) s → IsSample 25 s
few_bits depth wasted s few within = wider (depth - wasted) 25 s (omega (arith, few)) within
