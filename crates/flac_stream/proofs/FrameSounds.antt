-- A frame has as many samples in each channel as its block, each within the depth.
use Rattle.std.proofs.Common.{◌≡◌, ◌≤◌, ◌<◌, ◌+◌, ◌-◌, ◌*◌, ◌/◌, ◌%◌, ◌^◌, inl, inr, ◌⊎◌, ℕ, zero, suc, Bool, true, false, List, [], ◌∷◌, length, length-append, Option, None, Some, Result, Ok, refl, ap, sym, ◌∙◌, subst, arith}
use Rattle.std.specs.Prelude.{ℤ, pos, ◌*ℤ◌, ◌==◌, ◌&&◌, nat_le, nat_lt, if◌then◌else◌, replicate, All, IfSome}
use Rattle.std.proofs.lemmas.Bool.{and_parts, eqb-true, leb-true, ltb-true}
use Rattle.std.proofs.lemmas.List.{length-map, length-replicate}
use Rattle.std.proofs.lemmas.List.Elements.{All-nil, All-cons, All-head, All-map, All-weaker}
use Rattle.std.proofs.lemmas.Nat.{pow_pos, shr_split}
use Rattle.lib_base.specs.Sounds.{IsSample}
use Rattle.file_model.specs.declared.flac_rules.FlacRule.{FlacRule}
use Rattle.file_model.specs.declared.flac_rules.FlacRule.TheVariants.{SubframeBit, WastedBits, PredictorOrder, OtherPartitions}
use Rattle.file_model.specs.declared.pairs.Stereo.{Stereo}
use Rattle.file_model.specs.Fields.{field, signed_field}
use Rattle.file_model.specs.FlacFrame.{depths_of, Channels, IsPairOf, Sounding}
use Rattle.file_model.specs.FlacHeader.{of_frame}
use Rattle.file_model.specs.Outcomes.{holds, times_at}
use Rattle.file_model.specs.Subframe.{Coding, constant, verbatim, fixed, linear, Coded, coding_of, order_of, wasted_at, partition_at, partitions_at, residuals_at, samples_at, predictor_at, content_at, subframe_head_at, subframe_at, IsSpelledBy, Channel}
use Rattle.flac_frames.proofs.Residuals.{ok_is}
use Rattle.flac_frames.proofs.Subframes.{shifted_within}
use Rattle.flac_frames.proofs.Wholes.{both_give}

-- a fact that is tried holds
pub held_fact : {E : Type 0} (fact : Bool) (rule : E) (value : Bool) → holds fact rule ≡ Ok value → fact ≡ true
held_fact true rule value is = refl
held_fact false rule value is = cc

-- one of two readings was taken
one_taken : {A : Type 0} (test : Bool) (one other out : A) → (if test then one else other) ≡ out → (one ≡ out) ⊎ (other ≡ out)
one_taken true one other out is = inl is
one_taken false one other out is = inr is

abbrev size_of : List ℤ × List Bool → ℕ
size_of read = length read.0

-- ---- how many numbers are coded

length-times_at : (read : List Bool → Result (ℤ × List Bool) FlacRule) (count : ℕ) (bits : List Bool) (xs : List ℤ) (rest : List Bool)
    → times_at read count bits ≡ Ok (xs, rest) → length xs ≡ count
unfolding times_at
length-times_at read zero bits xs rest is = sym (ap size_of (ok_is _ _ is))
length-times_at read (suc count) bits xs rest is =
    let first = both_give (read bits) _ (xs, rest) is in
    let more = both_give (times_at read count first.0.1) _ (xs, rest) first.2 in
    let size = ap size_of (ok_is _ _ more.2) in
    let others = length-times_at read count first.0.1 more.0.0 more.0.1 more.1 in
    omega (arith, size, others)

length-partition_at : (width count : ℕ) (bits : List Bool) (xs : List ℤ) (rest : List Bool) → partition_at width count bits ≡ Ok (xs, rest) → length xs ≡ count
unfolding partition_at
length-partition_at width count bits xs rest is =
    let parameter = both_give (of_frame (field width bits)) _ (xs, rest) is in
    elim (one_taken (parameter.0.0 == 2 ^ width - 1) _ _ (Ok (xs, rest)) parameter.2) [
      | inl plain ↦
          let size = both_give (of_frame (field 5 parameter.0.1)) _ (xs, rest) plain in
          length-times_at _ count size.0.1 xs rest size.2
      | inr coded ↦ length-times_at _ count parameter.0.1 xs rest coded
    ]

length-partitions_at : (width size many : ℕ) (bits : List Bool) (xs : List ℤ) (rest : List Bool) → partitions_at width size many bits ≡ Ok (xs, rest)
    → length xs ≡ many * size
unfolding partitions_at
length-partitions_at width size zero bits xs rest is = let none = ap size_of (ok_is _ _ is) in omega (arith, none)
length-partitions_at width size (suc many) bits xs rest is =
    let first = both_give (partition_at width size bits) _ (xs, rest) is in
    let others = both_give (partitions_at width size many first.0.1) _ (xs, rest) first.2 in
    let one = length-partition_at width size bits first.0.0 first.0.1 first.1 in
    let more = length-partitions_at width size many first.0.1 others.0.0 others.0.1 others.1 in
    let whole = ap size_of (ok_is _ _ others.2) in
    let parts = length-append first.0.0 others.0.0 in
    let next : suc many * size ≡ size + many * size = omega arith in
    omega (arith, one, more, whole, parts, next)

-- equal parts, the first of them shorter by the warm-up
parts_whole : (block order size power first others : ℕ) → size * power + block % power ≡ block → block % power ≡ 0 → 1 ≤ power → order ≤ size
    → first ≡ size - order → others ≡ (power - 1) * size → order + (first + others) ≡ block
parts_whole block order size power first others split none some few is more =
    let apart : size * power ≡ size + (power - 1) * size =
    ap (λ (n : ℕ). size * n) (let next : power ≡ 1 + (power - 1) = omega (arith, some) in next) ∙ omega arith in
    omega (arith, split, none, few, is, more, apart)

length-residuals_at : (block order : ℕ) (bits : List Bool) (xs : List ℤ) (rest : List Bool) → residuals_at block order bits ≡ Ok (xs, rest)
    → order + length xs ≡ block
unfolding residuals_at
length-residuals_at block order bits xs rest is =
    let method = both_give (of_frame (field 2 bits)) _ (xs, rest) is in
    let known = both_give (holds (nat_lt method.0.0 2) OtherPartitions) _ (xs, rest) method.2 in
    let power = both_give (of_frame (field 4 method.0.1)) _ (xs, rest) known.2 in
    let n = power.0.0 in
    let fact = (block % 2 ^ n == 0) && nat_le order (block / 2 ^ n) in
    let tried = both_give (holds fact OtherPartitions) _ (xs, rest) power.2 in
    let first = both_give (partition_at (4 + method.0.0) (block / 2 ^ n - order) power.0.1) _ (xs, rest) tried.2 in
    let others = both_give (partitions_at (4 + method.0.0) (block / 2 ^ n) (2 ^ n - 1) first.0.1) _ (xs, rest) first.2 in
    let facts = and_parts (block % 2 ^ n == 0) (nat_le order (block / 2 ^ n)) (held_fact fact OtherPartitions tried.0 tried.1) in
    let one = length-partition_at _ _ power.0.1 first.0.0 first.0.1 first.1 in
    let more = length-partitions_at _ _ _ first.0.1 others.0.0 others.0.1 others.1 in
    let whole = ap size_of (ok_is _ _ others.2) in
    let parts = length-append first.0.0 others.0.0 in
    let all = parts_whole block order (block / 2 ^ n) (2 ^ n) (length first.0.0) (length others.0.0) (shr_split block n)
    (eqb-true (block % 2 ^ n) 0 facts.0) (pow_pos n) (leb-true order (block / 2 ^ n) facts.1) one more in
    omega (arith, all, whole, parts)

-- as many numbers as the block has samples, with wasted bits as they were told
pub record IsCodedOf (block wasted : ℕ) (coded : Coded) : Type 0 where
  pub long : length coded.numbers ≡ block
  pub wasted_are : coded.wasted ≡ wasted

abbrev numbers_of : Coded × List Bool → ℕ
numbers_of read = length read.0.numbers

abbrev wasted_of : Coded × List Bool → ℕ
wasted_of read = read.0.wasted

content_whole : (coding : Coding) (block depth wasted : ℕ) (bits : List Bool) (coded : Coded) (rest : List Bool)
    → content_at coding block depth wasted bits ≡ Ok (coded, rest) → IsCodedOf block wasted coded
unfolding content_at
content_whole constant block depth wasted bits coded rest is =
    let sample = both_give (of_frame (signed_field depth bits)) _ (coded, rest) is in
    let same = ok_is _ _ sample.2 in
    record { long = sym (ap numbers_of same) ∙ length-replicate block sample.0.0; wasted_are = sym (ap wasted_of same) }
content_whole verbatim block depth wasted bits coded rest is =
    let samples = both_give (samples_at depth block bits) _ (coded, rest) is in
    let same = ok_is _ _ samples.2 in
    record { long = sym (ap numbers_of same) ∙ length-times_at _ block bits samples.0.0 samples.0.1 samples.1; wasted_are = sym (ap wasted_of same) }
content_whole (fixed order) block depth wasted bits coded rest is =
    let warm_up = both_give (samples_at depth order bits) _ (coded, rest) is in
    let residuals = both_give (residuals_at block order warm_up.0.1) _ (coded, rest) warm_up.2 in
    let same = ok_is _ _ residuals.2 in
    let before = length-times_at _ order bits warm_up.0.0 warm_up.0.1 warm_up.1 in
    let behind = length-residuals_at block order warm_up.0.1 residuals.0.0 residuals.0.1 residuals.1 in
    let parts = length-append warm_up.0.0 residuals.0.0 in
    let size = ap numbers_of same in
    record { long = omega (arith, size, parts, before, behind); wasted_are = sym (ap wasted_of same) }
content_whole (linear order) block depth wasted bits coded rest is =
    let warm_up = both_give (samples_at depth order bits) _ (coded, rest) is in
    let predictor = both_give (predictor_at order warm_up.0.1) _ (coded, rest) warm_up.2 in
    let residuals = both_give (residuals_at block order predictor.0.1) _ (coded, rest) predictor.2 in
    let same = ok_is _ _ residuals.2 in
    let before = length-times_at _ order bits warm_up.0.0 warm_up.0.1 warm_up.1 in
    let behind = length-residuals_at block order predictor.0.1 residuals.0.0 residuals.0.1 residuals.1 in
    let parts = length-append warm_up.0.0 residuals.0.0 in
    let size = ap numbers_of same in
    record { long = omega (arith, size, parts, before, behind); wasted_are = sym (ap wasted_of same) }

-- fewer bits are wasted than a sample has
head_wastes : (block depth : ℕ) (bits : List Bool) (coding : Coding) (wasted : ℕ) (rest : List Bool)
    → subframe_head_at block depth bits ≡ Ok ((coding, wasted), rest) → wasted < depth
unfolding subframe_head_at
head_wastes block depth bits coding wasted rest is =
    let first = both_give (of_frame (field 1 bits)) _ ((coding, wasted), rest) is in
    let zero_bit = both_give (holds (first.0.0 == 0) SubframeBit) _ ((coding, wasted), rest) first.2 in
    let type = both_give (of_frame (field 6 first.0.1)) _ ((coding, wasted), rest) zero_bit.2 in
    let named = both_give (coding_of type.0.0) _ ((coding, wasted), rest) type.2 in
    let ordered = both_give (holds (nat_le (order_of named.0) block) PredictorOrder) _ ((coding, wasted), rest) named.2 in
    let some = both_give (wasted_at type.0.1) _ ((coding, wasted), rest) ordered.2 in
    let tried = both_give (holds (nat_lt some.0.0 depth) WastedBits) _ ((coding, wasted), rest) some.2 in
    let few = ltb-true some.0.0 depth (held_fact (nat_lt some.0.0 depth) WastedBits tried.0 tried.1) in
    let same = ap (λ (read : (Coding × ℕ) × List Bool). read.0.1) (ok_is _ _ tried.2) in
    omega (arith, few, same)

pub record IsWhole (block depth : ℕ) (coded : Coded) : Type 0 where
  pub long : length coded.numbers ≡ block
  pub wastes : coded.wasted < depth

subframe_whole : (block depth : ℕ) (bits : List Bool) (coded : Coded) (rest : List Bool) → subframe_at block depth bits ≡ Ok (coded, rest)
    → IsWhole block depth coded
unfolding subframe_at
subframe_whole block depth bits coded rest is =
    let head = both_give (subframe_head_at block depth bits) _ (coded, rest) is in
    let few = head_wastes block depth bits head.0.0.0 head.0.0.1 head.0.1 head.1 in
    let content = content_whole head.0.0.0 block (depth - head.0.0.1) head.0.0.1 head.0.1 coded rest head.2 in
    let same = content.wasted_are in
    record { long = content.long; wastes = omega (arith, few, same) }

-- ---- the samples of a channel

-- so many samples within a depth
pub record AreSamples (block depth : ℕ) (xs : List ℤ) : Type 0 where
  pub long : length xs ≡ block
  pub within : All (IsSample depth) xs

spelled_samples : (block depth : ℕ) (coded : Coded) (xs : List ℤ) → IsWhole block depth coded → IsSpelledBy depth coded xs → AreSamples block depth xs
spelled_samples block depth coded xs whole is =
    let times : ℤ → ℤ = λ s. s *ℤ pos (2 ^ coded.wasted) in
    record {
      long = ap length is.shifted ∙ length-map is.spelled times ∙ is.spells.as_many ∙ whole.long;
      within =
          subst (All (IsSample depth)) (sym is.shifted)
          (All-map (IsSample depth) times is.spelled
          (All-weaker (IsSample (depth - coded.wasted)) (λ (s : ℤ). IsSample depth (times s)) (λ s within. shifted_within depth coded.wasted s whole.wastes within)
          is.spelled is.spells.within));
    }

channel_samples : (block depth : ℕ) (bits : List Bool) (xs : List ℤ) (rest : List Bool) → Channel block depth bits (Ok (xs, rest)) → AreSamples block depth xs
channel_samples block depth bits xs rest (inl (coded, is, inl (samples, spelled, out))) =
    let same : xs ≡ samples = ap (λ (read : List ℤ × List Bool). read.0) (ok_is _ _ out) in
    subst (AreSamples block depth) (sym same)
    (spelled_samples block depth coded.0 samples (subframe_whole block depth bits coded.0 coded.1 (sym is)) spelled)
channel_samples block depth bits xs rest (inl (coded, is, inr (fault, none, out))) = cc
channel_samples block depth bits xs rest (inr (fault, is, out)) = cc

-- ---- the channels of a frame

abbrev pub IsLong : ℕ → List ℤ → Type 0
IsLong block xs = length xs ≡ block

abbrev pub AreWithin : ℕ → List ℤ → Type 0
AreWithin depth xs = All (IsSample depth) xs

channels_long : (block : ℕ) (depths : List ℕ) (bits : List Bool) (lists : List (List ℤ)) (rest : List Bool) → Channels block depths bits (Ok (lists, rest))
    → (length lists ≡ length depths) × All (IsLong block) lists
channels_long block [] bits lists rest is =
    let none : lists ≡ [] = ap (λ (read : List (List ℤ) × List Bool). read.0) (ok_is _ _ is) in
    subst (λ (xss : List (List ℤ)). (length xss ≡ 0) × All (IsLong block) xss) (sym none) (refl, All-nil (IsLong block))
channels_long block (depth ∷ depths) bits lists rest (inl ((xs, next), one, inl (others, more, out))) =
    let same : lists ≡ xs ∷ others.0 = ap (λ (read : List (List ℤ) × List Bool). read.0) (ok_is _ _ out) in
    let first = channel_samples block depth bits xs next one in
    let behind = channels_long block depths next others.0 others.1 more in
    subst (λ (xss : List (List ℤ)). (length xss ≡ suc (length depths)) × All (IsLong block) xss) (sym same)
    (ap suc behind.0, All-cons (IsLong block) xs others.0 first.long behind.1)
channels_long block (depth ∷ depths) bits lists rest (inl (first, one, inr (fault, none, out))) = cc
channels_long block (depth ∷ depths) bits lists rest (inr (fault, none, out)) = cc

channels_within : (block depth count : ℕ) (bits : List Bool) (lists : List (List ℤ)) (rest : List Bool) → Channels block (replicate count depth) bits (Ok (lists, rest))
    → All (AreWithin depth) lists
channels_within block depth zero bits lists rest is =
    let none : lists ≡ [] = ap (λ (read : List (List ℤ) × List Bool). read.0) (ok_is _ _ is) in
    subst (All (AreWithin depth)) (sym none) (All-nil (AreWithin depth))
channels_within block depth (suc count) bits lists rest (inl ((xs, next), one, inl (others, more, out))) =
    let same : lists ≡ xs ∷ others.0 = ap (λ (read : List (List ℤ) × List Bool). read.0) (ok_is _ _ out) in
    subst (All (AreWithin depth)) (sym same)
    (All-cons (AreWithin depth) xs others.0 (channel_samples block depth bits xs next one).within (channels_within block depth count next others.0 others.1 more))
channels_within block depth (suc count) bits lists rest (inl (first, one, inr (fault, none, out))) = cc
channels_within block depth (suc count) bits lists rest (inr (fault, none, out)) = cc

-- so many channels, each of so many samples within a depth
pub record AreChannels (channels block depth : ℕ) (lists : List (List ℤ)) : Type 0 where
  pub as_many : length lists ≡ channels
  pub long : All (IsLong block) lists
  pub within : All (AreWithin depth) lists

pair_sounds : (kind : Stereo) (block depth : ℕ) (first second : List ℤ) (lists : List (List ℤ)) → length first ≡ block → IsPairOf kind depth first second lists
    → AreChannels 2 block depth lists
pair_sounds kind block depth first second lists long (left, right, is, spells) =
    subst (AreChannels 2 block depth) (sym is) (record {
      as_many = refl;
      long =
          All-cons (IsLong block) left (right ∷ []) (spells.as_many_left ∙ long)
          (All-cons (IsLong block) right [] (spells.as_many_right ∙ long) (All-nil (IsLong block)));
      within =
          All-cons (AreWithin depth) left (right ∷ []) spells.left_within
          (All-cons (AreWithin depth) right [] spells.right_within (All-nil (AreWithin depth)));
    })

pub sounding_channels : (stereo : Option Stereo) (channels block depth : ℕ) (bits : List Bool) (coded lists : List (List ℤ)) (rest : List Bool)
    → IfSome stereo (λ _. channels ≡ 2) → Channels block (depths_of channels depth stereo) bits (Ok (coded, rest)) → Sounding stereo depth coded (Ok lists)
    → AreChannels channels block depth lists
sounding_channels None channels block depth bits coded lists rest pair are is =
    let same : lists ≡ coded = ok_is _ _ is in
    let long = channels_long block (replicate channels depth) bits coded rest are in
    subst (AreChannels channels block depth) (sym same) (record {
      as_many = long.0 ∙ length-replicate channels depth;
      long = long.1;
      within = channels_within block depth channels bits coded rest are;
    })
sounding_channels (Some kind) channels block depth bits [] lists rest pair are is =
    let long = (channels_long block (depths_of channels depth (Some kind)) bits [] rest are).0 in absurd (omega (arith, long))
sounding_channels (Some kind) channels block depth bits (first ∷ []) lists rest pair are is =
    let long = (channels_long block (depths_of channels depth (Some kind)) bits (first ∷ []) rest are).0 in absurd (omega (arith, long))
sounding_channels (Some kind) channels block depth bits (first ∷ second ∷ others) lists rest pair are is =
    subst (λ (n : ℕ). AreChannels n block depth lists) (sym pair)
    (pair_sounds kind block depth first second lists (All-head (IsLong block) first (second ∷ others) (channels_long block (depths_of channels depth (Some kind)) bits (first ∷ second ∷ others) rest are).1) is)
