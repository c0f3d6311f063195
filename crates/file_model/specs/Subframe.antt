-- A subframe of a FLAC frame: the coded samples of one channel (RFC 9639 section 9.2).
use Rattle.std.specs.Prelude.{◌≡◌, ◌+◌, ◌-◌, ◌/◌, ◌%◌, ◌^◌, ◌==◌, ◌&&◌, ℕ, zero, suc, ℤ, pos, neg_ℤ, ◌*ℤ◌, unsigned_abs, Bool, not, nat_lt, nat_le, if◌then◌else◌, List, [], ◌++◌, map, replicate, Result, Ok, Err}
use Rattle.std.specs.Int.{is_negative}
use Rattle.file_model.specs.declared.flac_rules.FlacRule.{FlacRule}
use Rattle.file_model.specs.declared.flac_rules.FlacRule.TheVariants.{SubframeBit, ReservedSubframe, WastedBits, PredictorOrder, ForbiddenPrecision, NegativeShift, OtherPartitions, OutOfRange}
use Rattle.file_model.specs.FlacHeader.{of_frame}
use Rattle.file_model.specs.Fields.{field, signed_field, unary_at, rice_at}
use Rattle.file_model.specs.Outcomes.{◌>>=◌, holds, times_at, Is, Then, Finds}
use Rattle.file_model.specs.Predict.{fixed_weights, Spells}

-- the ways to code a channel: each sample the same, each sample as it is, or by a predictor of an
-- order (section 9.2.1)
pub data Coding : Type 0 where
  constant : Coding
  verbatim : Coding
  fixed : ℕ → Coding
  linear : ℕ → Coding

-- the way that a type names
abbrev pub coding_of : ℕ → Result Coding FlacRule
coding_of type =
    if type == 0 then Ok constant
    else if type == 1 then Ok verbatim
    else if nat_lt type 8 then Err ReservedSubframe
    else if nat_le type 12 then Ok (fixed (type - 8))
    else if nat_lt type 32 then Err ReservedSubframe
    else Ok (linear (type - 31))

-- the order of its predictor
abbrev pub order_of : Coding → ℕ
order_of constant = 0
order_of verbatim = 0
order_of (fixed order) = order
order_of (linear order) = order

-- the number of wasted bits: none, or one more than a unary count (section 9.2.2)
unfoldable pub wasted_at : List Bool → Result (ℕ × List Bool) FlacRule
wasted_at bits = do
  flag ← of_frame (field 1 bits)
  if flag.0 == 0 then Ok (0, flag.1) else one_more flag.1
  where
    one_more : List Bool → Result (ℕ × List Bool) FlacRule
    one_more behind = do
      more ← of_frame (unary_at behind)
      Ok (more.0 + 1, more.1)

-- The head of a subframe of so many samples of so many bits: how it is coded, and its wasted bits,
-- fewer than a sample has (sections 9.2.1 and 9.2.2).
unfoldable pub subframe_head_at : ℕ → ℕ → List Bool → Result ((Coding × ℕ) × List Bool) FlacRule
subframe_head_at block depth bits = do
  first ← of_frame (field 1 bits)
  _ ← holds (first.0 == 0) SubframeBit
  type ← of_frame (field 6 first.1)
  coding ← coding_of type.0
  _ ← holds (nat_le (order_of coding) block) PredictorOrder
  wasted ← wasted_at type.1
  _ ← holds (nat_lt wasted.0 depth) WastedBits
  Ok ((coding, wasted.0), wasted.1)

-- a number as it is folded into one with no sign: even ones stand for 0, 1, 2 .., odd ones for -1,
-- -2 .. (section 9.2.7.2)
abbrev pub unfolded : ℕ → ℤ
unfolded n = if n % 2 == 0 then pos (n / 2) else neg_ℤ (pos ((n + 1) / 2))

-- a residual in Rice code, within 32 bits less their least number (sections 9.2.7.2 and 9.2.7.3)
unfoldable pub residual_at : ℕ → List Bool → Result (ℤ × List Bool) FlacRule
residual_at low bits = do
  folded ← of_frame (rice_at low bits)
  _ ← holds (nat_lt (unsigned_abs (unfolded folded.0)) (2 ^ 31)) OutOfRange
  Ok (unfolded folded.0, folded.1)

-- So many residuals of a partition, whose parameter has so many bits. All ones say that they are
-- plain numbers of a width that follows (sections 9.2.7 and 9.2.7.1).
unfoldable pub partition_at : ℕ → ℕ → List Bool → Result (List ℤ × List Bool) FlacRule
partition_at bits_of_parameter count bits = do
  parameter ← of_frame (field bits_of_parameter bits)
  if parameter.0 == 2 ^ bits_of_parameter - 1 then plain parameter.1 else times_at (residual_at parameter.0) count parameter.1
  where
    plain : List Bool → Result (List ℤ × List Bool) FlacRule
    plain behind = do
      width ← of_frame (field 5 behind)
      times_at (λ rest. of_frame (signed_field width.0 rest)) count width.1

-- so many partitions, each of that many residuals
unfoldable pub partitions_at : ℕ → ℕ → ℕ → List Bool → Result (List ℤ × List Bool) FlacRule
partitions_at bits_of_parameter size zero bits = Ok ([], bits)
partitions_at bits_of_parameter size (suc many) bits = do
  first ← partition_at bits_of_parameter size bits
  others ← partitions_at bits_of_parameter size many first.1
  Ok (first.0 ++ others.0, others.1)

-- The residuals behind a predictor's warm-up of so many samples: equal parts of the block, of which
-- the first is shorter by the warm-up (section 9.2.7).
unfoldable pub residuals_at : ℕ → ℕ → List Bool → Result (List ℤ × List Bool) FlacRule
residuals_at block order bits = do
  method ← of_frame (field 2 bits)
  _ ← holds (nat_lt method.0 2) OtherPartitions
  power ← of_frame (field 4 method.1)
  _ ← holds ((block % 2 ^ power.0 == 0) && nat_le order (block / 2 ^ power.0)) OtherPartitions
  first ← partition_at (4 + method.0) (block / 2 ^ power.0 - order) power.1
  others ← partitions_at (4 + method.0) (block / 2 ^ power.0) (2 ^ power.0 - 1) first.1
  Ok (first.0 ++ others.0, others.1)

-- A subframe as it is coded: the weights and the shift of its predictor (none where samples stand
-- for themselves), the numbers that stand for the samples, and the wasted bits.
pub record Coded : Type 0 where
  pub weights : List ℤ
  pub shift : ℕ
  pub numbers : List ℤ
  pub wasted : ℕ

-- samples as they are, so many
abbrev pub samples_at : ℕ → ℕ → List Bool → Result (List ℤ × List Bool) FlacRule
samples_at depth count bits = times_at (λ rest. of_frame (signed_field depth rest)) count bits

-- a predictor's shift and weights, behind its warm-up (section 9.2.6)
unfoldable pub predictor_at : ℕ → List Bool → Result ((ℕ × List ℤ) × List Bool) FlacRule
predictor_at order bits = do
  precision ← of_frame (field 4 bits)
  _ ← holds (not (precision.0 == 15)) ForbiddenPrecision
  shift ← of_frame (signed_field 5 precision.1)
  _ ← holds (not (is_negative shift.0)) NegativeShift
  weights ← samples_at (precision.0 + 1) order shift.1
  Ok ((unsigned_abs shift.0, weights.0), weights.1)

-- what a subframe codes of a block of samples of so many bits, wasted ones not counted (sections
-- 9.2.3 to 9.2.6)
unfoldable pub content_at : Coding → ℕ → ℕ → ℕ → List Bool → Result (Coded × List Bool) FlacRule
content_at constant block depth wasted bits = do
  sample ← of_frame (signed_field depth bits)
  Ok (record { weights = []; shift = 0; numbers = replicate block sample.0; wasted = wasted }, sample.1)
content_at verbatim block depth wasted bits = do
  samples ← samples_at depth block bits
  Ok (record { weights = []; shift = 0; numbers = samples.0; wasted = wasted }, samples.1)
content_at (fixed order) block depth wasted bits = do
  warm_up ← samples_at depth order bits
  residuals ← residuals_at block order warm_up.1
  Ok (record { weights = fixed_weights order; shift = 0; numbers = warm_up.0 ++ residuals.0; wasted = wasted }, residuals.1)
content_at (linear order) block depth wasted bits = do
  warm_up ← samples_at depth order bits
  predictor ← predictor_at order warm_up.1
  residuals ← residuals_at block order predictor.1
  Ok (record { weights = predictor.0.1; shift = predictor.0.0; numbers = warm_up.0 ++ residuals.0; wasted = wasted }, residuals.1)

-- a subframe of a block of samples of so many bits
unfoldable pub subframe_at : ℕ → ℕ → List Bool → Result (Coded × List Bool) FlacRule
subframe_at block depth bits = do
  head ← subframe_head_at block depth bits
  content_at head.0.0 block (depth - head.0.1) head.0.1 head.1

-- The samples of a channel: those that the coded numbers spell within the depth less the wasted
-- bits, with as many bits of 0 behind each (section 9.2.2).
pub record IsSpelledBy (depth : ℕ) (coded : Coded) (samples : List ℤ) : Type 0 where
  pub spelled : List ℤ
  pub spells : Spells coded.weights coded.shift (depth - coded.wasted) spelled coded.numbers
  pub shifted : samples ≡ map (λ (s : ℤ). s *ℤ pos (2 ^ coded.wasted)) spelled

-- One channel: a subframe, and the samples that it spells, with the bits behind it. It is refused
-- where it spells none.
abbrev pub Channel : ℕ → ℕ → List Bool → Result (List ℤ × List Bool) FlacRule → Type 0
Channel block depth bits =
    Then (Is (subframe_at block depth bits)) (λ coded.
    Then (Finds (IsSpelledBy depth coded.0) OutOfRange) (λ samples. Is (Ok (samples, coded.1))))
