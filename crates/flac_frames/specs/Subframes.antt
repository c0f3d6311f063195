-- A subframe as the code holds it.
use Rattle.std.specs.Prelude.{◌≤◌, ◌+◌, ℕ, ℤ, Bool, nat_lt, List, [], length, take, All, Result, Ok}
use Rattle.lib_base.specs.Sounds.{IsSample}
use Rattle.file_model.specs.declared.flac_rules.FlacRule.{FlacRule}
use Rattle.file_model.specs.declared.flac_rules.FlacRule.TheVariants.{OutOfRange, WastedBits}
use Rattle.file_model.specs.Fields.{unary_at}
use Rattle.file_model.specs.FlacHeader.{of_frame}
use Rattle.file_model.specs.Outcomes.{◌>>=◌, holds, Is, Then, Finds}
use Rattle.file_model.specs.Predict.{fixed_weights, Spells}
use Rattle.file_model.specs.Subframe as model
use Rattle.file_model.specs.Subframe.{wasted_at}
use Rattle.flac_frames.specs.declared.subframe.Coding.{Coding}
use Rattle.flac_frames.specs.declared.subframe.Coding.TheVariants.{Constant, Verbatim, Fixed, Linear}
use Rattle.flac_frames.specs.declared.subframe.Weights.{Weights}
use Rattle.flac_frames.specs.declared.subframe.Predictor.{Predictor}
use Rattle.flac_frames.specs.declared.subframe.Predictor.TheVariants as by

-- the way to code a channel
abbrev pub coding_as : Coding → model.Coding
coding_as Constant = model.constant
coding_as Verbatim = model.verbatim
coding_as (Fixed order) = model.fixed order
coding_as (Linear order) = model.linear order

-- a predictor has so many weights as there can be, and no more than a block has samples
abbrev pub HasRoom : ℕ → Coding → Type 0
HasRoom block Constant = 0 ≤ block
HasRoom block Verbatim = 0 ≤ block
HasRoom block (Fixed order) = (order ≤ 4) × (order ≤ block)
HasRoom block (Linear order) = (1 ≤ order) × (order ≤ 32) × (order ≤ block)

-- the weights of a linear predictor
abbrev pub weights_in : Weights → List ℤ
weights_in linear = take linear.order linear.weights

-- the weights of a predictor, none where samples stand for themselves
abbrev pub weights_of : Predictor → List ℤ
weights_of by.Plain = []
weights_of (by.Fixed order) = fixed_weights order
weights_of (by.Linear linear) = weights_in linear

-- its shift
abbrev pub shift_of : Predictor → ℕ
shift_of by.Plain = 0
shift_of (by.Fixed order) = 0
shift_of (by.Linear linear) = linear.shift

-- what is coded, of these numbers
abbrev pub coded_by : Predictor → List ℤ → ℕ → model.Coded
coded_by predictor numbers wasted = record { weights = weights_of predictor; shift = shift_of predictor; numbers = numbers; wasted = wasted }

-- weights as they can be coded
pub record AreWeights (linear : Weights) : Type 0 where
  pub some : 1 ≤ linear.order
  pub few : linear.order ≤ 32
  pub bits : All (IsSample 15) (weights_in linear)
  pub shift : linear.shift ≤ 15

-- numbers from which samples of a depth can be restored: the warm-up is within it
abbrev pub IsReady : ℕ → Predictor → List ℤ → Type 0
IsReady depth by.Plain numbers = All (IsSample depth) numbers
IsReady depth (by.Fixed order) numbers = (order ≤ 4) × (order ≤ length numbers) × All (IsSample depth) (take order numbers)
IsReady depth (by.Linear linear) numbers =
    AreWeights linear × (linear.order ≤ length numbers) × All (IsSample depth) (take linear.order numbers)

-- the samples within a depth that numbers spell
abbrev pub Restores : Predictor → ℕ → List ℤ → Result (List ℤ) FlacRule → Type 0
Restores predictor depth numbers =
    Finds (λ spelled. Spells (weights_of predictor) (shift_of predictor) depth spelled numbers) OutOfRange

-- the samples that what is coded spells, with the bits behind it
abbrev pub Spelled : ℕ → Result (model.Coded × List Bool) FlacRule → Result (List ℤ × List Bool) FlacRule → Type 0
Spelled depth coded =
    Then (Is coded) (λ coded.
    Then (Finds (model.IsSpelledBy depth coded.0) OutOfRange) (λ samples. Is (Ok (samples, coded.1))))

-- what follows the first bit of wasted ones, where that is 1
unfoldable pub head_with_some : ℕ → model.Coding → List Bool → Result ((model.Coding × ℕ) × List Bool) FlacRule
head_with_some depth coding bits = do
  more ← of_frame (unary_at bits)
  _ ← holds (nat_lt (more.0 + 1) depth) WastedBits
  Ok ((coding, more.0 + 1), more.1)

-- the wasted bits of a head
unfoldable pub head_with : ℕ → model.Coding → List Bool → Result ((model.Coding × ℕ) × List Bool) FlacRule
head_with depth coding bits = do
  wasted ← wasted_at bits
  _ ← holds (nat_lt wasted.0 depth) WastedBits
  Ok ((coding, wasted.0), wasted.1)
