-- Samples that are told by how far they are from a prediction (RFC 9639 sections 4.3, 9.2.5 and 9.2.6).
use Rattle.std.specs.Prelude.{◌≡◌, ◌≤◌, ◌<◌, ◌-◌, ◌^◌, ℕ, zero, suc, ℤ, pos, neg_ℤ, ◌+ℤ◌, ◌-ℤ◌, ◌*ℤ◌, List, [], ◌∷◌, length, take, slice_index_or, All}
use Rattle.std.specs.Int.{int_div_euclid}
use Rattle.lib_base.specs.Sounds.{IsSample}

-- the number at a place
abbrev pub at : List ℤ → ℕ → ℤ
at xs place = slice_index_or xs place (pos 0)

-- the weights of the fixed predictor of an order (RFC 9639 section 9.2.5)
abbrev pub fixed_weights : ℕ → List ℤ
fixed_weights zero = []
fixed_weights (suc zero) = pos 1 ∷ []
fixed_weights (suc (suc zero)) = pos 2 ∷ neg_ℤ (pos 1) ∷ []
fixed_weights (suc (suc (suc zero))) = pos 3 ∷ neg_ℤ (pos 3) ∷ pos 1 ∷ []
fixed_weights (suc (suc (suc (suc more)))) = pos 4 ∷ neg_ℤ (pos 6) ∷ pos 4 ∷ neg_ℤ (pos 1) ∷ []

-- the sum of weights by samples: the first weight by the sample just before a place, each next one by the sample before that
unfoldable pub weighted_before : List ℤ → List ℤ → ℕ → ℤ
weighted_before [] samples place = pos 0
weighted_before (weight ∷ weights) samples place =
    (weight *ℤ at samples (place - 1)) +ℤ weighted_before weights samples (place - 1)

-- the prediction of the sample at a place: that sum over 2^shift, rounded down
unfoldable pub predicted : List ℤ → ℕ → List ℤ → ℕ → ℤ
predicted weights shift samples place = int_div_euclid (weighted_before weights samples place) (pos (2 ^ shift))

-- The coded list spells the samples: it has as many of the first samples as there are weights, then of each sample its
-- residual, which is the sample less its prediction. The samples are within the depth.
pub record Spells (weights : List ℤ) (shift depth : ℕ) (samples coded : List ℤ) : Type 0 where
  pub as_many : length samples ≡ length coded
  pub warm_up : (place : ℕ) → place < length weights → at coded place ≡ at samples place
  pub residual : (place : ℕ) → length weights ≤ place → place < length coded
      → at coded place ≡ at samples place -ℤ predicted weights shift samples place
  pub within : All (IsSample depth) samples

-- What stands before a place spells samples, and the sample that the residual at the place makes of its prediction
-- from those is not within the depth.
pub record Leaves (weights : List ℤ) (shift depth : ℕ) (coded : List ℤ) (place : ℕ) : Type 0 where
  pub before : List ℤ
  pub behind : length weights ≤ place
  pub inside : place < length coded
  pub spelled : Spells weights shift depth before (take place coded)
  pub outside : ¬ IsSample depth (at coded place +ℤ predicted weights shift before place)
