-- Two channels that are told by their sum and difference (RFC 9639 section 4.2).
use Rattle.std.specs.Prelude.{◌≡◌, ◌<◌, ◌+◌, ℕ, ℤ, pos, ◌+ℤ◌, ◌-ℤ◌, List, length, take, All}
use Rattle.std.specs.Int.{int_div_euclid}
use Rattle.lib_base.specs.Sounds.{IsSample}
use Rattle.file_model.specs.declared.pairs.Stereo.{Stereo}
use Rattle.file_model.specs.declared.pairs.Stereo.TheVariants.{LeftSide, SideRight, MidSide}
use Rattle.file_model.specs.Predict.{at}

-- how much the left sample is above the right one
abbrev pub side : ℤ → ℤ → ℤ
side left right = left -ℤ right

-- half the sum of the two, rounded down
abbrev pub mid : ℤ → ℤ → ℤ
mid left right = int_div_euclid (left +ℤ right) (pos 2)

-- what stands in the first channel for a left and a right sample
abbrev pub first_of : Stereo → ℤ → ℤ → ℤ
first_of LeftSide left right = left
first_of SideRight left right = side left right
first_of MidSide left right = mid left right

-- what stands in the second
abbrev pub second_of : Stereo → ℤ → ℤ → ℤ
second_of LeftSide left right = side left right
second_of SideRight left right = right
second_of MidSide left right = side left right

-- how many bits a number has in the first channel, where the samples have so many
abbrev pub first_depth : Stereo → ℕ → ℕ
first_depth LeftSide depth = depth
first_depth SideRight depth = depth + 1
first_depth MidSide depth = depth

-- and in the second
abbrev pub second_depth : Stereo → ℕ → ℕ
second_depth LeftSide depth = depth + 1
second_depth SideRight depth = depth
second_depth MidSide depth = depth + 1

-- two numbers stand for a left and a right sample
pub record IsPair (kind : Stereo) (left right first second : ℤ) : Type 0 where
  pub is_first : first ≡ first_of kind left right
  pub is_second : second ≡ second_of kind left right

-- Two coded channels spell the samples of a left and of a right one, place by place. The samples are within the depth.
pub record SpellsPair (kind : Stereo) (depth : ℕ) (left right first second : List ℤ) : Type 0 where
  pub equal : length second ≡ length first
  pub as_many_left : length left ≡ length first
  pub as_many_right : length right ≡ length first
  pub pairs : (place : ℕ) → place < length first → IsPair kind (at left place) (at right place) (at first place) (at second place)
  pub left_within : All (IsSample depth) left
  pub right_within : All (IsSample depth) right

-- two numbers stand for a left and a right sample that are not both within the depth
pub record IsPairOutside (kind : Stereo) (depth : ℕ) (first second : ℤ) : Type 0 where
  pub left : ℤ
  pub right : ℤ
  pub pair : IsPair kind left right first second
  pub outside : ¬ (IsSample depth left × IsSample depth right)

-- What stands before a place spells samples, and the two numbers at the place are for samples that are not both within the depth.
pub record LeavesPair (kind : Stereo) (depth : ℕ) (first second : List ℤ) (place : ℕ) : Type 0 where
  pub left_before : List ℤ
  pub right_before : List ℤ
  pub inside : place < length first
  pub spelled : SpellsPair kind depth left_before right_before (take place first) (take place second)
  pub here : IsPairOutside kind depth (at first place) (at second place)
