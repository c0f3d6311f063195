use Rattle.std.proofs.Common.{◌*◌, ◌<◌, ◌≤◌, ◌-◌, ℕ}
use Rattle.sound_model.specs.Levels.{entry}
use Rattle.db_table.proofs.levels.greatest_place.Given as goal

-- the place stands below `high`, whose ratio is too great, as those of all later places are
pub record PlaceIsBetween (limit b low high : ℕ) : Type 0 where
  pub in_order : low < high
  pub is_place : high ≤ 2000
  pub reached : entry low * b ≤ limit
  pub passed : (k : ℕ) → high ≤ k → k < 2000 → limit < entry k * b

abbrev pub invariant-loop-high : goal.invariant-loop-high
invariant-loop-high l = PlaceIsBetween l.limit l.b l.low l.high

abbrev pub decreases-loop-high : goal.decreases-loop-high
decreases-loop-high l = l.high - l.low
