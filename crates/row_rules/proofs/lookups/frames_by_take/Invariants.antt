use Rattle.std.proofs.Common.{◌≡◌, ◌≤◌, ℕ, drop, length}
use Rattle.std.specs.BTreeMap.{get}
use Rattle.std.specs.Ordering.{nat_cmp}
use Rattle.library_model.specs.RowRules.{frames_of_take}
use Rattle.row_rules.proofs.lookups.frames_by_take.Given as goal

abbrev pub invariant-loop-left : goal.invariant-loop-left
invariant-loop-left l = record {
  inside : l.left ≤ length l.recordings;
  frames : (number : ℕ) → get nat_cmp l.frames number ≡ frames_of_take number (drop l.left l.recordings);
}

abbrev pub decreases-loop-left : goal.decreases-loop-left
decreases-loop-left l = l.left
