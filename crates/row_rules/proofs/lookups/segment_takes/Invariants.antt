use Rattle.std.proofs.Common.{◌≡◌, ℕ, take}
use Rattle.std.specs.BTreeSet.{contains}
use Rattle.std.specs.Ordering.{nat_cmp}
use Rattle.library_model.specs.RowRules.{has_segments}
use Rattle.row_rules.proofs.lookups.segment_takes.Given as goal

abbrev pub invariant-loop-row : goal.invariant-loop-row
invariant-loop-row l = (number : ℕ) → contains nat_cmp l.takes number ≡ has_segments number (take l.row-index l.segments)
