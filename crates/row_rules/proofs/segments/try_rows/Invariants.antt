use Rattle.std.proofs.Common.{◌≡◌, take, reverse}
use Rattle.library_model.specs.RowRules.{segments_before, bad_segments}
use Rattle.row_rules.proofs.Walking.{NoneSoFar}
use Rattle.row_rules.proofs.segments.try_rows.Given as goal

abbrev pub invariant-loop-row : goal.invariant-loop-row
invariant-loop-row l = record {
  before : l.before ≡ segments_before (reverse (take l.row-index l.tables.segments));
  none : NoneSoFar (bad_segments l.tables) l.tables.segments l.row-index;
}
