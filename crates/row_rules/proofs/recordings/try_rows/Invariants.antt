use Rattle.std.proofs.Common.{◌≡◌, ℕ, take, reverse}
use Rattle.std.specs.BTreeSet.{contains}
use Rattle.std.specs.Ordering.{nat_cmp}
use Rattle.library_model.specs.RowRules.{recording_before, bad_recording, is_named}
use Rattle.row_rules.proofs.Walking.{NoneSoFar}
use Rattle.row_rules.proofs.recordings.try_rows.Given as goal

abbrev pub invariant-loop-row : goal.invariant-loop-row
invariant-loop-row l = record {
  before : l.before ≡ recording_before (reverse (take l.row-index l.tables.recordings));
  named : (number : ℕ) → contains nat_cmp l.named number ≡ is_named number (reverse (take l.row-index l.tables.recordings));
  none : NoneSoFar (bad_recording l.tables) l.tables.recordings l.row-index;
}
