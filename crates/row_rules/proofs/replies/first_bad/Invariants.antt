use Rattle.std.proofs.Common.{◌≡◌}
use Rattle.library_model.specs.RowRules.{bad_reply}
use Rattle.row_rules.proofs.Walking.{NoneSoFar}
use Rattle.row_rules.proofs.replies.first_bad.Given as goal

abbrev pub invariant-loop-index : goal.invariant-loop-index
invariant-loop-index l = NoneSoFar bad_reply l.replies l.index
