use Rattle.std.proofs.Common.{◌≡◌, ℕ, take}
use Rattle.std.specs.Prelude.{unwrap_or}
use Rattle.std.specs.BTreeMap.{get}
use Rattle.std.specs.Ordering.{nat_cmp}
use Rattle.library_model.specs.RowRules.{member_count}
use Rattle.row_rules.proofs.lookups.member_counts.Given as goal

abbrev pub invariant-loop-row : goal.invariant-loop-row
invariant-loop-row l = (id : ℕ) → unwrap_or (get nat_cmp l.counts id) 0 ≡ member_count id (take l.row-index l.recordings)
