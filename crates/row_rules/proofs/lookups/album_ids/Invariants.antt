use Rattle.std.proofs.Common.{◌≡◌, ℕ, take}
use Rattle.std.specs.BTreeSet.{contains}
use Rattle.std.specs.Ordering.{nat_cmp}
use Rattle.library_model.specs.RowRules.{has_album}
use Rattle.row_rules.proofs.lookups.album_ids.Given as goal

abbrev pub invariant-loop-row : goal.invariant-loop-row
invariant-loop-row l = (id : ℕ) → contains nat_cmp l.ids id ≡ has_album id (take l.row-index l.albums)
