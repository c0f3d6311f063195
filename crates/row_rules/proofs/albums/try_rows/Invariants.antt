use Rattle.std.proofs.Common.{◌≡◌, take, reverse}
use Rattle.library_model.specs.RowRules.{album_before, bad_album}
use Rattle.row_rules.proofs.Walking.{NoneSoFar}
use Rattle.row_rules.proofs.albums.try_rows.Given as goal

abbrev pub invariant-loop-row : goal.invariant-loop-row
invariant-loop-row l = record {
  before : l.before ≡ album_before (reverse (take l.row-index l.tables.albums));
  none : NoneSoFar (bad_album l.tables) l.tables.albums l.row-index;
}
