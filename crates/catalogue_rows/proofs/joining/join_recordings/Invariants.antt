use Rattle.std.proofs.Common.{◌≡◌, ◌++◌, length, map}
use Rattle.std.specs.Vec.Iter.{into_iter_items, into_iter_len}
use Rattle.catalogue_rows.specs.Holding.{recording_row, own_tally}
use Rattle.catalogue_rows.proofs.joining.join_recordings.Given as goal

-- what is joined, and what is left to join
abbrev pub invariant-loop-row : goal.invariant-loop-row
invariant-loop-row l = record {
  counted : into_iter_len l.row-iterator ≡ length (into_iter_items l.row-iterator);
  counted_beside : into_iter_len l.tallies ≡ length (into_iter_items l.tallies);
  long : length (into_iter_items l.row-iterator) ≡ length (into_iter_items l.tallies);
  rows : map recording_row l.kept.items ++ into_iter_items l.row-iterator ≡ l.fn.rows.items;
  beside : map own_tally l.kept.items ++ into_iter_items l.tallies ≡ l.fn.tallies.items;
}
