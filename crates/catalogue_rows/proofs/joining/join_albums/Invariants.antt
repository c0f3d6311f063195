use Rattle.std.proofs.Common.{◌≡◌, ◌++◌, length, map}
use Rattle.std.specs.Vec.Iter.{into_iter_items, into_iter_len}
use Rattle.catalogue_rows.specs.Holding.{album_row, album_members}
use Rattle.catalogue_rows.proofs.joining.join_albums.Given as goal

-- what is joined, and what is left to join
abbrev pub invariant-loop-row : goal.invariant-loop-row
invariant-loop-row l = record {
  counted : into_iter_len l.row-iterator ≡ length (into_iter_items l.row-iterator);
  counted_beside : into_iter_len l.albums ≡ length (into_iter_items l.albums);
  long : length (into_iter_items l.row-iterator) ≡ length (into_iter_items l.albums);
  rows : map album_row l.kept.items ++ into_iter_items l.row-iterator ≡ l.fn.rows.items;
  beside : map album_members l.kept.items ++ into_iter_items l.albums ≡ l.fn.albums.items;
}
