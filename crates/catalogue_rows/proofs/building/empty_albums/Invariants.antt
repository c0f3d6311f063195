use Rattle.std.proofs.Common.{[], take}
use Rattle.catalogue_rows.specs.Opening.{AreAlbumsOf}
use Rattle.catalogue_rows.proofs.building.empty_albums.Given as goal

abbrev pub invariant-loop-row : goal.invariant-loop-row
invariant-loop-row l = AreAlbumsOf (λ id. []) (take l._row-index l.rows) l.albums.items
