use Rattle.std.proofs.Common.{◌≡◌, length}
use Rattle.std.specs.Vec.Iter.{into_iter_items, into_iter_len}
use Rattle.keeper_store.specs.Changes.{changed_all}
use Rattle.keeper_store.specs.declared.contents.Tables.{Tables}
use Rattle.catalogue_rows.specs.Holding.{Holds}
use Rattle.catalogue_rows.specs.Making.{FitsAll}
use Rattle.catalogue_rows.specs.Room.{HasRoomFor}
use Rattle.catalogue_rows.proofs.rows.CatalogueRows.make_all.Given as goal

-- there is room for the changes that are left, they fit what the rows hold, and lead where all the changes lead
abbrev pub invariant-loop-change : goal.invariant-loop-change
invariant-loop-change l = record {
  counted : into_iter_len l.change-iterator ≡ length (into_iter_items l.change-iterator);
  room : HasRoomFor l.self l.fresh (into_iter_items l.change-iterator);
  leads : (t : Tables) → Holds l.fn.self t → FitsAll l.fn.changes.items l.fn.fresh t
      → (now : Tables) × Holds l.self now × FitsAll (into_iter_items l.change-iterator) l.fresh now
      × (changed_all (into_iter_items l.change-iterator) now ≡ changed_all l.fn.changes.items t);
}
