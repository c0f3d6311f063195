use Rattle.std.proofs.Common.{◌≡◌, length}
use Rattle.std.specs.Vec.Iter.{into_iter_items, into_iter_len}
use Rattle.keeper_store.specs.Changes.{changed_all}
use Rattle.keeper_store.specs.Held.{held_tables, HasRoom, IsInOrder}
use Rattle.keeper_store.proofs.row_tables.RowTables.make_all.Given as goal

-- there is room for the changes that are left, and they lead where all the changes lead
abbrev pub invariant-loop-change : goal.invariant-loop-change
invariant-loop-change l = record {
  counted : into_iter_len l.change-iterator ≡ length (into_iter_items l.change-iterator);
  room : HasRoom l.self (length (into_iter_items l.change-iterator));
  leads : changed_all (into_iter_items l.change-iterator) (held_tables l.self)
      ≡ changed_all l.fn.changes.items (held_tables l.fn.self);
  order : IsInOrder l.fn.self → IsInOrder l.self;
}
