-- What the items of a list end as, where a `&mut` to them is returned.
use Rattle.std.specs.Prelude.{List, length}
use Rattle.std.specs.List.{refill}
use Rattle.std.specs.Borrow.{Lends, Fml, RattleType, MutBor, Array}
use Rattle.lib_base.specs.contracts.values.Seq.{the_row}

module _ (T : RattleType) (items : MutBor (List T.Denot)) where
  -- once the borrow r ends, the items are those that r shows last
  abbrev pub lends_items : MutBor (List T.Denot) → Fml
  lends_items r = Lends (the_row T) (Array T 0) items r (refill (length items.now) items.now)
