use Rattle.std.proofs.Common.{◌≡◌, ◌+◌, [], ◌∷◌, length, ap, sym, ◌∙◌, arith}
use Rattle.std.specs.Vec.Iter.{into_iter_items}
use Rattle.keeper_store.specs.Changes.{changed_all}
use Rattle.keeper_store.proofs.Changing.{none_left}
use Rattle.keeper_store.proofs.row_tables.RowTables.make_all.Goals as goal

pub make_one-requires : goal.make_one-requires
make_one-requires c =
    let at = c.loop-change in
    let steps : into_iter_items at.change-iterator ≡ c.in-Some.change ∷ into_iter_items c.next.new.self = c.in-Some.ensures.steps.0 in
    let more = ap length steps in
    record {
      albums = omega (arith, at.invariant.room.albums, more);
      recordings = omega (arith, at.invariant.room.recordings, more);
      segments = omega (arith, at.invariant.room.segments, more);
      replies = omega (arith, at.invariant.room.replies, more);
    }

pub loop-change-preserved : goal.loop-change-preserved
loop-change-preserved c =
    let at = c.loop-change in
    let rest = into_iter_items c.next.new.self in
    let steps : into_iter_items at.change-iterator ≡ c.in-Some.change ∷ rest = c.in-Some.ensures.steps.0 in
    let more : length (into_iter_items at.change-iterator) ≡ length rest + 1 = omega (arith, ap length steps) in
    let gone = c.in-Some.ensures.steps.1 in
    record {
      counted = omega (arith, at.invariant.counted, gone, more);
      room = c.make_one.ensures.room (length rest) (rw more at at.invariant.room);
      leads = ap (changed_all rest) c.make_one.ensures.made ∙ rw steps at at.invariant.leads;
      order = λ is. c.make_one.ensures.order (at.invariant.order is);
    }

pub returns-clause-made : goal.returns-clause-made
returns-clause-made c =
    let at = c.loop-change in
    let none = c.in-None.ensures.steps in
    let empty : into_iter_items at.change-iterator ≡ [] = none_left _ (sym at.invariant.counted ∙ none.0) in
    rw empty at at.invariant.leads
