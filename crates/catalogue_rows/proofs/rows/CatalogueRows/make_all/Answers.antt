use Rattle.std.proofs.Common.{◌≡◌, ◌+◌, List, [], ◌∷◌, length, ap, sym, ◌∙◌, subst, arith}
use Rattle.std.specs.Vec.Iter.{into_iter_items}
use Rattle.keeper_store.specs.Changes.{changed, changed_all}
use Rattle.keeper_store.specs.declared.contents.Change.{Change}
use Rattle.keeper_store.specs.declared.contents.Tables.{Tables}
use Rattle.keeper_store.proofs.Changing.{none_left}
use Rattle.catalogue_rows.specs.declared.fresh.Fresh.{Fresh}
use Rattle.catalogue_rows.specs.Holding.{Holds}
use Rattle.catalogue_rows.specs.Making.{FitsAll}
use Rattle.catalogue_rows.specs.Room.{HasRoomFor}
use Rattle.catalogue_rows.proofs.Rooms.{first_room}
use Rattle.catalogue_rows.proofs.rows.CatalogueRows.make_all.Goals as goal

pub make_one-fresh-requires : goal.make_one-fresh-requires
make_one-fresh-requires c =
    let at = c.loop-change in
    let rest = into_iter_items c.next.new.self in
    let steps : into_iter_items at.change-iterator ≡ c.in-Some.change ∷ rest = c.in-Some.ensures.steps.0 in
    first_room at.self at.fresh c.in-Some.change rest (subst (HasRoomFor at.self at.fresh) steps at.invariant.room)

pub loop-change-preserved : goal.loop-change-preserved
loop-change-preserved c =
    let at = c.loop-change in
    let rest = into_iter_items c.next.new.self in
    let change = c.in-Some.change in
    let steps : into_iter_items at.change-iterator ≡ change ∷ rest = c.in-Some.ensures.steps.0 in
    let more : length (into_iter_items at.change-iterator) ≡ length rest + 1 = omega (arith, ap length steps) in
    let gone = c.in-Some.ensures.steps.1 in
    record {
      counted = omega (arith, at.invariant.counted, gone, more);
      room = c.make_one-fresh.ensures.room rest (subst (HasRoomFor at.self at.fresh) steps at.invariant.room);
      leads = λ t holds fits.
          let so_far = at.invariant.leads t holds fits in
          let now = so_far.0 in
          let left = subst (λ (l : List Change). FitsAll l at.fresh now) steps so_far.2 in (
            changed change now,
            c.make_one-fresh.ensures.held now so_far.1 left.0,
            subst (λ (f : Fresh). FitsAll rest f (changed change now)) (sym c.make_one-fresh.ensures.left) left.1,
            ap (λ (l : List Change). changed_all l now) (sym steps) ∙ so_far.3,
          );
    }

pub returns : goal.returns
returns c t holds fits =
    let at = c.loop-change in
    let none = c.in-None.ensures.steps in
    let empty : into_iter_items at.change-iterator ≡ [] = none_left _ (sym at.invariant.counted ∙ none.0) in
    let so_far = at.invariant.leads t holds fits in
    let same : so_far.0 ≡ changed_all c.args.changes.items t =
    ap (λ (l : List Change). changed_all l so_far.0) (sym empty) ∙ so_far.3 in
    subst (λ (u : Tables). Holds at.self u) same so_far.1
