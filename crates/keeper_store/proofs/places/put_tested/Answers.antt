use Rattle.std.proofs.Common.{sym, subst}
use Rattle.keeper_store.specs.Puts.{Ascends}
use Rattle.keeper_store.proofs.Putting.{Ascends-put}
use Rattle.keeper_store.proofs.places.put_tested.Goals as goal

pub returns-clause-ascend : goal.returns-clause-ascend
returns-clause-ascend g c = λ tested.
    let less = g.R.Ranked.less in
    subst (Ascends less) (sym c.put_at.ensures.items)
    (Ascends-put less g.met.R.Ranked.order c.args.row c.args.rows.now.items (c.requires.ascend tested))
