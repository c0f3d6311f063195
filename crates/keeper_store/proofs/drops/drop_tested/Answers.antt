use Rattle.std.proofs.Common.{sym, subst}
use Rattle.keeper_store.specs.Puts.{Ascends}
use Rattle.keeper_store.proofs.Dropping.{Ascends-without}
use Rattle.keeper_store.proofs.drops.drop_tested.Goals as goal

pub returns-then-ascending-clause-ascend : goal.returns-then-ascending-clause-ascend
returns-then-ascending-clause-ascend g c = λ tested.
    let less = g.R.Ranked.less in
    subst (Ascends less) (sym c.drop_by_halving.ensures.items)
    (Ascends-without less g.R.Numbered.number_of c.args.number c.args.rows.now.items (c.requires tested))
