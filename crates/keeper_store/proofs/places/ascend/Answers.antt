use Rattle.std.proofs.Common.{rules}
use Rattle.std.proofs.lemmas.Fn.{always_returns_same}
use Rattle.keeper_store.proofs.Putting.{tested_Ascends}
use Rattle.keeper_store.proofs.places.ascend.Goals as goal

pub returns : goal.returns
returns g c =
    let less = g.R.Ranked.less in
    let answer = c.is_sorted_by.ensures.cases less (always_returns_same _ _ _ (λ a r f k. search rules)) in
    tested_Ascends less g.met.R.Ranked.order c.args.rows.now c.is_sorted_by.result answer
