use Rattle.std.proofs.Common.{rules}
use Rattle.std.proofs.lemmas.Fn.{filter_same}
use Rattle.keeper_store.proofs.drops.drop_by_walk.Goals as goal

pub returns-clause-items : goal.returns-clause-items
returns-clause-items g c = filter_same _ _ _ (λ x b f' k. search rules) _ _ c.retain.ensures.filtered
