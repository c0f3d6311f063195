use Rattle.std.proofs.Common.{List, sym, subst}
use Rattle.keeper_store.specs.Puts.{Ascends}
use Rattle.kept_replies.specs.declared.replies.KeptReply.{KeptReply}
use Rattle.kept_replies.specs.Orders.{kept_less}
use Rattle.kept_replies.proofs.KeptRows.{Ascends-kept}
use Rattle.kept_replies.proofs.keeping.KeptReplies.of.Goals as goal

pub invariant_of-result : goal.invariant_of-result
invariant_of-result c = record {
  ascend = subst (λ (l : List KeptReply). Ascends kept_less l) (sym c.in_ok-replies.ensures) (Ascends-kept c.args.rows.items c.requires);
}
