use Rattle.std.proofs.Common.{ap, ◌∙◌}
use Rattle.keeper_store.specs.Puts.{put}
use Rattle.kept_replies.specs.declared.replies.KeptReply.{KeptReply}
use Rattle.kept_replies.specs.Orders.{kept_less}
use Rattle.kept_replies.proofs.KeptRows.{put_kept}
use Rattle.kept_replies.proofs.keeping.KeptReplies.put.Goals as goal

pub returns-clause-held : goal.returns-clause-held
returns-clause-held c rows holds =
    put_kept c.args.row rows c.args.self.now.replies.items _ holds
    (c.put_row.ensures.items ∙ ap (λ (k : KeptReply). put kept_less k c.args.self.now.replies.items) c.of.ensures)
