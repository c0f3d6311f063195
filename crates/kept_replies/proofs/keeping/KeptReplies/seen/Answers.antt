use Rattle.std.proofs.Common.{ℕ, List, ap, ◌∙◌}
use Rattle.std.specs.List.{find}
use Rattle.std.specs.Str.{bytes_eq}
use Rattle.keeper_store.specs.declared.row_types.ReplyRow.{ReplyRow}
use Rattle.kept_replies.specs.declared.replies.KeptReply.{KeptReply}
use Rattle.kept_replies.specs.Tokens.{text_of}
use Rattle.kept_replies.proofs.KeptRows.{find_held}
use Rattle.kept_replies.proofs.keeping.KeptReplies.seen.Goals as goal

pub returns-clause-sees : goal.returns-clause-sees
returns-clause-sees c rows holds =
    let token = text_of c.args.token.now in
    let found = c.find_reply.ensures
    ∙ ap (λ (t : List ℕ). find (λ (k : KeptReply). bytes_eq k.token t) c.as_slice.result.now) c.as_str.ensures.text
    ∙ ap (find (λ (k : KeptReply). bytes_eq k.token token)) c.as_slice.ensures.value in
    c.see.ensures.sees (find (λ (row : ReplyRow). bytes_eq row.token token) rows)
    (found ∙ find_held token c.args.self.now.replies.items rows holds)
