use Rattle.std.proofs.Common.{◌∙◌}
use Rattle.std.specs.Fmt.{decimal}
use Rattle.http_replies.proofs.LineLemmas.{front-pieces}
use Rattle.http_replies.proofs.heads.front.Goals as goal

pub returns : goal.returns
returns c =
    let pieces = c.in_ok-text.ensures.ok ∙ front-pieces (decimal c.args.reply.now.status) c.reason.result.now c.media_type.result.now in
    rw (← c.reason.ensures, ← c.media_type.ensures) pieces
