use Rattle.std.proofs.Common.{◌∙◌}
use Rattle.http_replies.proofs.LineLemmas.{allowing-route, allow-pieces}
use Rattle.http_replies.proofs.heads.named.Goals as goal

pub returns : goal.returns
returns c =
    let pieces = c.in_ok-text.ensures.ok ∙ allow-pieces c.allowed.result.now in
    rw (allowing-route c.args.route, ← c.allowed.ensures) pieces
