use Rattle.std.proofs.Common.{◌∙◌}
use Rattle.std.specs.Fmt.{decimal}
use Rattle.http_replies.proofs.LineLemmas.{tail-pieces}
use Rattle.http_replies.proofs.heads.tail.Goals as goal

pub returns : goal.returns
returns c =
    let pieces = c.in_ok-text.ensures.ok ∙ tail-pieces (decimal c.len-length.result) c.closing.result.now in
    rw (← c.len-length.ensures, ← c.closing.ensures) pieces
