use Rattle.std.proofs.Common.{refl}
use Rattle.std.specs.Fmt.{digits}
use Rattle.http_replies.proofs.writing.closing_text.Goals as goal

pub returns : goal.returns
unfolding digits
returns c = refl
