use Rattle.http_model.specs.Requests.{head_limit}
use Rattle.http_model.proofs.RequestLaws.{HasNoHead-full}
use Rattle.http_inbox.proofs.heads.open_or_full.Goals as goal

pub returns-else-bytes-lt-MOST_HEAD_BYTES : goal.returns-else-bytes-lt-MOST_HEAD_BYTES
unfolding head_limit
returns-else-bytes-lt-MOST_HEAD_BYTES c =
    (c.requires.some, λ more. HasNoHead-full c.args.bytes.now more c.if-bytes-lt-MOST_HEAD_BYTES.false c.requires.none)
