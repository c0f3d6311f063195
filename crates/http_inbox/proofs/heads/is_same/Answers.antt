use Rattle.http_inbox.proofs.FieldLemmas.{is_named-tested}
use Rattle.http_inbox.proofs.heads.is_same.Goals as goal

pub returns : goal.returns
returns c =
    is_named-tested _ c.args.bytes.now c.args.name.now c.eq_ignore_ascii_case.ensures.test.0 c.eq_ignore_ascii_case.ensures.test.1
