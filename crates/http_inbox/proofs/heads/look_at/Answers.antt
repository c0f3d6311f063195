use Rattle.std.proofs.Common.{◌≡◌, rules, length}
use Rattle.http_inbox.proofs.HeadLemmas.{open_nothing}
use Rattle.http_inbox.proofs.heads.look_at.Goals as goal

pub returns-then-is_empty : goal.returns-then-is_empty
returns-then-is_empty c =
    let none : length c.args.bytes.now ≡ 0 = search rules in open_nothing c.args.bytes.now none
