use Rattle.std.proofs.Common.{sym}
use Rattle.http_asking.proofs.TextLemmas.{if_name-other}
use Rattle.http_asking.proofs.fields.name_of.Goals as goal

pub returns-in-Err : goal.returns-in-Err
returns-in-Err c = sym (if_name-other c.args.text.now c.in-Err.ensures.cases.0)
