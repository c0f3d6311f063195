use Rattle.std.proofs.lemmas.Result.{IfOk-weaker}
use Rattle.http_asking.proofs.TextLemmas.{if_token-of}
use Rattle.http_asking.proofs.fields.token_of.Goals as goal

pub returns : goal.returns
returns c = IfOk-weaker c.of.result _ _ (if_token-of c.args.text.now) c.of.ensures
