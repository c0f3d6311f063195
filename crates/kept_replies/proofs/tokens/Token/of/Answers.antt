use Rattle.kept_replies.proofs.TokenLemmas.{is_token-other}
use Rattle.kept_replies.proofs.tokens.Token.of.Goals as goal

pub returns-in-Err : goal.returns-in-Err
returns-in-Err c = is_token-other c.args.bytes.now c.in-Err.ensures.cases.0
