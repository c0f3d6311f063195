use Rattle.kept_replies.specs.Tokens.{text_of}
use Rattle.library_model.specs.Asked.{change}
use Rattle.http_model.specs.Asking.{name_values, wanted_at}
use Rattle.http_model.proofs.AskingStatuses.{wanted_at-below}
use Rattle.library_http.specs.World.{world}
use Rattle.library_http.proofs.Acting.{Acts-decided, Acts-unread}
use Rattle.library_http.proofs.changing.change.Goals as goal

pub returns-in-Ok-None-clause-acts : goal.returns-in-Ok-None-clause-acts
returns-in-Ok-None-clause-acts g c = λ s keeps q lies same.
    let unkept = rw c.in-Ok-None.field-0-is at (c.in-Ok-None.ensures.unkept s keeps) in
    c.want.ensures.acts s keeps unkept q lies same

pub returns-in-Ok-Some-clause-acts : goal.returns-in-Ok-Some-clause-acts
returns-in-Ok-Some-clause-acts g c = λ s keeps q lies same.
    let wants = wanted_at c.args.resource (name_values q.head) q.body in
    let kept = rw c.in-Ok-Some.field-0-is at (c.in-Ok-Some.ensures.kept s keeps wants) in
    Acts-decided s (change (text_of c.args.token) c.args.mark wants) c.in-Ok-Some.reply
    (world c.args.library.now (g.D.Keeper.shown c.args.keeper.now) (g.V.Vault.shown c.args.vault.now)) keeps
    (wanted_at-below (text_of c.args.token) c.args.mark c.args.resource (name_values q.head) q.body) kept

pub returns-in-Err-clause-acts : goal.returns-in-Err-clause-acts
returns-in-Err-clause-acts g c = λ s keeps q lies same. Acts-unread s _ _ keeps
