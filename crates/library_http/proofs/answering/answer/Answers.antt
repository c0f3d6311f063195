use Rattle.std.proofs.Common.{◌≡◌, ◌∙◌, subst}
use Rattle.kept_replies.specs.Tokens.{text_of}
use Rattle.library_model.specs.Asked.{Asked, change, question, refused}
use Rattle.http_model.specs.Asking.{asked_of, name_values, wanted_at}
use Rattle.library_http.specs.Acts.{Acts}
use Rattle.library_http.specs.Turns.{reply_given}
use Rattle.library_http.specs.World.{world}
use Rattle.library_http.proofs.Acting.{Acts-unread}
use Rattle.library_http.proofs.Replying.{Acts-asked, Acts-refused, allows_asked, allows_changed, allows_refused}
use Rattle.library_http.proofs.answering.answer.Goals as goal

pub returns-in-Ok-Refused-clause-acts : goal.returns-in-Ok-Refused-clause-acts
returns-in-Ok-Refused-clause-acts g c = λ s keeps q lies same.
    let says : refused c.in-Ok-Refused.reply ≡ asked_of q = rw c.in-Ok-Refused.field-0-is at (c.in-Ok-Refused.ensures.says q lies (c.as_slice.ensures ∙ same)) in
    Acts-refused s q c.in-Ok-Refused.reply (world c.args.library.now (g.D.Keeper.shown c.args.keeper.now) (g.V.Vault.shown c.args.vault.now)) keeps
    says

pub returns-in-Ok-Refused-clause-allows : goal.returns-in-Ok-Refused-clause-allows
returns-in-Ok-Refused-clause-allows g c = λ q lies same.
    let says : refused c.in-Ok-Refused.reply ≡ asked_of q = rw c.in-Ok-Refused.field-0-is at (c.in-Ok-Refused.ensures.says q lies (c.as_slice.ensures ∙ same)) in
    let named = rw c.in-Ok-Refused.field-0-is at (c.in-Ok-Refused.ensures.allows q lies) in
    allows_refused q c.in-Ok-Refused.reply _ says named

pub returns-in-Ok-Question-clause-acts : goal.returns-in-Ok-Question-clause-acts
returns-in-Ok-Question-clause-acts g c = λ s keeps q lies same.
    let says : question c.in-Ok-Question.question ≡ asked_of q = rw c.in-Ok-Question.field-0-is at (c.in-Ok-Question.ensures.says q lies (c.as_slice.ensures ∙ same)) in
    rw c.ask.ensures.vault
    (Acts-asked s q c.in-Ok-Question.question c.ask.result c.ok.result
    (world c.args.library.now (g.D.Keeper.shown c.args.keeper.now) (g.V.Vault.shown c.args.vault.now)) keeps says c.ok.ensures.value
    (c.ask.ensures.answers s keeps))

pub returns-in-Ok-Question-clause-allows : goal.returns-in-Ok-Question-clause-allows
returns-in-Ok-Question-clause-allows g c = λ q lies same.
    let says : question c.in-Ok-Question.question ≡ asked_of q = rw c.in-Ok-Question.field-0-is at (c.in-Ok-Question.ensures.says q lies (c.as_slice.ensures ∙ same)) in
    allows_asked q c.in-Ok-Question.question c.ok.result says

pub returns-in-Ok-Change-clause-acts : goal.returns-in-Ok-Change-clause-acts
returns-in-Ok-Change-clause-acts g c = λ s keeps q lies same.
    let asks = c.in-Ok-Change in
    let says : change (text_of asks.token) asks.mark (wanted_at asks.resource (name_values q.head) q.body) ≡ asked_of q =
    rw asks.field-0-is at (asks.ensures.says q lies (c.as_slice.ensures ∙ same)) in
    subst (λ (a : Asked). Acts s a (reply_given c.change.result)
    (world c.args.library.now (g.D.Keeper.shown c.args.keeper.now) (g.V.Vault.shown c.args.vault.now))
    (world c.change.new.library (g.D.Keeper.shown c.change.new.keeper) (g.V.Vault.shown c.change.new.vault)))
    says (c.change.ensures.acts s keeps q lies same)

pub returns-in-Ok-Change-clause-allows : goal.returns-in-Ok-Change-clause-allows
returns-in-Ok-Change-clause-allows g c = λ q lies same.
    let asks = c.in-Ok-Change in
    let says : change (text_of asks.token) asks.mark (wanted_at asks.resource (name_values q.head) q.body) ≡ asked_of q =
    rw asks.field-0-is at (asks.ensures.says q lies (c.as_slice.ensures ∙ same)) in
    allows_changed q (text_of asks.token) asks.mark (wanted_at asks.resource (name_values q.head) q.body) c.change.result says

pub returns-in-Err-clause-acts : goal.returns-in-Err-clause-acts
returns-in-Err-clause-acts g c = λ s keeps q lies same. Acts-unread s _ _ keeps
