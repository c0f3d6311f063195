use Rattle.std.proofs.Common.{◌≡◌, ap, ◌∙◌, subst}
use Rattle.kept_replies.specs.Tokens.{text_of}
use Rattle.library_model.specs.Asked.{Wanted, change, command, malformed}
use Rattle.http_model.specs.Asking.{name_values, wanted_at}
use Rattle.http_model.proofs.AskingStatuses.{wanted_at-below}
use Rattle.library_http.specs.Acts.{Acts}
use Rattle.library_http.specs.Turns.{reply_given}
use Rattle.library_http.specs.World.{world}
use Rattle.library_http.proofs.Acting.{Acts-unread}
use Rattle.library_http.proofs.Replying.{Acts-malformed}
use Rattle.library_http.proofs.changing.want.Goals as goal

pub returns-in-Ok-Command-clause-acts : goal.returns-in-Ok-Command-clause-acts
returns-in-Ok-Command-clause-acts g c = λ s keeps fresh q lies same.
    let says : command c.in-Ok-Command.command ≡ wanted_at c.args.resource (name_values q.head) c.args.body =
    rw c.in-Ok-Command.field-0-is at (c.in-Ok-Command.ensures.says q.head lies) in
    subst (λ (wants : Wanted). Acts s (change (text_of c.args.token) c.args.mark wants) (reply_given c.make.result)
    (world c.args.library.now (g.D.Keeper.shown c.args.keeper.now) (g.V.Vault.shown c.args.vault.now))
    (world c.make.new.library (g.D.Keeper.shown c.make.new.keeper) (g.V.Vault.shown c.make.new.vault)))
    (says ∙ ap (wanted_at c.args.resource (name_values q.head)) same) (c.make.ensures.acts s keeps)

pub returns-in-Ok-Malformed-clause-acts : goal.returns-in-Ok-Malformed-clause-acts
returns-in-Ok-Malformed-clause-acts g c = λ s keeps fresh q lies same.
    let says : malformed c.in-Ok-Malformed.reply ≡ wanted_at c.args.resource (name_values q.head) c.args.body =
    rw c.in-Ok-Malformed.field-0-is at (c.in-Ok-Malformed.ensures.says q.head lies) in
    Acts-malformed s (text_of c.args.token) c.args.mark (wanted_at c.args.resource (name_values q.head) q.body) c.in-Ok-Malformed.reply
    (world c.args.library.now (g.D.Keeper.shown c.args.keeper.now) (g.V.Vault.shown c.args.vault.now)) keeps fresh
    (wanted_at-below (text_of c.args.token) c.args.mark c.args.resource (name_values q.head) q.body)
    (says ∙ ap (wanted_at c.args.resource (name_values q.head)) same)

pub returns-in-Err-clause-acts : goal.returns-in-Err-clause-acts
returns-in-Err-clause-acts g c = λ s keeps fresh q lies same. Acts-unread s _ _ keeps
