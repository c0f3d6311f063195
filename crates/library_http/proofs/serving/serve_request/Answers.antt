use Rattle.std.proofs.Common.{◌≡◌, Bool, List, ℕ, refl, sym, ap, ◌∙◌, subst}
use Rattle.lib_base.specs.Writes.{WritesAll}
use Rattle.http_inbox.specs.Heads.{IsHeadingOf}
use Rattle.http_inbox.specs.Nexts.{framed}
use Rattle.http_routes.specs.Routes.{methods_if}
use Rattle.http_model.specs.Exchanges.{spelled_to}
use Rattle.http_model.specs.Requests.{closes}
use Rattle.http_model.specs.Spelling.{spelled}
use Rattle.library_http.specs.Turns.{allowed_in, reply_given}
use Rattle.library_http.specs.World.{world}
use Rattle.library_http.proofs.Framing.{ClosesAs-written}
use Rattle.library_http.proofs.Replying.{TurnsOn-written}
use Rattle.library_http.proofs.serving.serve_request.Goals as goal

pub returns-clause-turn : goal.returns-clause-turn
returns-clause-turn g c = λ s keeps head lies.
    let q = framed head c.args.request in
    let there = subst (λ (bytes : List ℕ). IsHeadingOf bytes c.args.request.heading head) (sym c.bytes.ensures.value) lies in
    let given = c.answer-given.result.reply in
    let shuts = lies.values.closes in
    let spells : spelled c.args.request.heading.closes (allowed_in given (methods_if c.answer-given.result.allows)) (reply_given given)
    ≡ spelled_to q (reply_given given) =
    ap (λ (b : Bool). spelled b (allowed_in given (methods_if c.answer-given.result.allows)) (reply_given given)) shuts
    ∙ ap (λ (methods : List (List ℕ)). spelled (closes head) methods (reply_given given)) (c.answer-given.ensures.allows q there refl) in
    TurnsOn-written s q (reply_given given) c.args.request.heading.closes c.write_given-written.result c.turn_of.result
    (g.K.Sink.shown c.args.sink.now) (g.K.Sink.shown c.write_given-written.new.sink)
    (world c.args.library.now (g.D.Keeper.shown c.args.keeper.now) (g.V.Vault.shown c.args.vault.now))
    (world c.answer-given.new.library (g.D.Keeper.shown c.answer-given.new.keeper) (g.V.Vault.shown c.answer-given.new.vault))
    c.turn_of.ensures shuts (c.answer-given.ensures.acts s keeps q there refl)
    (subst (λ (text : List ℕ). WritesAll (g.K.Sink.shown c.args.sink.now) (g.K.Sink.shown c.write_given-written.new.sink) text c.write_given-written.result)
    spells c.write_given-written.ensures)

pub returns-clause-shuts : goal.returns-clause-shuts
returns-clause-shuts g c = λ head lies.
    ClosesAs-written c.args.request.heading.closes c.write_given-written.result c.turn_of.result head c.turn_of.ensures lies.values.closes
