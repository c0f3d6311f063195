use Rattle.std.proofs.Common.{Option, sym, subst}
use Rattle.lib_base.specs.Writes.{WritesAll}
use Rattle.library_model.specs.declared.messages.Reply.{Reply}
use Rattle.http_routes.specs.Routes.{methods_if}
use Rattle.http_model.specs.Spelling.{spelled}
use Rattle.library_http.specs.Turns.{allowed_in, reply_given}
use Rattle.library_http.proofs.answering.write_given.Goals as goal

pub returns-in-Some : goal.returns-in-Some
returns-in-Some g c =
    subst (λ (reply : Option Reply). WritesAll {T = Unit {0}} (g.K.Sink.shown c.args.sink.now) (g.K.Sink.shown c.write_reply.new.sink)
    (spelled c.args.closes (allowed_in reply (methods_if c.args.given.now.allows)) (reply_given reply)) c.write_reply.result)
    (sym c.in-Some.is) c.write_reply.ensures

pub returns-in-None : goal.returns-in-None
returns-in-None g c =
    subst (λ (reply : Option Reply). WritesAll {T = Unit {0}} (g.K.Sink.shown c.args.sink.now) (g.K.Sink.shown c.write_memory.new.sink)
    (spelled c.args.closes (allowed_in reply (methods_if c.args.given.now.allows)) (reply_given reply)) c.write_memory.result)
    (sym c.in-None.is) c.write_memory.ensures
