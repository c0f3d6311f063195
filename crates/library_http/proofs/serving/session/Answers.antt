use Rattle.std.proofs.Common.{[]}
use Rattle.std.proofs.KnownBytes.{Consumes-nil}
use Rattle.library_http.specs.World.{world}
use Rattle.library_http.proofs.Framing.{IsFramed-unread}
use Rattle.library_http.proofs.Served.{Serves-unread}
use Rattle.library_http.proofs.serving.session.Goals as goal

pub returns-in_default-clause-session : goal.returns-in_default-clause-session
returns-in_default-clause-session g c = λ start keeps.
    let source = g.S.Source.shown c.args.source.now in
    Serves-unread start c.args.requests [] [] source source (g.K.Sink.shown c.args.sink.now)
    (world c.args.library.now (g.D.Keeper.shown c.args.keeper.now) (g.V.Vault.shown c.args.vault.now)) keeps (Consumes-nil source.left)

pub returns-in_default-new-clause-session : goal.returns-in_default-new-clause-session
returns-in_default-new-clause-session g c = λ start keeps.
    let source = g.S.Source.shown c.args.source.now in
    Serves-unread start c.args.requests [] [] source source (g.K.Sink.shown c.args.sink.now)
    (world c.args.library.now (g.D.Keeper.shown c.args.keeper.now) (g.V.Vault.shown c.args.vault.now)) keeps (Consumes-nil source.left)

pub returns-in_default-clause-framed : goal.returns-in_default-clause-framed
returns-in_default-clause-framed g c = IsFramed-unread c.args.requests (g.S.Source.shown c.args.source.now)

pub returns-in_default-new-clause-framed : goal.returns-in_default-new-clause-framed
returns-in_default-new-clause-framed g c = IsFramed-unread c.args.requests (g.S.Source.shown c.args.source.now)
