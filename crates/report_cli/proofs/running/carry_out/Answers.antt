use Rattle.std.proofs.Common.{refl, sym, subst}
use Rattle.cli_words.specs.declared.commands.Command.{Command}
use Rattle.report_cli.specs.Running.{CarriesOut}
use Rattle.report_cli.specs.Seen.{seen}
use Rattle.report_cli.proofs.RunLemmas.{keeps_opened, all_by_bytes}
use Rattle.report_cli.proofs.running.carry_out.Goals as goal

pub returns-in-Session-clause-carries : goal.returns-in-Session-clause-carries
returns-in-Session-clause-carries g c = λ told opened.
    let P : Command → Type 0 = λ done. CarriesOut done c.of_session.result opened.tables c.args.library
    (seen (g.S.Source.shown c.args.source.now) (g.K.Sink.shown c.args.sink.now) (g.D.Keeper.shown c.args.keeper.now)
    (g.V.Vault.shown c.args.vault.now) (g.O.Door.shown c.args.door.now))
    (seen (g.S.Source.shown c.session-end.new.source) (g.K.Sink.shown c.session-end.new.sink)
    (g.D.Keeper.shown c.session-end.new.keeper) (g.V.Vault.shown c.session-end.new.vault) (g.O.Door.shown c.args.door.now)) in
    subst P (sym c.in-Session.is) (
      c.session-end.result.how,
      c.session-end.result.answered,
      record {
        library_now = c.session-end.new.library;
        session = λ s valid rows. c.session-end.ensures.session s (keeps_opened told c.args.library opened s valid rows);
        framed = c.session-end.ensures.framed;
        door = refl;
      },
      c.of_session.ensures,
    )

pub returns-clause-carries : goal.returns-clause-carries
returns-clause-carries g c = λ told opened.
    let P : Command → Type 0 = λ done. CarriesOut done c.serve.result opened.tables c.args.library
    (seen (g.S.Source.shown c.args.source.now) (g.K.Sink.shown c.args.sink.now) (g.D.Keeper.shown c.args.keeper.now)
    (g.V.Vault.shown c.args.vault.now) (g.O.Door.shown c.args.door.now))
    (seen (g.S.Source.shown c.args.source.now) (g.K.Sink.shown c.serve.new.sink) (g.D.Keeper.shown c.serve.new.keeper)
    (g.V.Vault.shown c.serve.new.vault) (g.O.Door.shown c.serve.new.door)) in
    let did = c.serve.ensures.serves in
    subst P (sym c.in-Serve.is) (
      did.0,
      record {
        library_now = c.serve.new.library;
        serves = λ s valid rows. did.1.from s (keeps_opened told c.args.library opened s valid rows);
        framed = did.1.framed;
        ends = all_by_bytes c.in-Serve.requests did.0 did.1.framed;
        door = did.1.door;
        lines = did.2;
        source = refl;
      },
    )
