use Rattle.std.proofs.Common.{refl, sym, subst, IsSome}
use Rattle.catalogue_core.specs.declared.libraries.OpenRefusal.TheVariants as refusal
use Rattle.library_model.specs.declared.bad_rows.BadRow.{BadRow}
use Rattle.report_cli.specs.declared.statuses.Status.TheVariants as status
use Rattle.report_cli.specs.Lines.{Prints, bad_row_line}
use Rattle.report_cli.specs.Running.{not_opened}
use Rattle.report_cli.specs.Seen.{seen}
use Rattle.report_cli.specs.Statuses.{code}
use Rattle.report_cli.proofs.RunLemmas.{bad_opened, carried, has_bad_row}
use Rattle.report_cli.proofs.running.run_command.Goals as goal

pub returns-in-Ok-clause-runs : goal.returns-in-Ok-clause-runs
returns-in-Ok-clause-runs g c = λ words is.
    let opened = seen (g.S.Source.shown c.args.source.now) (g.K.Sink.shown c.args.sink.now) (g.D.Keeper.shown c.open.new.keeper)
    (g.V.Vault.shown c.args.vault.now) (g.O.Door.shown c.args.door.now) in
    carried c.args.command words
    (seen (g.S.Source.shown c.args.source.now) (g.K.Sink.shown c.args.sink.now) (g.D.Keeper.shown c.args.keeper.now)
    (g.V.Vault.shown c.args.vault.now) (g.O.Door.shown c.args.door.now))
    (seen (g.S.Source.shown c.carry_out.new.source) (g.K.Sink.shown c.carry_out.new.sink) (g.D.Keeper.shown c.carry_out.new.keeper)
    (g.V.Vault.shown c.carry_out.new.vault) (g.O.Door.shown c.carry_out.new.door))
    c.carry_out.result is (record {
      opened = opened;
      opens = record {
        source = refl;
        tables = c.in-Ok.ensures.tables;
        faults = c.in-Ok.ensures.faults.later;
        applies = c.in-Ok.ensures.applies;
        vault = refl;
        door = refl;
      };
      unwritten = refl;
      library = c.in-Ok.library;
      is_opened = c.in-Ok.ensures.opens;
      ran = c.carry_out.ensures.carries (g.D.Keeper.shown c.args.keeper.now).tables c.in-Ok.ensures.opens;
    })

pub returns-in-Err-KeeperFault-clause-runs : goal.returns-in-Err-KeeperFault-clause-runs
returns-in-Err-KeeperFault-clause-runs g c = λ words is. (
  not_opened refusal.KeeperFault,
  (
    subst IsSome (sym is) refl,
    record {
      source = refl;
      tables = c.open.ensures.tables;
      faults = c.open.ensures.faults.later;
      applies = c.open.ensures.applies;
      vault = refl;
      door = refl;
    },
    refl,
    refl,
  ),
)

pub returns-in-Err-BadRow-clause-runs : goal.returns-in-Err-BadRow-clause-runs
returns-in-Err-BadRow-clause-runs g c = λ words is.
    let P : BadRow → Type 0 = λ bad. Prints (bad_row_line bad) status.BadRow (g.K.Sink.shown c.args.sink.now)
    (g.K.Sink.shown c.print_bad_row.new.sink) (code c.print_bad_row.result) in (
      not_opened (refusal.BadRow c.in-Err-BadRow.bad),
      (
        subst IsSome (sym is) refl,
        record {
          source = refl;
          tables = c.open.ensures.tables;
          faults = c.open.ensures.faults.later;
          applies = c.open.ensures.applies;
          vault = refl;
          door = refl;
        },
        bad_opened _ _ _ c.in-Err-BadRow.field-0-is c.in-Err-BadRow.ensures.opens,
        subst P c.in-Err-BadRow.bad-is c.print_bad_row.ensures.prints,
      ),
    )

pub returns-in-Err-Memory-clause-runs : goal.returns-in-Err-Memory-clause-runs
returns-in-Err-Memory-clause-runs g c = λ words is. (
  not_opened refusal.Memory,
  (
    subst IsSome (sym is) refl,
    record {
      source = refl;
      tables = c.open.ensures.tables;
      faults = c.open.ensures.faults.later;
      applies = c.open.ensures.applies;
      vault = refl;
      door = refl;
    },
    refl,
    refl,
  ),
)
