use Rattle.std.proofs.Common.{ℕ, refl, sym, ◌∙◌, subst, map, string_bytes, arith, rules}
use Rattle.report_cli.specs.Running.{Runs}
use Rattle.report_cli.specs.Seen.{seen}
use Rattle.report_cli.proofs.RunLemmas.{bad_row_status, fixed_status, turns_of_session}
use Rattle.report_cli.proofs.running.run.Goals as goal

pub returns-in-Ok-Some-clause-runs : goal.returns-in-Ok-Some-clause-runs
returns-in-Ok-Some-clause-runs g c =
    let words = map string_bytes c.args.words.now in
    let ran = c.run_command.ensures.runs words (sym c.in-Ok-Some.ensures.reads ∙ c.in-Ok-Some.field-0-is) in
    let P : ℕ → Type 0 = λ n. Runs ran.0 words
    (seen (g.S.Source.shown c.args.source.now) (g.K.Sink.shown c.args.sink.now) (g.D.Keeper.shown c.args.keeper.now)
    (g.V.Vault.shown c.args.vault.now) (g.O.Door.shown c.args.door.now))
    (seen (g.S.Source.shown c.run_command.new.source) (g.K.Sink.shown c.run_command.new.sink)
    (g.D.Keeper.shown c.run_command.new.keeper) (g.V.Vault.shown c.run_command.new.vault) (g.O.Door.shown c.run_command.new.door)) n in
    (ran.0, subst P (sym c.code.ensures) ran.1)

pub returns-in-Ok-Some-clause-causes : goal.returns-in-Ok-Some-clause-causes
returns-in-Ok-Some-clause-causes g c =
    let ran = returns-in-Ok-Some-clause-runs g c in
    record {
      of_source = search rules;
      of_sink = search rules;
      of_keeper = search rules;
      of_vault = c.run_command.ensures.of_vault;
      of_door = search rules;
      usage_cause = search rules;
      usage = search rules;
      bad_row_cause = search rules;
      bad_row = λ is. bad_row_status ran.0 _ _ _ _ ran.1 is;
      turns_cause = λ is. turns_of_session ran.0 _ _ _ _ ran.1 is;
      complete = λ source sink keeper door.
          fixed_status ran.0 _ _ _ _ ran.1 (λ is. source (search rules)) (λ is. sink (search rules)) (λ is. keeper (search rules))
          (λ is. door (search rules));
    }
