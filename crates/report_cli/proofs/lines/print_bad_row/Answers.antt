use Rattle.std.proofs.Common.{ℕ, List, ◌∙◌, subst}
use Rattle.report_cli.specs.declared.statuses.Status.TheVariants as status
use Rattle.report_cli.specs.Lines.{Prints}
use Rattle.report_cli.specs.Statuses.{code}
use Rattle.report_cli.proofs.lines.print_bad_row.Goals as goal

pub returns-in-Ok-clause-prints : goal.returns-in-Ok-clause-prints
returns-in-Ok-clause-prints g c =
    let P : List ℕ → Type 0 = λ line. Prints line status.BadRow (g.K.Sink.shown c.args.sink.now) (g.K.Sink.shown c.print.new.sink) (code c.print.result) in
    subst P (c.as_bytes.ensures.value ∙ c.in-Ok.ensures) c.print.ensures.prints
