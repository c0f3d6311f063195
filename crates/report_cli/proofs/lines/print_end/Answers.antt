use Rattle.std.proofs.Common.{ℕ, List, ◌∙◌, ap, subst}
use Rattle.lib_base.specs.Writes.{WritesAll}
use Rattle.report_cli.specs.Lines.{end_line}
use Rattle.report_cli.proofs.lines.print_end.Goals as goal

pub returns : goal.returns
returns g c =
    let P : List ℕ → Type 0 = λ line. WritesAll (g.K.Sink.shown c.args.sink.now) (g.K.Sink.shown c.write_all.new.sink) line c.write_all.result in
    let text = c.as_bytes.ensures.value ∙ c.in_ok-text.ensures ∙ ap (λ word. end_line c.args.number word c.args.end.answered) c.end_word.ensures in
    subst P text c.write_all.ensures
