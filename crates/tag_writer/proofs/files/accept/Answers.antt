use Rattle.std.proofs.Common.{sym, ◌∙◌}
use Rattle.tag_writer.proofs.files.accept.Goals as goal

pub returns-in-None-clause-err : goal.returns-in-None-clause-err
returns-in-None-clause-err c = c.other_kind.ensures c.args.bytes.now (sym c.kind_of.ensures ∙ c.in-None.is)
