use Rattle.std.proofs.Common.{◌∙◌}
use Rattle.json_bodies.proofs.Reading.{taken_as_text}
use Rattle.json_bodies.proofs.names.is_text.Goals as goal

pub returns : goal.returns
returns c = c.is_ok.ensures.value ∙ taken_as_text _ _ c.args.text.now c.from_utf8.result c.from_utf8.ensures.cases
