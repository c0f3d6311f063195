use Rattle.http_routes.proofs.NumberLemmas.{parsed}
use Rattle.http_routes.proofs.ids.number_written.Goals as goal

pub returns-clause-some : goal.returns-clause-some
returns-clause-some c = (parsed c.args.text.now c.parse.result c.ok.result c.parse.ensures.value.0 c.requires c.ok.ensures.value).0

pub returns-clause-none : goal.returns-clause-none
returns-clause-none c = (parsed c.args.text.now c.parse.result c.ok.result c.parse.ensures.value.0 c.requires c.ok.ensures.value).1
