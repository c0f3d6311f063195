use Rattle.cli_words.proofs.NumberLemmas.{parsed}
use Rattle.cli_words.proofs.numbers.number_written.Goals as goal

pub returns : goal.returns
returns c = parsed c.args.text.now c.parse.result c.ok.result c.parse.ensures.value.0 c.ok.ensures.value
