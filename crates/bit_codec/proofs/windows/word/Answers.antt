-- Eight bytes spell what their bits spell.
use Rattle.std.proofs.Common.{◌∙◌, arith}
use Rattle.file_model.proofs.BitsLemmas.{number-eight}
use Rattle.bit_codec.proofs.windows.word.Goals as goal

pub returns : goal.returns
returns c = c.from_be_bytes.ensures ∙ number-eight c.args.bytes.now c.requires (λ i. omega (arith, c.type_inv.bytes i))
