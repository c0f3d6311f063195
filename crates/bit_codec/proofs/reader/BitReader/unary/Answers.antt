use Rattle.bit_codec.proofs.ReaderLemmas.{stands}
use Rattle.bit_codec.proofs.reader.BitReader.unary.Goals as goal

pub returns-in_err-count-clause-moved : goal.returns-in_err-count-clause-moved
returns-in_err-count-clause-moved c = stands _

pub returns-clause-moved : goal.returns-clause-moved
returns-clause-moved c = stands _
