use Rattle.bit_codec.proofs.ReaderLemmas.{stands}
use Rattle.bit_codec.proofs.reader.BitReader.coded_number.Goals as goal

pub returns-in_err-value-clause-moved : goal.returns-in_err-value-clause-moved
returns-in_err-value-clause-moved c = stands _

pub returns-clause-moved : goal.returns-clause-moved
returns-clause-moved c = stands _
