-- The bits behind so many whole bytes.
use Rattle.bit_codec.specs.Reader.{source, place, left}
use Rattle.bit_codec.proofs.ReaderLemmas.{left_at}
use Rattle.bit_codec.proofs.reader.BitReader.at.Goals as goal

pub returns-clause-gives : goal.returns-clause-gives
unfolding source place left
returns-clause-gives c = left_at c.args.bytes.now c.args.byte c.requires
