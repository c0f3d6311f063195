-- At a whole byte, no bit of it was read.
use Rattle.std.proofs.Common.{arith}
use Rattle.bit_codec.specs.Reader.{source, place, left}
use Rattle.bit_codec.proofs.ReaderLemmas.{left_whole}
use Rattle.bit_codec.proofs.reader.BitReader.byte.Goals as goal

pub returns-clause-rest : goal.returns-clause-rest
unfolding source place left
returns-clause-rest c = left_whole c.args.self.now.bytes.now c.args.self.now.byte c.args.self.now.bit (omega arith) (omega arith) c.requires
