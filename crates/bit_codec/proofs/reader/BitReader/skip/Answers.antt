-- The place moves by as many bits.
use Rattle.std.proofs.Common.{arith}
use Rattle.file_model.specs.Bits.{bits}
use Rattle.bit_codec.specs.Reader.{source, place, left}
use Rattle.bit_codec.proofs.ReaderLemmas.{past_within, left_past}
use Rattle.bit_codec.proofs.reader.BitReader.skip.Goals as goal

pub invariant_of-self-clause-in_bytes : goal.invariant_of-self-clause-in_bytes
unfolding source place left
invariant_of-self-clause-in_bytes c = past_within c.args.self.now.bytes.now c.args.self.now.byte c.args.self.now.bit c.args.count (omega arith) c.requires.there

pub returns-clause-rest : goal.returns-clause-rest
unfolding source place left
returns-clause-rest c = left_past (bits c.args.self.now.bytes.now) c.args.self.now.byte c.args.self.now.bit c.args.count (omega arith)
