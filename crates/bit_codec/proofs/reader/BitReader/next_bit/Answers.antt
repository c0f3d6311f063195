-- The next bit is one of the byte at the place.
use Rattle.std.proofs.Common.{arith}
use Rattle.bit_codec.specs.Reader.{source, place, left}
use Rattle.bit_codec.proofs.ReaderLemmas.{left_bit, left_none, one_there, with_tail}
use Rattle.bit_codec.proofs.reader.BitReader.next_bit.Goals as goal

pub returns-then-self-clause-gives : goal.returns-then-self-clause-gives
unfolding source place left
returns-then-self-clause-gives c = left_none c.args.self.now.bytes.now c.args.self.now.byte c.args.self.now.bit c.if-self.true

pub skip-requires-clause-there : goal.skip-requires-clause-there
unfolding source place left
skip-requires-clause-there c = one_there c.args.self.now.bytes.now c.args.self.now.byte c.args.self.now.bit (omega arith) (omega arith)

pub returns-clause-gives : goal.returns-clause-gives
unfolding source place left
returns-clause-gives c =
    with_tail _ _ _ _ (left_bit c.args.self.now.bytes.now c.args.self.now.byte c.args.self.now.bit c.if-self.false (omega arith)) c.skip.ensures.rest
