-- As many bits are left up to a whole byte.
use Rattle.std.proofs.Common.{◌-◌, ◌%◌, length}
use Rattle.bit_codec.specs.Reader.{source, place, left}
use Rattle.bit_codec.proofs.ReaderLemmas.{padding_is, align_answer, align_place, align_there}
use Rattle.bit_codec.proofs.reader.BitReader.align.Goals as goal

pub unreachable-requires : goal.unreachable-requires
unreachable-requires c = align_there (left c.args.self.now) ((8 - c.args.self.now.bit) % 8) c.in-Err.field-0 (padding_is c.args.self.now) c.in-Err.ensures.gives

pub returns-clause-gives : goal.returns-clause-gives
returns-clause-gives c =
    align_answer (left c.args.self.now) (left c.take.new.self) ((8 - c.args.self.now.bit) % 8) c.in-Ok.passed (padding_is c.args.self.now) c.in-Ok.ensures.gives

pub returns-clause-place : goal.returns-clause-place
returns-clause-place c =
    align_place (left c.args.self.now) (left c.take.new.self) ((8 - c.args.self.now.bit) % 8) c.in-Ok.passed (place c.take.new.self) (length (source c.take.new.self))
    (padding_is c.args.self.now) c.in-Ok.ensures.gives c.in-Ok.ensures.moved
