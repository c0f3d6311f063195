use Rattle.std.proofs.Common.{drop}
use Rattle.bit_codec.specs.Reader.{left}
use Rattle.file_model.specs.Bits.{bits}
use Rattle.file_model.proofs.OutcomesLemmas.{gives_same}
use Rattle.flac_frames.proofs.Frames.{align_whole, bits_even, footer_zeros, footer_ones}
use Rattle.flac_frames.proofs.frame.read_footer.Goals as goal

pub read_check-requires-clause-whole : goal.read_check-requires-clause-whole
read_check-requires-clause-whole c =
    align_whole (bits (drop c.args.at c.args.bytes.now)) (left c.args.reader.now) (left c.align.new.self) c.align.result c.requires.behind
    (bits_even (drop c.args.at c.args.bytes.now)) c.align.ensures.gives

pub returns-then-align-clause-gives : goal.returns-then-align-clause-gives
returns-then-align-clause-gives c =
    gives_same _ c.read_check.result _ _
    (footer_zeros (drop c.args.at c.args.bytes.now) (left c.args.reader.now) (left c.align.new.self) c.align.result c.align.ensures.gives c.if-align.true)
    c.read_check.ensures.gives

pub returns-else-align-clause-gives : goal.returns-else-align-clause-gives
returns-else-align-clause-gives c =
    footer_ones (drop c.args.at c.args.bytes.now) (left c.args.reader.now) (left c.align.new.self) c.align.result c.align.ensures.gives c.if-align.false
