-- The zeros on top of a window, and the one behind them.
use Rattle.std.proofs.Common.{refl}
use Rattle.std.specs.Int.{w64, leading_zeros}
use Rattle.bit_codec.specs.Reader.{left}
use Rattle.bit_codec.proofs.ReaderLemmas.{zeros_there, unary_answer}
use Rattle.bit_codec.proofs.reader.BitReader.unary_behind.Goals as goal

pub skip-requires-clause-there : goal.skip-requires-clause-there
skip-requires-clause-there c = zeros_there (left c.args.self.now) c.args.self.now.bit c.in-Some.window c.in-Some.ensures c.if-window-ne0.true

pub returns-in-Some-clause-gives : goal.returns-in-Some-clause-gives
returns-in-Some-clause-gives c =
    unary_answer c.args.zeros c.args.self.now.bit c.in-Some.window (leading_zeros w64 c.in-Some.window) c.from.result c.saturating_add.result
    (left c.args.self.now) (left c.skip.new.self) c.in-Some.ensures c.if-window-ne0.true refl c.from.ensures c.saturating_add.ensures c.skip.ensures.rest
