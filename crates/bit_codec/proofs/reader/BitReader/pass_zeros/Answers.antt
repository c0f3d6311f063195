-- A window of zeros is passed.
use Rattle.std.proofs.Common.{◌∙◌, arith}
use Rattle.bit_codec.specs.Reader.{left}
use Rattle.bit_codec.proofs.ReaderLemmas.{pass_step}
use Rattle.bit_codec.proofs.reader.BitReader.pass_zeros.Goals as goal

pub loop-count-preserved : goal.loop-count-preserved
loop-count-preserved c = record {
  goes =
      pass_step c.loop-count.zeros c.loop-count.self.bit c.in-Some-eq0.field-0 c.from.result c.saturating_add-zeros.result (left c.loop-count.self) (left c.skip.new.self) _
      (omega arith) c.in-Some-eq0.ensures c.from.ensures c.saturating_add-zeros.ensures c.skip.ensures.rest c.loop-count.invariant.goes;
  whole = c.skip.ensures.whole ∙ c.loop-count.invariant.whole;
}
