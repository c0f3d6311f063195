-- One byte more of a coded number.
use Rattle.std.proofs.Common.{◌+◌, ◌-◌, ◌*◌, ℕ, ap, sym, ◌∙◌, arith}
use Rattle.file_model.specs.Fields.{coded_more}
use Rattle.bit_codec.specs.Reader.{left}
use Rattle.bit_codec.proofs.ReaderLemmas.{coded_step, coded_fits, coded_small}
use Rattle.bit_codec.proofs.reader.BitReader.coded_rest.Goals as goal

pub overflow_mul-value : goal.overflow_mul-value
overflow_mul-value c = let fits = coded_fits c.loop.counter c.loop.value (omega arith) c.loop.invariant.small in omega arith

pub overflow_add-value : goal.overflow_add-value
overflow_add-value c = let fits = coded_fits c.loop.counter c.loop.value (omega arith) c.loop.invariant.small in omega arith

pub loop-preserved : goal.loop-preserved
loop-preserved c = record {
  goes =
      ap (λ (n : ℕ). coded_more (c.args.count - (c.loop.counter + 1)) (c.loop.value * 64 + n) (left c.take.new.self)) c.from.ensures
      ∙ sym (coded_step (c.args.count - c.loop.counter) (c.args.count - (c.loop.counter + 1)) c.loop.value c.in-Ok.next (left c.loop.self) (left c.take.new.self)
      (omega arith) c.in-Ok.ensures.gives c.if-next-ne2.false)
      ∙ c.loop.invariant.goes;
  whole = c.in-Ok.ensures.whole ∙ c.loop.invariant.whole;
  small = coded_small c.loop.counter c.loop.value c.from.result c.loop.invariant.small (omega arith);
}
