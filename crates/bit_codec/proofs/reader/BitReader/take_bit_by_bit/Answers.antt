-- One bit more, or none.
use Rattle.std.proofs.Common.{Bool, List, Ok, refl, ap, ◌∙◌, arith}
use Rattle.bit_codec.specs.Reader.{left}
use Rattle.file_model.proofs.FieldsLemmas.{field_none, field_ends}
use Rattle.bit_codec.proofs.ReaderLemmas.{field_fits_again, field_step, bit_below}
use Rattle.bit_codec.proofs.reader.BitReader.take_bit_by_bit.Goals as goal

pub loop-init : goal.loop-init
loop-init c = record { goes = field_none (left c.args.self.now); whole = refl }

pub returns-in_default-clause-gives : goal.returns-in_default-clause-gives
returns-in_default-clause-gives c =
    field_ends c.loop.counter c.args.count c.loop.value (left c.args.self.now)
    (c.loop.invariant.goes ∙ ap (λ (xs : List Bool). Ok (c.loop.value, xs)) c.in_default.ensures.gives) c.loop-test.true

pub overflow_mul-value : goal.overflow_mul-value
overflow_mul-value c =
    let fits = field_fits_again (left c.args.self.now) (left c.loop.ahead) c.loop.counter c.loop.value c.loop.invariant.goes (omega arith) in omega arith

pub overflow_add-value : goal.overflow_add-value
overflow_add-value c =
    let fits = field_fits_again (left c.args.self.now) (left c.loop.ahead) c.loop.counter c.loop.value c.loop.invariant.goes (omega arith) in
    let bit = bit_below c.in-Some.bit in
    let is = c.from.ensures in
    omega arith

pub loop-preserved : goal.loop-preserved
loop-preserved c = record {
  goes =
      field_step c.loop.counter c.loop.value c.from.result (left c.args.self.now) (left c.loop.ahead) (left c.next_bit.new.self) c.in-Some.bit
      c.loop.invariant.goes c.in-Some.ensures.gives c.from.ensures;
  whole = c.in-Some.ensures.whole ∙ c.loop.invariant.whole;
}
