-- A zero more, the one, or no bit.
use Rattle.std.proofs.Common.{ℕ, Bool, ◌∷◌, ap, sym, ◌∙◌, arith}
use Rattle.file_model.specs.Fields.{unary_at}
use Rattle.bit_codec.specs.Windows.{held_behind}
use Rattle.bit_codec.specs.Reader.{left}
use Rattle.bit_codec.proofs.ReaderLemmas.{unary_on_one, unary_on_zero, unary_on_none}
use Rattle.bit_codec.proofs.reader.BitReader.unary_bit_by_bit.Goals as goal

pub returns-then-bit-clause-gives : goal.returns-then-bit-clause-gives
returns-then-bit-clause-gives c =
    sym c.loop-bit.invariant.goes
    ∙ unary_on_one c.loop-bit.count (left c.loop-bit.self) (left c.next_bit.new.self)
    (c.in-Some.ensures.gives ∙ ap (λ (b : Bool). b ∷ left c.next_bit.new.self) c.if-bit.true) c.loop-bit.invariant.fits

pub loop-bit-preserved : goal.loop-bit-preserved
loop-bit-preserved c = record {
  goes =
      ap (λ (n : ℕ). held_behind n (unary_at (left c.next_bit.new.self))) c.saturating_add-count.ensures
      ∙ sym (unary_on_zero c.loop-bit.count (left c.loop-bit.self) (left c.next_bit.new.self)
      (c.in-Some.ensures.gives ∙ ap (λ (b : Bool). b ∷ left c.next_bit.new.self) c.if-bit.false))
      ∙ c.loop-bit.invariant.goes;
  whole = c.in-Some.ensures.whole ∙ c.loop-bit.invariant.whole;
  fits = omega arith;
}

pub returns-clause-gives : goal.returns-clause-gives
returns-clause-gives c = sym c.loop-bit.invariant.goes ∙ unary_on_none c.loop-bit.count (left c.loop-bit.self) c.in_default.ensures.gives
