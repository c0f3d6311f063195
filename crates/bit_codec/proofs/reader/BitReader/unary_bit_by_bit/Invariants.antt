use Rattle.std.proofs.Common.{◌≡◌, ◌<◌, ◌^◌, length}
use Rattle.file_model.specs.Fields.{unary_at}
use Rattle.bit_codec.specs.Windows.{held_behind}
use Rattle.bit_codec.specs.Reader.{source, left}
use Rattle.bit_codec.proofs.reader.BitReader.unary_bit_by_bit.Given as goal

-- the zeros so far, and the rest of the count
abbrev pub invariant-loop-bit : goal.invariant-loop-bit
invariant-loop-bit l = record {
  goes : held_behind l.count (unary_at (left l.self)) ≡ held_behind l.fn.zeros (unary_at (left l.fn.self));
  whole : source l.self ≡ source l.fn.self;
  fits : l.count < 2 ^ 64;
}

abbrev pub decreases-loop-bit : goal.decreases-loop-bit
decreases-loop-bit l = length (left l.self)
