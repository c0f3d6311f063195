use Rattle.std.proofs.Common.{◌≡◌, length}
use Rattle.file_model.specs.Fields.{unary_at, held}
use Rattle.bit_codec.specs.Windows.{held_behind}
use Rattle.bit_codec.specs.Reader.{source, left}
use Rattle.bit_codec.proofs.reader.BitReader.pass_zeros.Given as goal

-- the zeros so far, and the rest of the count
abbrev pub invariant-loop-count : goal.invariant-loop-count
invariant-loop-count l = record {
  goes : held_behind l.zeros (unary_at (left l.self)) ≡ held (unary_at (left l.fn.self));
  whole : source l.self ≡ source l.fn.self;
}

abbrev pub decreases-loop-count : goal.decreases-loop-count
decreases-loop-count l = length (left l.self)
