use Rattle.std.proofs.Common.{◌≡◌, Ok}
use Rattle.file_model.specs.Fields.{field}
use Rattle.bit_codec.specs.Reader.{source, left}
use Rattle.bit_codec.proofs.reader.BitReader.take_bit_by_bit.Given as goal

-- the bits so far are a field
abbrev pub invariant-loop : goal.invariant-loop
invariant-loop l = record {
  goes : field l.counter (left l.fn.self) ≡ Ok (l.value, left l.ahead);
  whole : source l.ahead ≡ source l.fn.self;
}
