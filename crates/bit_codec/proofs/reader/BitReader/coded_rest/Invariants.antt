use Rattle.std.proofs.Common.{◌≡◌, ◌<◌, ◌-◌, ◌*◌, ◌^◌}
use Rattle.file_model.specs.Fields.{coded_more}
use Rattle.bit_codec.specs.Reader.{source, left}
use Rattle.bit_codec.proofs.reader.BitReader.coded_rest.Given as goal

-- the number so far, and the bytes that still follow
abbrev pub invariant-loop : goal.invariant-loop
invariant-loop l = record {
  goes : coded_more (l.count - l.counter) l.value (left l.self) ≡ coded_more l.count l.fn.high (left l.fn.self);
  whole : source l.self ≡ source l.fn.self;
  small : l.value < 128 * 64 ^ l.counter;
}
