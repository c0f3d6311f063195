use Rattle.std.proofs.Common.{rules, ◌≡◌, ◌≤◌, ◌+◌, ◌-◌, ◌%◌, ◌*◌, ◌/◌, ℕ, List, length, length-drop, drop, take, ap, arith}
use Rattle.std.proofs.lemmas.Grind.{common_steps}
use Rattle.bit_codec.specs.Reader.{left, source, place}
use Rattle.file_model.specs.Bits.{bits}
use Rattle.file_model.specs.FlacHeader.{header_at, bytes_before}
use Rattle.flac_frames.specs.Headers.{TakesBytes}
use Rattle.flac_frames.proofs.Places.{byte_inside, byte_more, four_whole}
use Rattle.flac_frames.proofs.Stereos.{two_channels}
use Rattle.flac_frames.proofs.Wholes.{coded_whole}
use Rattle.flac_frames.proofs.header.header_at.Goals as goal

-- codes, coded number, block size and rate are whole bytes
pub end_of-end-requires-clause-whole : goal.end_of-end-requires-clause-whole
end_of-end-requires-clause-whole c =
    four_whole _ _ _ _ _ _ c.at-reader.ensures.gives c.in_ok-codes.ensures.bytes (coded_whole _ _ c.in_ok-coded_number.ensures.gives)
    c.in_ok-block.ensures.bytes c.in_ok-rate.ensures.bytes

pub returns-clause-gives : goal.returns-clause-gives
unfolding header_at
returns-clause-gives c =
    let whole : TakesBytes (bits (drop c.args.at c.args.bytes.now)) (left c.read_rate.new.reader) =
    four_whole _ _ _ _ _ _ c.at-reader.ensures.gives c.in_ok-codes.ensures.bytes (coded_whole _ _ c.in_ok-coded_number.ensures.gives)
    c.in_ok-block.ensures.bytes c.in_ok-rate.ensures.bytes in
    let more = byte_more (drop c.args.at c.args.bytes.now) c.in_ok-check.check (left c.read_rate.new.reader) (left c.take.new.self) whole c.in_ok-check.ensures.gives in
    let before = c.end_of-end.ensures.before in
    let long : c.end_of-end.result + 1 - c.args.at ≡ bytes_before (drop c.args.at c.args.bytes.now) (left c.take.new.self) = omega (arith, more, before) in
    grind (arith, common_steps, long, before)

-- the byte of the check is there, and a pair is of two channels
pub returns-clause-fits : goal.returns-clause-fits
returns-clause-fits c =
    let whole : TakesBytes (bits (drop c.args.at c.args.bytes.now)) (left c.read_rate.new.reader) =
    four_whole _ _ _ _ _ _ c.at-reader.ensures.gives c.in_ok-codes.ensures.bytes (coded_whole _ _ c.in_ok-coded_number.ensures.gives)
    c.in_ok-block.ensures.bytes c.in_ok-rate.ensures.bytes in
    let there = byte_inside (drop c.args.at c.args.bytes.now) c.in_ok-check.check (left c.read_rate.new.reader) (left c.take.new.self) whole c.in_ok-check.ensures.gives in
    let before = c.end_of-end.ensures.before in
    let size = length-drop c.args.at c.args.bytes.now in
    record {
      some = c.in_ok-block.ensures.some;
      few = c.in_ok-block.ensures.few;
      inside = omega (arith, there, before, size);
      pair = search (rules, two_channels);
    }
