use Rattle.std.proofs.Common.{◌-◌, drop, arith}
use Rattle.std.specs.Simd.{first_chunks}
use Rattle.bit_codec.specs.Reader.{left}
use Rattle.flac_frames.specs.Headers.{header_of}
use Rattle.flac_frames.proofs.Frames.{sound_refused, footer_refused, frame_ends, start_is, start_shorter}
use Rattle.flac_frames.proofs.frame.body_at.Goals as goal

pub returns-in-Err-clause-comes : goal.returns-in-Err-clause-comes
returns-in-Err-clause-comes c =
    sound_refused c.args.info.now (drop c.args.at c.args.bytes.now) (header_of c.args.header.now) (left c.at-reader.result) c.in-Err.rule
    (start_is c.args.bytes.now c.args.at c.args.header.now.length (left c.at-reader.result) c.at-reader.ensures.gives) c.in-Err.ensures.comes

pub read_footer-requires-clause-behind : goal.read_footer-requires-clause-behind
read_footer-requires-clause-behind c =
    start_shorter c.args.bytes.now c.args.at c.args.header.now.length (left c.at-reader.result) (left c.read_sound.new.reader) c.at-reader.ensures.gives
    c.in-Ok.ensures.later

pub returns-in-Ok-read_footer-clause-comes : goal.returns-in-Ok-read_footer-clause-comes
returns-in-Ok-read_footer-clause-comes c =
    frame_ends c.args.info.now (drop c.args.at c.args.bytes.now) (header_of c.args.header.now) (left c.at-reader.result) (left c.read_sound.new.reader)
    (first_chunks c.args.header.now.block c.args.info.now.channels c.read_sound.new.cells) (c.in-Ok-read_footer.next - c.args.at)
    (start_is c.args.bytes.now c.args.at c.args.header.now.length (left c.at-reader.result) c.at-reader.ensures.gives) c.in-Ok.ensures.comes
    c.in-Ok-read_footer.ensures.gives

pub returns-in-Err-read_footer-clause-comes : goal.returns-in-Err-read_footer-clause-comes
returns-in-Err-read_footer-clause-comes c =
    footer_refused c.args.info.now (drop c.args.at c.args.bytes.now) (header_of c.args.header.now) (left c.at-reader.result) (left c.read_sound.new.reader)
    (first_chunks c.args.header.now.block c.args.info.now.channels c.read_sound.new.cells) c.in-Err-read_footer.rule
    (start_is c.args.bytes.now c.args.at c.args.header.now.length (left c.at-reader.result) c.at-reader.ensures.gives) c.in-Ok.ensures.comes
    c.in-Err-read_footer.ensures.gives
