use Rattle.std.proofs.Common.{List, Bool, Ok, drop, sym, subst}
use Rattle.bit_codec.specs.Reader.{left}
use Rattle.flac_frames.specs.Frames.{Sound}
use Rattle.flac_frames.specs.Headers.{header_of}
use Rattle.flac_frames.proofs.Frames.{start_is}
use Rattle.flac_frames.proofs.Ones.{body_sound}
use Rattle.flac_frames.proofs.one_channel.read_behind.Goals as goal

pub returns : goal.returns
returns c = λ frame body.
    let header = c.args.header.now in
    let info = c.args.info.now in
    let h = body_sound info (drop c.args.at c.args.bytes.now) (header_of header) frame body in
    let start = start_is c.args.bytes.now c.args.at header.length (left c.at-reader.result) c.at-reader.ensures.gives in
    c.read_one.ensures frame.lists h.rest
    (subst (λ (b : List Bool). Sound header.block info.channels info.depth header.stereo b (Ok (frame.lists, h.rest))) (sym start) h.sound)
