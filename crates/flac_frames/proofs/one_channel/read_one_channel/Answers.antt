use Rattle.std.proofs.Common.{drop}
use Rattle.flac_frames.specs.Headers.{header_of}
use Rattle.flac_frames.proofs.Ones.{frame_body}
use Rattle.flac_frames.proofs.one_channel.read_one_channel.Goals as goal

pub returns-in-Err-read_behind-clause-frame : goal.returns-in-Err-read_behind-clause-frame
returns-in-Err-read_behind-clause-frame c = λ frame stands.
    c.in-Err-read_behind.ensures frame
    (frame_body c.args.info.now (drop c.args.at c.args.bytes.now) (header_of c.in-Ok.header) frame c.in-Ok.ensures.gives stands)
