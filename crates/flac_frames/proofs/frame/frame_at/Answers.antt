use Rattle.std.proofs.Common.{drop}
use Rattle.flac_frames.specs.Frames.{frame_in}
use Rattle.flac_frames.specs.Headers.{header_of}
use Rattle.flac_frames.proofs.Frames.{after_header, has_block}
use Rattle.flac_frames.proofs.frame.frame_at.Goals as goal

pub returns-in-Ok-clause-comes : goal.returns-in-Ok-clause-comes
returns-in-Ok-clause-comes c =
    after_header c.body_at.result (frame_in c.body_at.new.cells c.args.info.now.channels c.args.at) c.args.info.now (drop c.args.at c.args.bytes.now)
    (header_of c.in-Ok.header) c.in-Ok.ensures.gives c.body_at.ensures.comes

-- the block is that of the header
pub returns-in-Ok-clause-headed : goal.returns-in-Ok-clause-headed
returns-in-Ok-clause-headed c =
    has_block c.body_at.result c.args.info.now (drop c.args.at c.args.bytes.now) (header_of c.in-Ok.header) c.in-Ok.ensures.gives c.body_at.ensures.block
