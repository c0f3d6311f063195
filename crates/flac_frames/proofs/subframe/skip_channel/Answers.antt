use Rattle.std.proofs.Common.{length}
use Rattle.bit_codec.specs.Reader.{left}
use Rattle.flac_frames.specs.Subframes.{coding_as}
use Rattle.flac_frames.proofs.Ones.{coded_behind, head_is_whole}
use Rattle.flac_frames.proofs.subframe.skip_channel.Goals as goal

pub returns-in-Ok : goal.returns-in-Ok
returns-in-Ok c = λ coded rest is.
    c.skip_coded.ensures coded rest
    (coded_behind (length c.args.cells.now) c.args.depth c.in-Ok.head.wasted (coding_as c.in-Ok.head.coding) (left c.args.reader.now)
    (left c.read_head.new.reader) coded rest c.in-Ok.ensures.gives is)

pub returns-in-Err : goal.returns-in-Err
returns-in-Err c = λ coded rest is.
    head_is_whole (length c.args.cells.now) c.args.depth (left c.args.reader.now) c.in-Err.rule coded rest c.in-Err.ensures.gives is
