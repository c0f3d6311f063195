use Rattle.std.proofs.Common.{length, arith}
use Rattle.bit_codec.specs.Reader.{left}
use Rattle.flac_frames.specs.Subframes.{coding_as}
use Rattle.flac_frames.proofs.Spelling.{head_refused, behind_head}
use Rattle.flac_frames.proofs.Subframes.{on_ok_then}
use Rattle.flac_frames.proofs.subframe.read_channel.Goals as goal

pub returns-in-Ok-clause-comes : goal.returns-in-Ok-clause-comes
returns-in-Ok-clause-comes c =
    behind_head c.read_coded.result (length c.args.out.now) c.args.depth (left c.args.reader.now) (left c.read_head.new.reader) (left c.read_coded.new.reader)
    (coding_as c.in-Ok.head.coding) c.in-Ok.head.wasted c.read_coded.new.out c.in-Ok.ensures.gives c.read_coded.ensures.comes

pub returns-in-Ok-clause-later : goal.returns-in-Ok-clause-later
returns-in-Ok-clause-later c =
    let before = c.in-Ok.ensures.later in
    on_ok_then c.read_coded.result (λ less. omega (arith, before, less)) c.read_coded.ensures.later

pub returns-in-Err-clause-comes : goal.returns-in-Err-clause-comes
returns-in-Err-clause-comes c = head_refused (length c.args.out.now) c.args.depth (left c.args.reader.now) c.in-Err.rule c.in-Err.ensures.gives
