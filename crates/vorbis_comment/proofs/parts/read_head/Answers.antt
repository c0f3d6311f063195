use Rattle.vorbis_comment.proofs.Wholes.{head_read}
use Rattle.vorbis_comment.proofs.parts.read_head.Goals as goal

pub returns-clause-gives : goal.returns-clause-gives
returns-clause-gives c =
    head_read c.args.content.now _ c.in_ok-vendor.vendor.end c.in_ok-count.count c.in_ok-vendor.ensures.gives c.in_ok-count.ensures.gives
