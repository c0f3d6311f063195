use Rattle.std.proofs.Common.{◌∙◌, length, ap, sym, rules, arith}
use Rattle.flac_frames.proofs.Sounds.{start_fits, channel_at}
use Rattle.flac_frames.proofs.frame.channel.Goals as goal

pub overflow_mul-start : goal.overflow_mul-start
overflow_mul-start c =
    let start = (start_fits c.args.channel c.args.block _ c.requires).0 in
    let same = ap length c.as_slice-cells.ensures in omega (arith, start, same)

-- the cells of the channel, as the list of all channels has them
pub returns-clause-list : goal.returns-clause-list
returns-clause-list c = λ channels less.
    search rules ∙ sym (channel_at c.args.block channels c.args.channel c.args.scratch.now.cells less)
