use Rattle.std.proofs.Common.{rules, arith}
use Rattle.flac_stream.proofs.Digests.{sample_there, cells_long}
use Rattle.flac_stream.proofs.digest.sample_at.Goals as goal

pub returns : goal.returns
returns c = λ channels less.
    let long = cells_long c.args.index c.args.block c.args.scratch.now.cells c.channel-samples.result.now c.requires.room c.channel-samples.ensures.cells in
    sample_there c.channel-samples.result.now _ c.args.place _ (omega (arith, long)) (search rules) (c.channel-samples.ensures.list channels less)
