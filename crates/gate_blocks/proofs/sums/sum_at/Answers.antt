use Rattle.std.proofs.Common.{take, ap, ◌∙◌, arith}
use Rattle.std.specs.List.{sum}
use Rattle.lib_base.specs.declared.limits.TheConstants.{GREATEST_ENERGY}
use Rattle.gate_blocks.proofs.Summing.{sum-part-le}
use Rattle.gate_blocks.proofs.sums.sum_at.Goals as goal

pub sum_of-requires : goal.sum_of-requires
sum_of-requires c =
    let same = c.split_at-2.ensures.front ∙ ap (take c.args.count) c.split_at.ensures.back in
    let sums = ap sum same in
    let bound = sum-part-le GREATEST_ENERGY c.args.count c.args.place c.args.segments.now c.requires.within in
    omega (arith, sums, bound)
