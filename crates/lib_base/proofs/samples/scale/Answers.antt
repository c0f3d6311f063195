use Rattle.std.proofs.Common.{◌∙◌, pos, ap, arith, w64}
use Rattle.std.proofs.lemmas.Int.{ints, to_z_pos}
use Rattle.lib_base.proofs.Scales.{scale_shifted, scale_below}
use Rattle.lib_base.proofs.samples.scale.Goals as goal

pub overflow_cast-result-2 : goal.overflow_cast-result-2
overflow_cast-result-2 c = let below = scale_below c.args.depth c.requires.low in omega (arith, ints)

pub returns : goal.returns
returns c = to_z_pos w64 _ (scale_below c.args.depth c.requires.low) ∙ ap pos (scale_shifted c.args.depth c.requires.low)
