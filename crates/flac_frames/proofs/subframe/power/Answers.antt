use Rattle.std.proofs.Common.{◌≤◌, ◌^◌, arith}
use Rattle.std.proofs.Math.Pow.{pow_mono}
use Rattle.flac_frames.proofs.subframe.power.Goals as goal

pub returns-clause-value : goal.returns-clause-value
returns-clause-value c = let most : 2 ^ c.args.wasted ≤ 2 ^ 24 = pow_mono c.requires in omega (arith, most)

pub returns-clause-small : goal.returns-clause-small
returns-clause-small c = let most : 2 ^ c.args.wasted ≤ 2 ^ 24 = pow_mono c.requires in omega (arith, most)
