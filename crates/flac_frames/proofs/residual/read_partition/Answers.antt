use Rattle.std.proofs.Common.{◌≤◌, ◌^◌, arith}
use Rattle.std.proofs.Math.Pow.{pow_mono}
use Rattle.flac_frames.proofs.residual.read_partition.Goals as goal

-- a parameter that is no escape
pub read_rice_coded-requires : goal.read_rice_coded-requires
read_rice_coded-requires c =
    let least : 2 ^ 4 ≤ 2 ^ c.args.parameter_bits = pow_mono c.requires.some in
    let most : 2 ^ c.args.parameter_bits ≤ 2 ^ 5 = pow_mono c.requires.few in
    let small = c.in_ok-parameter.ensures.small in
    let other = c.if-parameter-parameter_bits.false in
    omega (arith, least, most, small, other)
