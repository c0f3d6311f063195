use Rattle.std.proofs.Common.{ap, arith, length}
use Rattle.lib_base.proofs.Sampling.{length-channel}
use Rattle.lib_base.proofs.sounds.PcmSoundSound.fill.Goals as goal

pub copy_part-requires : goal.copy_part-requires
copy_part-requires c =
    let equal = length-channel _ _ _ _ _ c.args.self.now.sound.equal c.requires.channel c.index.ensures in
    omega (arith, equal, ap length c.deref.ensures.value, c.requires.inside)
