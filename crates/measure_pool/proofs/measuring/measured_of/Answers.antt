use Rattle.std.proofs.Common.{refl}
use Rattle.sound_model.proofs.MeasuredBounds.{measured_within}
use Rattle.measure_pool.proofs.Gathering.{all_gathered}
use Rattle.measure_pool.proofs.measuring.measured_of.Goals as goal

pub returns-clause-measured : goal.returns-clause-measured
returns-clause-measured g c =
    let sound = c.args.sound.now in
    let all =
    all_gathered (g.S.Sound.depth sound) (g.S.Sound.frames sound) (g.S.Sound.lists sound) c.args.plan c.args.energies c.args.peak
    c.requires.sound c.requires.plan c.args.plan.whole_within c.args.plan.covers c.requires.gathered in
    rw (c.channels.ensures, c.depth.ensures, c.frames.ensures, all.0, all.1) refl

pub returns-clause-within : goal.returns-clause-within
returns-clause-within g c = λ few.
    let sound = c.args.sound.now in
    let all =
    all_gathered (g.S.Sound.depth sound) (g.S.Sound.frames sound) (g.S.Sound.lists sound) c.args.plan c.args.energies c.args.peak
    c.requires.sound c.requires.plan c.args.plan.whole_within c.args.plan.covers c.requires.gathered in
    rw (c.channels.ensures, c.depth.ensures, c.frames.ensures, all.0, all.1)
    (measured_within (g.S.Sound.depth sound) (g.S.Sound.frames sound) (g.S.Sound.lists sound) c.requires.sound few)
