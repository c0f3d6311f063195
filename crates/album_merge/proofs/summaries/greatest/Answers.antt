use Rattle.std.proofs.Common.{◌≤◌, length, arith}
use Rattle.std.proofs.lemmas.List.{take_all}
use Rattle.sound_model.proofs.Greatest.{greatest-step, greatest-within}
use Rattle.album_merge.proofs.summaries.greatest.Goals as goal

pub loop-energy-preserved : goal.loop-energy-preserved
loop-energy-preserved c =
    greatest-step c.args.energies.now c.loop-energy.energy-index c.loop-energy.most c.max-most.result
    c.loop-energy-test.true c.loop-energy.invariant c.max-most.ensures

pub returns-clause-within : goal.returns-clause-within
returns-clause-within c limit all =
    let past : length c.args.energies.now ≤ c.loop-energy.energy-index = omega (arith, c.loop-energy-test.false) in
    rw (c.loop-energy.invariant, take_all c.loop-energy.energy-index c.args.energies.now past)
    (greatest-within limit c.args.energies.now all)
