use Rattle.gate_blocks.proofs.Gating.{tally_near}
use Rattle.gate_blocks.proofs.gates.near_of.Goals as goal

pub returns-clause-tally : goal.returns-clause-tally
returns-clause-tally c counted tally =
    tally_near counted c.args.blocks.now c.loop-energy.energy-index _ _ c.loop-energy.count c.loop-energy.sum c.loop-energy-test.false tally
    c.loop-energy.invariant.tally
