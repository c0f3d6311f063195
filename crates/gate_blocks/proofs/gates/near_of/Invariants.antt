use Rattle.std.proofs.Common.{◌≤◌, ◌*◌, nat_lt, take}
use Rattle.std.specs.Prelude.{filter, ◌&&◌}
use Rattle.lib_base.specs.declared.limits.TheConstants.{BLOCK_SEGMENTS, GREATEST_ENERGY}
use Rattle.sound_model.specs.Loudness.{is_audible}
use Rattle.gate_blocks.specs.Bounds.{IsTallyOf}
use Rattle.gate_blocks.proofs.gates.near_of.Given as goal

abbrev pub invariant-loop-energy : goal.invariant-loop-energy
invariant-loop-energy l = record {
  tally : IsTallyOf (filter (λ e. is_audible e && nat_lt l.audible.sum (10 * l.audible.count * e)) (take l.energy-index l.blocks)) l.count l.sum;
  few : l.count ≤ l.energy-index;
  some_each : l.count ≤ l.sum;
  within : l.sum ≤ l.count * (BLOCK_SEGMENTS * GREATEST_ENERGY);
}
