use Rattle.std.proofs.Common.{refl}
use Rattle.sound_model.specs.Loudness.{is_audible}
use Rattle.gate_blocks.proofs.gates.is_audible_block.Goals as goal

pub returns-clause-value : goal.returns-clause-value
unfolding is_audible
returns-clause-value c = refl
