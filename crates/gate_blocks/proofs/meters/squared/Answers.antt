use Rattle.std.proofs.Common.{rules}
use Rattle.sound_model.specs.Segments.{square}
use Rattle.gate_blocks.proofs.meters.squared.Goals as goal

pub returns-clause-squared : goal.returns-clause-squared
unfolding square
returns-clause-squared c = search rules
