use Rattle.std.proofs.Common.{arith}
use Rattle.std.proofs.lemmas.Grind.{common_steps}
use Rattle.std.proofs.lemmas.Bool.Decides.{nat_tests}
use Rattle.sound_model.specs.Ranges.{is_window_audible}
use Rattle.loudness_range.proofs.tallies.audible_of.Goals as goal

pub loop-energy-preserved : goal.loop-energy-preserved
unfolding is_window_audible
loop-energy-preserved c = grind (arith, common_steps, nat_tests)
