-- What is measured of a sound is within the bounds.
use Rattle.std.proofs.Common.{◌≤◌, ℕ, List}
use Rattle.std.specs.Prelude.{ℤ}
use Rattle.lib_base.specs.Sounds.{IsSound}
use Rattle.lib_base.specs.declared.limits.TheConstants.{MOST_SAMPLES}
use Rattle.sound_model.specs.Summaries.{measured, IsWithinBounds}
use Rattle.sound_model.proofs.EnergyBounds.{length-energies, energies_within}
use Rattle.sound_model.proofs.PeakBounds.{peak_of_within}

pub measured_within : (depth frames : ℕ) (lists : List (List ℤ)) → IsSound lists depth frames → frames ≤ MOST_SAMPLES
    → IsWithinBounds (measured depth frames lists)
measured_within depth frames lists sound few = record {
  frames = few;
  count = length-energies depth frames lists;
  energies = energies_within depth frames lists sound.has_channel sound.few_channels;
  peak = peak_of_within depth frames lists sound.least_depth sound.greatest_depth sound.within;
}
