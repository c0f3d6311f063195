-- How great and how many the energies of a tally can be.
use Rattle.std.specs.Prelude.{◌≤◌, ◌*◌, ℕ, List, length, All}
use Rattle.lib_base.specs.declared.files.Summary.{Summary}
use Rattle.lib_base.specs.declared.limits.TheConstants.{MOST_SAMPLES, MOST_SEGMENTS, BLOCK_SEGMENTS, WINDOW_SEGMENTS, GREATEST_ENERGY, GREATEST_PEAK}
pub use Rattle.lib_base.specs.declared.limits.TheConstants.{MOST_MEMBERS as most_recordings}

-- what a tally keeps comes from what is measured within its bounds
pub record AreBounded (blocks windows : List ℕ) (greatest_block greatest_window : ℕ) (summary : Summary) : Type 0 where
  pub blocks_within : All (λ z. z ≤ BLOCK_SEGMENTS * GREATEST_ENERGY) blocks
  pub few_blocks : length blocks ≤ MOST_SEGMENTS
  pub windows_within : All (λ z. z ≤ greatest_window) windows
  pub few_windows : length windows ≤ MOST_SEGMENTS
  pub block : greatest_block ≤ BLOCK_SEGMENTS * GREATEST_ENERGY
  pub window : greatest_window ≤ WINDOW_SEGMENTS * GREATEST_ENERGY
  pub frames : summary.frames ≤ MOST_SAMPLES
  pub peak : summary.peak ≤ GREATEST_PEAK
