-- What a tally of one recording stands for.
use Rattle.std.specs.Prelude.{◌≡◌, ℕ, List, filter, IsPermutation}
use Rattle.lib_base.specs.declared.files.Measured.{Measured}
use Rattle.lib_base.specs.declared.files.Summary.{Summary}
use Rattle.sound_model.specs.Albums.{SummarisesMeasured}
use Rattle.sound_model.specs.Blocks.{blocks_of, windows_of}
use Rattle.sound_model.specs.Loudness.{is_audible, greatest}
use Rattle.sound_model.specs.Ranges.{is_window_audible}

-- what a tally tells of a recording: its levels, its blocks and windows from -70 LUFS on in some order, and the greatest block and window
pub record Tallied : Type 0 where
  pub summary : Summary
  pub blocks : List ℕ
  pub windows : List ℕ
  pub greatest_block : ℕ
  pub greatest_window : ℕ

-- The tally stands for what was measured: it tells its levels, so its frames and its peak too, its greatest block and window, and those of
-- its blocks and windows that are audible, in some order.
pub record StandsForMeasured (tally : Tallied) (measured : Measured) : Type 0 where
  pub summary : SummarisesMeasured measured tally.summary
  pub blocks : IsPermutation (filter is_audible (blocks_of measured.energies)) tally.blocks
  pub windows : IsPermutation (filter is_window_audible (windows_of measured.energies)) tally.windows
  pub greatest_block : tally.greatest_block ≡ greatest (blocks_of measured.energies)
  pub greatest_window : tally.greatest_window ≡ greatest (windows_of measured.energies)
