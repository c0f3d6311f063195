-- What examining a file finds.
use Rattle.std.specs.Prelude.{◌≡◌, ℕ, List}
use Rattle.lib_base.specs.declared.files.Measured.{Measured}
use Rattle.file_model.specs.Files.{Reads}
use Rattle.file_model.specs.Pcm.{Pcm}
use Rattle.file_model.specs.Reading.{accepted, broken}
use Rattle.album_merge.specs.Tallies.{StandsForMeasured, Tallied}
use Rattle.library_model.specs.Findings.{measured_of}
use Rattle.sound_model.specs.Summaries.{IsWithinBounds}
use Rattle.catalogue_core.specs.declared.examining.Examined.{Examined}
use Rattle.catalogue_core.specs.declared.examining.Examined.TheVariants.{Accepted, Broken}

-- What is measured is that of the sound, within its bounds, and the tally stands for it.
pub record IsMeasuredOf (sound : Pcm) (m : Measured) (tally : Tallied) : Type 0 where
  pub measured_is : m ≡ measured_of sound
  pub within : IsWithinBounds m
  pub stands : StandsForMeasured tally m

-- the file is accepted, with what is measured of its sound, or broken by that rule at that place
abbrev pub IsExamined : List ℕ → Examined → Type 0
IsExamined file (Accepted m tally) = (sound : Pcm) × Reads file (accepted sound) × IsMeasuredOf sound m tally
IsExamined file (Broken fault) = Reads file (broken fault.rule fault.place)
