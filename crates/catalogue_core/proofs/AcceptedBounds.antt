-- What is measured of an accepted file is within its bounds.
use Rattle.std.proofs.Common.{ℕ, List}
use Rattle.file_model.specs.Files.{Reads}
use Rattle.file_model.specs.Pcm.{Pcm}
use Rattle.file_model.specs.Reading.{accepted}
use Rattle.sound_model.specs.Summaries.{IsWithinBounds}
use Rattle.sound_model.proofs.MeasuredBounds.{measured_within}
use Rattle.library_model.specs.Findings.{measured_of}
use Rattle.library_model.specs.Stands.{IsWithinLimit}
use Rattle.library_model.proofs.AcceptedFiles.{HasSound-accepted}

-- What is measured of a file within the body limit is within its bounds.
pub accepted_within : (file : List ℕ) (sound : Pcm) → Reads file (accepted sound) → IsWithinLimit file → IsWithinBounds (measured_of sound)
accepted_within file sound reads within =
    let has = HasSound-accepted file sound reads in
    measured_within sound.depth sound.frames sound.lists has.is_sound (has.frames within)
