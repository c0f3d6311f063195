-- What is found of a file that is accepted.
use Rattle.std.proofs.Common.{ℕ, List, subst}
use Rattle.album_merge.specs.Tallies.{Tallied}
use Rattle.lib_base.specs.declared.files.Measured.{Measured}
use Rattle.library_model.specs.Findings.{Finds, measured}
use Rattle.sound_model.specs.Albums.{SummarisesMeasured}
use Rattle.catalogue_core.specs.Imports.{IsTake}

-- The file is found to be its sound, with the levels of its tally.
pub finds_take : (file : List ℕ) (m : Measured) (tally : Tallied) → (take : IsTake file m tally) → Finds file (measured take.sound tally.summary)
finds_take file m tally take =
    let Levels : Measured → Type 0 = λ n. SummarisesMeasured n tally.summary in
    (take.reads, subst Levels take.measured.measured_is take.measured.stands.summary)
