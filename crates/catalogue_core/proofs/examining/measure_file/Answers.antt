use Rattle.std.proofs.Common.{◌≡◌, ◌∙◌, ℕ, List, refl}
use Rattle.std.specs.Prelude.{ℤ}
use Rattle.std.proofs.lemmas.Result.{IfOk-weaker}
use Rattle.lib_base.specs.declared.files.Measured.{Measured}
use Rattle.file_model.specs.Files.{Reads}
use Rattle.file_model.specs.Pcm.{Pcm}
use Rattle.file_model.specs.Reading.{accepted as reads_as}
use Rattle.sound_model.specs.Summaries.{measured}
use Rattle.library_model.specs.Findings.{measured_of}
use Rattle.catalogue_core.proofs.examining.measure_file.Goals as goal

same_measured : (depth frames : ℕ) (lists : List (List ℤ)) (sound : Pcm) → depth ≡ sound.depth → frames ≡ sound.frames → lists ≡ sound.lists
    → measured depth frames lists ≡ measured_of sound
same_measured depth frames lists sound depth_is frames_is lists_is = rw (depth_is, frames_is, lists_is) refl

pub returns : goal.returns
returns g c =
    let over = c.over.ensures in
    IfOk-weaker c.measure.result _ (λ (m : Measured). (sound : Pcm) → Reads c.args.file.now (reads_as sound) → m ≡ measured_of sound)
    (λ m is sound reads.
    is ∙ same_measured _ _ _ sound (over.depth sound reads) (over.frames sound reads) (over.lists sound reads))
    c.measure.ensures.measured
