-- A file is found to be one thing, with one summary.
use Rattle.std.proofs.Common.{◌≡◌, ℕ, List, ap, ◌∙◌, subst}
use Rattle.lib_base.specs.declared.files.Summary.{Summary}
use Rattle.file_model.specs.Pcm.{Pcm}
use Rattle.file_model.specs.Reading.{accepted, broken}
use Rattle.file_model.proofs.FileLaws.{Reads_unique}
use Rattle.sound_model.specs.Blocks.{blocks_of, windows_of}
use Rattle.sound_model.specs.Peaks.{peak_of}
use Rattle.sound_model.proofs.SummaryLaws.{Summarises-unique}
use Rattle.library_model.specs.Findings.{IsSummaryOf, Finding, Finds, measured, broken_by, energies_of}

-- a sound has one summary
pub IsSummaryOf-unique : (sound : Pcm) (a b : Summary) → IsSummaryOf sound a → IsSummaryOf sound b → a ≡ b
IsSummaryOf-unique sound a b x y =
    Summarises-unique sound.frames (blocks_of (energies_of sound)) (windows_of (energies_of sound))
    (peak_of sound.depth sound.frames sound.lists) a b x y

-- a file is found to be one thing
pub Finds_unique : (file : List ℕ) (f g : Finding) → Finds file f → Finds file g → f ≡ g
Finds_unique file (measured sound summary) (measured other levels) x y =
    let one : accepted sound ≡ accepted other = Reads_unique file (accepted sound) (accepted other) x.0 y.0 in
    let same : sound ≡ other = cc one in
    let OfSound : Pcm → Type 0 = λ p. IsSummaryOf p summary in
    ap (λ (p : Pcm). measured p summary) same
    ∙ ap (measured other) (IsSummaryOf-unique other summary levels (subst OfSound same x.1) y.1)
Finds_unique file (measured sound summary) (broken_by rule place) x y =
    let one : accepted sound ≡ broken rule place = Reads_unique file (accepted sound) (broken rule place) x.0 y in cc one
Finds_unique file (broken_by rule place) (measured sound summary) x y =
    let one : accepted sound ≡ broken rule place = Reads_unique file (accepted sound) (broken rule place) y.0 x in cc one
Finds_unique file (broken_by rule place) (broken_by other where_) x y =
    let one : broken rule place ≡ broken other where_ = Reads_unique file (broken rule place) (broken other where_) x y in cc one
