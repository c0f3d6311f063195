-- What a file of either kind has where it is accepted: a sound, of bits as files of its kind have, and a bound of its frames.
use Rattle.std.proofs.Common.{◌≡◌, ◌≤◌, inl, inr, ℕ, true, List, Option, Some, None, refl, arith}
use Rattle.std.specs.Prelude.{nat_le, unwrap_or}
use Rattle.std.proofs.lemmas.Bool.Decides.{nat_tests}
use Rattle.lib_base.specs.Kinds.{kind_named}
use Rattle.lib_base.specs.Sounds.{IsSound}
use Rattle.lib_base.specs.declared.files.Kind.{Kind}
use Rattle.lib_base.specs.declared.files.Kind.TheVariants.{Wave, Flac}
use Rattle.lib_base.specs.declared.limits.TheConstants.{LEAST_DEPTH, GREATEST_DEPTH, MOST_SAMPLES}
use Rattle.file_model.specs.Files.{Reads, ReadsAs}
use Rattle.file_model.specs.FlacFile.{IsFlac}
use Rattle.file_model.specs.Pcm.{Pcm}
use Rattle.file_model.specs.Reading.{accepted}
use Rattle.file_model.specs.Wave.{IsWave}
use Rattle.file_model.proofs.Samples.{IsDepth}
use Rattle.flac_stream.proofs.FileSounds.{IsFlac_few, IsFlac_sounds}
use Rattle.library_model.specs.Findings.{kind_of}
use Rattle.library_model.specs.RowRules.{is_depth}
use Rattle.library_model.specs.Stands.{IsWithinLimit}
use Rattle.library_model.proofs.WaveFiles.{frames_of_wave}

-- what an accepted file of a kind has
pub record HasSound (kind : Kind) (file : List ℕ) (sound : Pcm) : Type 0 where
  pub is_sound : IsSound sound.lists sound.depth sound.frames
  pub depth : is_depth kind sound.depth ≡ true
  pub frames : IsWithinLimit file → sound.frames ≤ MOST_SAMPLES

-- waves have 16 or 24 bits
wave_depth : (depth : ℕ) → IsDepth depth → is_depth Wave depth ≡ true
wave_depth depth known = elim known [
  | inl sixteen ↦ rw sixteen refl
  | inr more ↦ rw more refl
]

-- FLAC files have 4 to 24
flac_depth : (depth : ℕ) → LEAST_DEPTH ≤ depth → depth ≤ GREATEST_DEPTH → is_depth Flac depth ≡ true
flac_depth depth low high =
    let least : nat_le LEAST_DEPTH depth ≡ true = grind (arith, nat_tests) in
    let greatest : nat_le depth GREATEST_DEPTH ≡ true = grind (arith, nat_tests) in
    rw (least, greatest) refl

of_wave : (file : List ℕ) (sound : Pcm) → IsWave file sound → HasSound Wave file sound
of_wave file sound wave = record {
  is_sound = wave.1.is_sound;
  depth = wave_depth sound.depth wave.1.is_format.depth_known;
  frames = λ within. let half = frames_of_wave file wave.0 sound wave.1 in omega (arith, half, within);
}

of_flac : (file : List ℕ) (sound : Pcm) → IsFlac file sound → HasSound Flac file sound
of_flac file sound flac =
    let is = IsFlac_sounds file sound flac in
    let few = IsFlac_few file sound flac in
    record {
      is_sound = is;
      depth = flac_depth sound.depth is.least_depth is.greatest_depth;
      frames = λ _. omega (arith, few);
    }

of_kind : (kind : Option Kind) (file : List ℕ) (sound : Pcm) → ReadsAs kind file (accepted sound)
    → HasSound (unwrap_or kind Wave) file sound
of_kind (Some Wave) file sound reads = of_wave file sound reads
of_kind (Some Flac) file sound reads = of_flac file sound (reads.1.blocks, reads.1.info, reads.1.frames, reads.1.reads)
of_kind None file sound reads = absurd (cc reads)

-- An accepted file has a sound as files of its kind have.
pub HasSound-accepted : (file : List ℕ) (sound : Pcm) → Reads file (accepted sound) → HasSound (kind_of file) file sound
HasSound-accepted file sound reads = of_kind (kind_named file) file sound reads
