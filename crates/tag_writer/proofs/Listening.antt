-- The sound of a file that is accepted, by its kind.
use Rattle.std.proofs.Common.{◌≡◌, ℕ, List, Option, ap, sym, ◌∙◌, subst}
use Rattle.lib_base.specs.declared.files.Kind.{Kind}
use Rattle.file_model.specs.Files.{ReadsAs, Reads}
use Rattle.file_model.specs.FlacFile.{IsFlac}
use Rattle.file_model.specs.Pcm.{Pcm}
use Rattle.file_model.specs.Reading.{accepted}
use Rattle.file_model.specs.Wave.{IsWave}
use Rattle.file_model.proofs.FlacLaws.{IsFlac_unique}
use Rattle.file_model.proofs.Waves.{IsWave_unique}
use Rattle.flac_stream.specs.Shape.{Shape as FlacShape}
use Rattle.flac_stream.proofs.FileSounds.{sound_is}
use Rattle.wave_chunks.specs.Shape.{Shape as WaveShape}
use Rattle.tag_writer.specs.declared.files.Accepted.{Accepted}
use Rattle.tag_writer.specs.declared.files.Accepted.TheVariants.{Wave, Flac}
use Rattle.tag_writer.specs.Answers.{IsAcceptedOf}

-- ---- waves

pub wave_there : (bytes : List ℕ) (file : Accepted) (wave : WaveShape) → file ≡ Wave wave → IsAcceptedOf bytes file → IsAcceptedOf bytes (Wave wave)
wave_there bytes file wave is read = subst (IsAcceptedOf bytes) is read

pub wave_reads : (bytes : List ℕ) (wave : WaveShape) (sound : Pcm) → IsAcceptedOf bytes (Wave wave) → Reads bytes (accepted sound) → IsWave bytes sound
wave_reads bytes wave sound read reads = subst (λ (kind : Option Kind). ReadsAs kind bytes (accepted sound)) read.0 reads

wave_sound : (bytes : List ℕ) (wave : WaveShape) (sound : Pcm) (read : IsAcceptedOf bytes (Wave wave)) → Reads bytes (accepted sound)
    → read.1.sound ≡ sound
wave_sound bytes wave sound read reads =
    IsWave_unique bytes read.1.sound sound (read.1.chunks, read.1.reads) (wave_reads bytes wave sound read reads)

pub wave_depth : (bytes : List ℕ) (wave : WaveShape) (sound : Pcm) → IsAcceptedOf bytes (Wave wave) → Reads bytes (accepted sound)
    → wave.depth ≡ sound.depth
wave_depth bytes wave sound read reads = read.1.depth ∙ ap (λ (s : Pcm). s.depth) (wave_sound bytes wave sound read reads)

pub wave_frames : (bytes : List ℕ) (wave : WaveShape) (sound : Pcm) → IsAcceptedOf bytes (Wave wave) → Reads bytes (accepted sound)
    → wave.frames ≡ sound.frames
wave_frames bytes wave sound read reads = read.1.frames ∙ ap (λ (s : Pcm). s.frames) (wave_sound bytes wave sound read reads)

-- ---- FLAC files

pub flac_there : (bytes : List ℕ) (file : Accepted) (flac : FlacShape) → file ≡ Flac flac → IsAcceptedOf bytes file → IsAcceptedOf bytes (Flac flac)
flac_there bytes file flac is read = subst (IsAcceptedOf bytes) is read

pub flac_reads : (bytes : List ℕ) (flac : FlacShape) (sound : Pcm) → IsAcceptedOf bytes (Flac flac) → Reads bytes (accepted sound) → IsFlac bytes sound
flac_reads bytes flac sound read reads =
    let found = subst (λ (kind : Option Kind). ReadsAs kind bytes (accepted sound)) read.0 reads in
    (found.1.blocks, found.1.info, found.1.frames, found.1.reads)

flac_sound : (bytes : List ℕ) (flac : FlacShape) (sound : Pcm) (read : IsAcceptedOf bytes (Flac flac)) → Reads bytes (accepted sound)
    → read.1.read.sound ≡ sound
flac_sound bytes flac sound read reads =
    IsFlac_unique bytes read.1.read.sound sound (read.1.read.blocks, flac.info, read.1.read.frames, read.1.read.reads)
    (flac_reads bytes flac sound read reads)

pub flac_depth : (bytes : List ℕ) (flac : FlacShape) (sound : Pcm) → IsAcceptedOf bytes (Flac flac) → Reads bytes (accepted sound)
    → flac.info.depth ≡ sound.depth
flac_depth bytes flac sound read reads =
    ap (λ (s : Pcm). s.depth)
    (sound_is flac.info read.1.read.frames read.1.read.sound read.1.read.reads.sounds ∙ flac_sound bytes flac sound read reads)

pub flac_frames : (bytes : List ℕ) (flac : FlacShape) (sound : Pcm) → IsAcceptedOf bytes (Flac flac) → Reads bytes (accepted sound)
    → flac.frames ≡ sound.frames
flac_frames bytes flac sound read reads = read.1.read.count_is ∙ ap (λ (s : Pcm). s.frames) (flac_sound bytes flac sound read reads)

-- ---- files of either kind

-- what is accepted has a sound
pub accepted_reads : (bytes : List ℕ) (file : Accepted) → IsAcceptedOf bytes file → (sound : Pcm) × Reads bytes (accepted sound)
accepted_reads bytes (Wave wave) read = (
  read.1.sound,
  subst (λ (kind : Option Kind). ReadsAs kind bytes (accepted read.1.sound)) (sym read.0) (read.1.chunks, read.1.reads),
)
accepted_reads bytes (Flac flac) read = (
  read.1.read.sound,
  subst (λ (kind : Option Kind). ReadsAs kind bytes (accepted read.1.read.sound)) (sym read.0) (
    read.1.comments,
    record {
      blocks = read.1.read.blocks;
      info = flac.info;
      frames = read.1.read.frames;
      reads = read.1.read.reads;
      comments_are = read.1.right;
    },
  ),
)
