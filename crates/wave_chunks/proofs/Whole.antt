-- A wave that was read whole.
use Rattle.std.proofs.Common.{◌≡◌, ◌-◌, ◌*◌, ◌/◌, ◌%◌, ℕ, List, [], ◌∷◌, length, slice_get, drop, subst, ap, ◌∙◌, sym}
use Rattle.std.specs.Prelude.{codes}
use Rattle.std.specs.Option.{option_map}
use Rattle.lib_base.specs.declared.files.Span.{Span}
use Rattle.file_model.specs.declared.wave_fields.TheConstants.{CHUNKS_AT}
use Rattle.file_model.specs.Chunks.{Placed, named}
use Rattle.file_model.specs.Format.{channels_of, depth_of, align_of}
use Rattle.file_model.specs.Pcm.{Pcm}
use Rattle.file_model.specs.Wave.{AtMostOneBext, IsWave}
use Rattle.file_model.proofs.Interleaving.{length-first_channels}
use Rattle.file_model.proofs.Makes.{wave_made}
use Rattle.file_model.specs.Samples.{samples_in}
use Rattle.file_model.proofs.Samples.{AreBytes}
use Rattle.file_model.proofs.Spellings.{chunks_unique}
use Rattle.file_model.proofs.Waves.{sound_in, IsWave_unique}
use Rattle.wave_chunks.specs.declared.format.Format.{Format}
use Rattle.wave_chunks.specs.Answers.{IsReadOf}
use Rattle.wave_chunks.specs.Formats.{SaysFormat}
use Rattle.wave_chunks.specs.Shape.{Shape}
use Rattle.wave_chunks.specs.Spans.{AreChunks, HasOne, HasRightBext, IsHeaded, span_of}
use Rattle.wave_chunks.proofs.Locating.{lies, part_frame_is}

pub read_is : (bytes : List ℕ) (wave : Shape) (format : Format) (samples : Span) → AreBytes bytes → IsHeaded bytes → AreChunks bytes wave.chunks
    → SaysFormat bytes format → HasOne bytes (codes "data") samples → (samples.end - samples.start) % format.align ≡ 0 → HasRightBext bytes wave.bext
    → wave.channels ≡ format.channels → wave.depth ≡ format.depth → wave.frames ≡ (samples.end - samples.start) / format.align → wave.samples ≡ samples
    → IsReadOf bytes wave
read_is bytes wave format samples are headed chunks says has whole bext channels depth frames samples_is =
    let file = chunks.chunks in
    let to_format : named (codes "fmt ") file ≡ says.placed ∷ [] =
    ap (named (codes "fmt ")) (chunks_unique file says.chunks (drop CHUNKS_AT bytes) chunks.whole says.whole) ∙ says.one in
    let to_data : named (codes "data") file ≡ has.placed ∷ [] =
    ap (named (codes "data")) (chunks_unique file has.chunks (drop CHUNKS_AT bytes) chunks.whole has.whole) ∙ has.one in
    let to_bext : named (codes "bext") bext.chunks ≡ named (codes "bext") file =
    ap (named (codes "bext")) (chunks_unique bext.chunks file (drop CHUNKS_AT bytes) bext.whole chunks.whole) in
    let content = says.placed.content in
    let data_chunk = has.placed.content in
    let k = channels_of content in
    let n = length data_chunk / align_of content in
    record {
      chunks = file;
      sound = sound_in content data_chunk;
      reads =
          wave_made bytes file says.placed has.placed are headed.long headed.riff headed.form headed.near chunks.whole to_format to_data
          (subst AtMostOneBext to_bext bext.right) says.is_format says.some says.few (sym (part_frame_is bytes samples format says has) ∙ whole);
      spans = chunks.spans_are;
      channels = channels ∙ says.channels ∙ sym (length-first_channels k k n (samples_in (depth_of content) (k * n) data_chunk));
      depth = depth ∙ says.depth;
      frames =
          frames ∙ ap (λ (count : ℕ). count / format.align) (lies bytes (codes "data") samples has).size
          ∙ ap (λ (count : ℕ). length data_chunk / count) says.align;
      data_chunk = has.placed;
      one_data = to_data;
      samples = samples_is ∙ has.span_is;
      bext = bext.found_is ∙ ap (λ (found : List Placed). option_map span_of (slice_get found 0)) to_bext;
    }

-- the frames are those of the file's sound, whichever proof gave it
pub frames_of_read : (bytes : List ℕ) (wave : Shape) (sound : Pcm) → IsReadOf bytes wave → IsWave bytes sound → wave.frames ≡ sound.frames
frames_of_read bytes wave sound read is_wave =
    read.frames ∙ ap (λ (s : Pcm). s.frames) (IsWave_unique bytes read.sound sound (read.chunks, read.reads) is_wave)
