-- The samples that a wave's bytes hold.
use Rattle.std.proofs.Common.{◌≡◌, ◌≢◌, ◌-◌, ◌*◌, ◌/◌, ℕ, Bool, true, false, cond, ltb, List, [], ◌∷◌, length, suc, inl, inr, refl, subst, ap, ◌∙◌, sym, arith}
use Rattle.std.specs.Prelude.{ℤ, pos, negsuc, All, codes, flat_map}
use Rattle.std.specs.Int.{w16, cast_signed, from_le_bytes}
use mir.Val.{sel}
use Rattle.std.proofs.Math.Nat.{mul-div_cancel_left}
use Rattle.lib_base.specs.Sounds.{IsSound, IsSample, part}
use Rattle.file_model.specs.Channels.{first_channels}
use Rattle.file_model.specs.Chunks.{Placed}
use Rattle.file_model.specs.Pcm.{Pcm, interleaved}
use Rattle.file_model.specs.Samples.{sample_in, samples_in, number_in}
use Rattle.file_model.specs.Wave.{sample_bytes}
use Rattle.file_model.proofs.Interleaving.{channels-interleaved, length-interleaved}
use Rattle.file_model.proofs.Samples.{IsDepth, samples_in-bytes, length-samples_in, length-bytes, All-interleaved}
use Rattle.file_model.proofs.Waves.{chunks_of_wave, one_placed, size_positive}
use Rattle.wave_chunks.specs.Answers.{IsReadOf}
use Rattle.wave_chunks.specs.Held.{channels_held, samples_held}
use Rattle.wave_chunks.specs.Shape.{Shape}
use Rattle.wave_chunks.specs.Spans.{HasOne}
use Rattle.wave_chunks.proofs.Locating.{lies}

-- the file has its samples where reading says
pub has_samples : (bytes : List ℕ) (wave : Shape) → IsReadOf bytes wave → HasOne bytes (codes "data") wave.samples
has_samples bytes wave read = record {
  chunks = read.chunks;
  whole = chunks_of_wave bytes read.chunks read.sound read.reads;
  placed = read.data_chunk;
  one = read.one_data;
  span_is = read.samples;
}

-- the depth is one of two
pub depth_of_read : (bytes : List ℕ) (wave : Shape) → IsReadOf bytes wave → IsDepth wave.depth
depth_of_read bytes wave read = subst IsDepth (sym read.depth) read.reads.is_format.depth_known

-- the bytes there are those of the samples, frame by frame
content_of_read : (bytes : List ℕ) (wave : Shape) (read : IsReadOf bytes wave)
    → part bytes wave.samples.start (wave.samples.end - wave.samples.start)
    ≡ flat_map (sample_bytes read.sound.depth) (interleaved read.sound.frames read.sound.lists)
unfolding has_samples
content_of_read bytes wave read =
    let has = has_samples bytes wave read in
    (lies bytes (codes "data") wave.samples has).content_is
    ∙ ap (λ (p : Placed). p.content) (one_placed _ read.data_chunk read.reads.data_chunk read.one_data read.reads.one_data) ∙ read.reads.samples

counted : (depth count whole : ℕ) → IsDepth depth → whole ≡ depth / 8 * count → whole / (depth / 8) ≡ count
counted depth count whole known is =
    ap (λ (n : ℕ). n / (depth / 8)) is ∙ mul-div_cancel_left count (size_positive depth known)

-- what is read from the bytes there are the samples, frame by frame
held_samples : (bytes content : List ℕ) (wave : Shape) (read : IsReadOf bytes wave) (depth : ℕ)
    → content ≡ part bytes wave.samples.start (wave.samples.end - wave.samples.start) → depth ≡ wave.depth
    → samples_held depth content ≡ interleaved read.sound.frames read.sound.lists
held_samples bytes content wave read depth is depth_is =
    let sound = read.sound in
    let ys = interleaved sound.frames sound.lists in
    let known : IsDepth sound.depth = read.reads.is_format.depth_known in
    let to_depth : depth ≡ sound.depth = depth_is ∙ read.depth in
    let written : content ≡ flat_map (sample_bytes sound.depth) ys = is ∙ content_of_read bytes wave read in
    let count : length content / (sound.depth / 8) ≡ length ys =
    counted sound.depth (length ys) (length content) known (ap length written ∙ length-bytes sound.depth ys known) in
    ap (λ (d : ℕ). samples_in d (length content / (d / 8)) content) to_depth
    ∙ ap (λ (n : ℕ). samples_in sound.depth n content) count
    ∙ ap (samples_in sound.depth (length ys)) written
    ∙ samples_in-bytes sound.depth ys known
    (All-interleaved (IsSample sound.depth) sound.frames sound.frames sound.lists (omega arith) read.reads.is_sound.equal read.reads.is_sound.within)

-- the channels of the wave's samples are those of the wave
held_channels : (sound : Pcm) (items : List ℤ) (channels frames : ℕ) → All (λ xs. length xs ≡ sound.frames) sound.lists
    → channels ≡ length sound.lists → frames ≡ sound.frames → items ≡ interleaved sound.frames sound.lists
    → first_channels channels channels frames items ≡ sound.lists
held_channels sound items channels frames equal channels_is frames_is items_is =
    ap (λ (k : ℕ). first_channels k k frames items) channels_is
    ∙ ap (λ (n : ℕ). first_channels (length sound.lists) (length sound.lists) n items) frames_is
    ∙ ap (λ (ys : List ℤ). first_channels (length sound.lists) (length sound.lists) sound.frames ys) items_is
    ∙ channels-interleaved sound.frames sound.lists equal

-- the channels in the bytes there are those of the wave
pub held_is : (bytes content : List ℕ) (wave : Shape) (read : IsReadOf bytes wave) (depth channels frames : ℕ)
    → content ≡ part bytes wave.samples.start (wave.samples.end - wave.samples.start) → depth ≡ wave.depth → channels ≡ wave.channels
    → frames ≡ wave.frames → channels_held depth channels frames content ≡ read.sound.lists
held_is bytes content wave read depth channels frames is depth_is channels_is frames_is =
    held_channels read.sound (samples_held depth content) channels frames read.reads.is_sound.equal (channels_is ∙ read.channels)
    (frames_is ∙ read.frames) (held_samples bytes content wave read depth is depth_is)

-- they are as many samples as all channels have
pub held_whole : (bytes content : List ℕ) (wave : Shape) (read : IsReadOf bytes wave) (depth channels frames : ℕ)
    → content ≡ part bytes wave.samples.start (wave.samples.end - wave.samples.start) → depth ≡ wave.depth → channels ≡ wave.channels
    → frames ≡ wave.frames → length content / (depth / 8) ≡ channels * frames
held_whole bytes content wave read depth channels frames is depth_is channels_is frames_is =
    let sound = read.sound in
    sym (length-samples_in depth (length content / (depth / 8)) content)
    ∙ ap length (held_samples bytes content wave read depth is depth_is)
    ∙ length-interleaved sound.frames sound.lists
    ∙ ap (λ (k : ℕ). k * sound.frames) (sym (channels_is ∙ read.channels))
    ∙ ap (λ (n : ℕ). channels * n) (sym (frames_is ∙ read.frames))

-- they are a sound
pub held_sound : (bytes content : List ℕ) (wave : Shape) (read : IsReadOf bytes wave) (depth channels frames : ℕ)
    → content ≡ part bytes wave.samples.start (wave.samples.end - wave.samples.start) → depth ≡ wave.depth → channels ≡ wave.channels
    → frames ≡ wave.frames → IsSound (channels_held depth channels frames content) depth frames
held_sound bytes content wave read depth channels frames is depth_is channels_is frames_is =
    let sound = read.sound in
    let OfFrames : ℕ → Type 0 = λ n. IsSound sound.lists sound.depth n in
    let OfDepth : ℕ → Type 0 = λ d. IsSound sound.lists d frames in
    let OfLists : List (List ℤ) → Type 0 = λ xss. IsSound xss depth frames in
    subst OfLists (sym (held_is bytes content wave read depth channels frames is depth_is channels_is frames_is))
    (subst OfDepth (sym (depth_is ∙ read.depth)) (subst OfFrames (sym (frames_is ∙ read.frames)) read.reads.is_sound))

-- a depth other than 16 is 24
pub known_depth : (depth : ℕ) → IsDepth depth → depth ≢ 16 → depth ≡ 24
known_depth depth (inl sixteen) other = absurd (other sixteen)
known_depth depth (inr more) other = more

-- ---- one sample

selected : (test : Bool) (one other : ℤ) → sel test one other ≡ cond test one other
selected true one other = refl
selected false one other = refl

two_number : (pair : List ℕ) → length pair ≡ 2 → from_le_bytes w16 pair ≡ number_in pair
two_number (a ∷ b ∷ []) two = omega arith
two_number [] two = absurd (omega (arith, two))
two_number (a ∷ []) two = absurd (omega (arith, two))
two_number (a ∷ b ∷ c ∷ more) two = absurd (omega (arith, two))

pub sample_of_two : (pair : List ℕ) → length pair ≡ 2 → cast_signed w16 (from_le_bytes w16 pair) ≡ sample_in 16 pair
sample_of_two pair two =
    ap (cast_signed w16) (two_number pair two)
    ∙ selected (ltb (number_in pair) 32768) (pos (number_in pair)) (negsuc (65536 - suc (number_in pair)))
