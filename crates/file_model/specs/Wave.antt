-- The wave file: `RIFF`, a size, `WAVE`, and chunks. After the Multimedia Programming Interface and Data
-- Specifications 1.0 of Microsoft and IBM (RIFF), and EBU Tech 3285.
use Rattle.std.specs.Prelude.{◌≡◌, ◌⊎◌, ◌+◌, ◌/◌, ◌^◌, ◌<◌, ◌≤◌, ℕ, ℤ, List, [], ◌∷◌, ◌++◌, length, take, codes, flat_map}
use Rattle.std.specs.Int.{w32, cast_unsigned}
use Rattle.lib_base.specs.Sounds.{IsSound}
use Rattle.file_model.specs.declared.wave_fields.TheConstants.{FORM_AT, BEXT_BYTES}
use Rattle.file_model.specs.Pcm.{Pcm, interleaved}
use Rattle.file_model.specs.Chunks.{Chunk, Placed, Begins, named, four_bytes}
use Rattle.file_model.specs.Format.{IsFormat}

-- a sample in so many bits: the lowest bytes of its two's complement
abbrev pub sample_bytes : ℕ → ℤ → List ℕ
sample_bytes depth sample = take (depth / 8) (four_bytes (cast_unsigned w32 sample))

-- the size field counts the bytes behind it, or one more or one fewer
abbrev pub IsNear : ℕ → ℕ → Type 0
IsNear size whole = (FORM_AT + size ≤ whole + 1) × (whole ≤ FORM_AT + size + 1)

-- the `bext` chunks: none, or one that is long enough
abbrev pub AtMostOneBext : List Placed → Type 0
AtMostOneBext found = (found ≡ []) ⊎ ((bext : Placed) × (found ≡ bext ∷ []) × (BEXT_BYTES ≤ length bext.content))

-- the bytes are a wave file of these chunks and this sound
pub record IsWaveOf (bytes : List ℕ) (chunks : List Chunk) (sound : Pcm) : Type 0 where
  pub size : ℕ
  pub body : List ℕ
  pub written : bytes ≡ codes "RIFF" ++ (four_bytes size ++ (codes "WAVE" ++ body))
  pub size_fits : size < 2 ^ 32
  pub near : IsNear size (length bytes)
  pub spelled : Begins body chunks []
  pub format : Placed
  pub data_chunk : Placed
  pub one_format : named (codes "fmt ") chunks ≡ format ∷ []
  pub one_data : named (codes "data") chunks ≡ data_chunk ∷ []
  pub one_bext : AtMostOneBext (named (codes "bext") chunks)
  pub is_format : IsFormat format.content (length sound.lists) sound.depth
  pub samples : data_chunk.content ≡ flat_map (sample_bytes sound.depth) (interleaved sound.frames sound.lists)
  pub is_sound : IsSound sound.lists sound.depth sound.frames

-- the bytes are a wave file of this sound
abbrev pub IsWave : List ℕ → Pcm → Type 0
IsWave bytes sound = (chunks : List Chunk) × IsWaveOf bytes chunks sound
