-- What reading a file answers.
use Rattle.std.specs.Prelude.{◌≡◌, ◌≤◌, ◌+◌, ℕ, List, [], ◌∷◌, ⊤, length, drop, codes, slice_get}
use Rattle.std.specs.Option.{option_map}
use Rattle.lib_base.specs.declared.outcomes.Refused.{Refused}
use Rattle.lib_base.specs.declared.outcomes.Refused.TheVariants.{Broken, Memory}
use Rattle.file_model.specs.declared.wave_fields.TheConstants.{CHUNKS_AT, CHUNK_HEAD_BYTES}
use Rattle.file_model.specs.Chunks.{Chunk, Placed, Begins, named}
use Rattle.file_model.specs.Pcm.{Pcm}
use Rattle.file_model.specs.Reading.{ReadsAsWave, broken}
use Rattle.file_model.specs.Wave.{IsWaveOf}
use Rattle.wave_chunks.specs.Shape.{Shape}
use Rattle.wave_chunks.specs.Spans.{span_of, spans_from}

-- The wave is what reading the bytes gives: they are a wave file of these chunks and this sound, with its format and spans.
pub record IsReadOf (bytes : List ℕ) (wave : Shape) : Type 0 where
  pub chunks : List Chunk
  pub sound : Pcm
  pub reads : IsWaveOf bytes chunks sound
  pub spans : wave.chunks ≡ spans_from CHUNKS_AT chunks
  pub channels : wave.channels ≡ length sound.lists
  pub depth : wave.depth ≡ sound.depth
  pub frames : wave.frames ≡ sound.frames
  pub data_chunk : Placed
  pub one_data : named (codes "data") chunks ≡ data_chunk ∷ []
  pub samples : wave.samples ≡ span_of data_chunk
  pub bext : wave.bext ≡ option_map span_of (slice_get (named (codes "bext") chunks) 0)

-- The refusal is that of these bytes: they read as broken by its rule, at its place. Want of memory says nothing of them.
abbrev pub IsRefusalOf : List ℕ → Refused → Type 0
IsRefusalOf bytes (Broken fault) = ReadsAsWave bytes (broken fault.rule fault.place)
IsRefusalOf bytes Memory = ⊤

-- this is the content of the one `fmt ` chunk, and this its place
pub record IsFormatContent (bytes : List ℕ) (content : List ℕ) (at : ℕ) : Type 0 where
  pub chunks : List Chunk
  pub whole : Begins (drop CHUNKS_AT bytes) chunks []
  pub format : Placed
  pub one : named (codes "fmt ") chunks ≡ format ∷ []
  pub content_is : content ≡ format.content
  pub at_is : at ≡ format.head + CHUNK_HEAD_BYTES
  pub inside : at + length content ≤ length bytes
