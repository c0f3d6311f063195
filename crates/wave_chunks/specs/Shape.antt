-- What callers see of a wave.
use Rattle.std.specs.Prelude.{ℕ, List, Option}
use Rattle.lib_base.specs.declared.files.Span.{Span}
use Rattle.wave_chunks.specs.declared.chunks.Chunk.{Chunk as Stored}

-- the chunks, the channels, the bits of a sample, the samples of each channel, and where the samples and the `bext` content lie
pub record Shape : Type 0 where
  pub chunks : List Stored
  pub channels : ℕ
  pub depth : ℕ
  pub frames : ℕ
  pub samples : Span
  pub bext : Option Span
