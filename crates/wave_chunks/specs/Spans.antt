-- Chunks as names and spans of a file.
use Rattle.std.specs.Prelude.{◌≡◌, ◌≤◌, ◌<◌, ◌+◌, ℕ, nat_eq, if◌then◌else◌, List, [], ◌∷◌, length, drop, codes, slice_index_or, Option, MatchOption, ◌-◌, slice_get}
use Rattle.std.specs.Option.{option_map}
use Rattle.std.specs.Cmp.Lexicographic.{pointwise}
use Rattle.lib_base.specs.Sounds.{part}
use Rattle.lib_base.specs.declared.files.Span.{Span}
use Rattle.file_model.specs.declared.wave_fields.TheConstants.{SIZE_AT, FORM_AT, CHUNKS_AT, LENGTH_AT, CHUNK_HEAD_BYTES}
use Rattle.file_model.specs.Chunks.{Chunk, Placed, Begins, named, next_head, number_at}
use Rattle.file_model.specs.Wave.{IsNear, AtMostOneBext}
use Rattle.wave_chunks.specs.declared.chunks.Chunk.{Chunk as Stored}

-- where a content of so many bytes lies, behind its chunk's head
abbrev pub span_from : ℕ → ℕ → Span
span_from head count = record { start = head + CHUNK_HEAD_BYTES; end = head + CHUNK_HEAD_BYTES + count }

-- where a chunk's content lies
abbrev pub span_of : Placed → Span
span_of placed = span_from placed.head (length placed.content)

-- the chunks, of which the first has its head here
abbrev pub spans_from : ℕ → List Chunk → List Stored
spans_from head [] = []
spans_from head (chunk ∷ chunks) =
    record { name = chunk.name; content = span_from head (length chunk.content) } ∷ spans_from (next_head head chunk) chunks

-- the spans of a name
abbrev pub spans_named : List ℕ → List Stored → List Span
spans_named name [] = []
spans_named name (chunk ∷ chunks) =
    if pointwise nat_eq chunk.name name then chunk.content ∷ spans_named name chunks else spans_named name chunks

-- the first chunk of the name from here on is the one at this place
pub record IsPlaceOf (name : List ℕ) (from : ℕ) (chunks : List Stored) (place : ℕ) : Type 0 where
  pub inside : place < length chunks
  pub found : (other : Stored) → spans_named name (drop from chunks)
      ≡ (slice_index_or chunks place other).content ∷ spans_named name (drop (place + 1) chunks)

-- the place of the next head, behind the last of some chunks and its pad byte
abbrev pub head_after : ℕ → List Chunk → ℕ
head_after head [] = head
head_after head (chunk ∷ chunks) = head_after (next_head head chunk) chunks

-- these are the chunks of the bytes from the first head to a place, which a missing pad byte does not pass
pub record Walked (bytes : List ℕ) (at : ℕ) (spans : List Stored) : Type 0 where
  pub chunks : List Chunk
  pub begins : Begins (drop CHUNKS_AT bytes) chunks (drop at bytes)
  pub spans_are : spans ≡ spans_from CHUNKS_AT chunks
  pub inside : at ≤ length bytes
  pub head : at < length bytes → head_after CHUNKS_AT chunks ≡ at

-- these are the chunks of the bytes
pub record AreChunks (bytes : List ℕ) (spans : List Stored) : Type 0 where
  pub chunks : List Chunk
  pub whole : Begins (drop CHUNKS_AT bytes) chunks []
  pub spans_are : spans ≡ spans_from CHUNKS_AT chunks

-- a chunk's head at a place, and its content within the bytes
pub record IsStored (bytes : List ℕ) (at : ℕ) (chunk : Stored) : Type 0 where
  pub name : chunk.name ≡ part bytes at 4
  pub content : chunk.content ≡ span_from at (number_at bytes (at + LENGTH_AT))
  pub inside : at + CHUNK_HEAD_BYTES + number_at bytes (at + LENGTH_AT) ≤ length bytes

-- the bytes before the chunks are those of a wave
pub record IsHeaded (bytes : List ℕ) : Type 0 where
  pub long : CHUNKS_AT ≤ length bytes
  pub riff : part bytes 0 4 ≡ codes "RIFF"
  pub form : part bytes FORM_AT 4 ≡ codes "WAVE"
  pub near : IsNear (number_at bytes SIZE_AT) (length bytes)

-- the head before a content
abbrev pub head_of : Option Span → Option ℕ
head_of span = option_map (λ (s : Span). s.start - CHUNK_HEAD_BYTES) span

-- the file has one chunk of this name, whose content lies here
pub record HasOne (bytes name : List ℕ) (span : Span) : Type 0 where
  pub chunks : List Chunk
  pub whole : Begins (drop CHUNKS_AT bytes) chunks []
  pub placed : Placed
  pub one : named name chunks ≡ placed ∷ []
  pub span_is : span ≡ span_of placed

-- the file has no chunk of this name
pub record HasNone (bytes name : List ℕ) : Type 0 where
  pub chunks : List Chunk
  pub whole : Begins (drop CHUNKS_AT bytes) chunks []
  pub none : named name chunks ≡ []

-- the file has no chunk of this name, or one, whose content lies here
abbrev pub AtMostOne : List ℕ → List ℕ → Option Span → Type 0
AtMostOne bytes name found = MatchOption found (HasNone bytes name) (λ span. HasOne bytes name span)

-- the `bext` chunks are right, and the first has its content here
pub record HasRightBext (bytes : List ℕ) (found : Option Span) : Type 0 where
  pub chunks : List Chunk
  pub whole : Begins (drop CHUNKS_AT bytes) chunks []
  pub right : AtMostOneBext (named (codes "bext") chunks)
  pub found_is : found ≡ option_map span_of (slice_get (named (codes "bext") chunks) 0)
