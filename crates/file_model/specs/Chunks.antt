-- A file as chunks. After the Multimedia Programming Interface and Data Specifications 1.0 of Microsoft and IBM (RIFF).
-- Numbers stand with their lowest byte first.
use Rattle.std.specs.Prelude.{◌≡◌, ◌⊎◌, ◌+◌, ◌%◌, ◌^◌, ◌<◌, min, ℕ, if◌then◌else◌, nat_eq, List, [], ◌∷◌, ◌++◌, length, codes, Option, Some, None}
use Rattle.std.specs.Int.{w16, w32, to_le_bytes, from_le_bytes}
use Rattle.std.specs.Cmp.Lexicographic.{pointwise}
use Rattle.lib_base.specs.Sounds.{part}
use Rattle.file_model.specs.declared.wave_fields.TheConstants.{CHUNKS_AT, LENGTH_AT, CHUNK_HEAD_BYTES}

-- a number in two bytes
abbrev pub two_bytes : ℕ → List ℕ
two_bytes n = to_le_bytes w16 n

-- a number in four bytes
abbrev pub four_bytes : ℕ → List ℕ
four_bytes n = to_le_bytes w32 n

-- the number in the two bytes at a place
abbrev pub short_at : List ℕ → ℕ → ℕ
short_at bytes at = from_le_bytes w16 (part bytes at 2)

-- the number in the four bytes at a place
abbrev pub number_at : List ℕ → ℕ → ℕ
number_at bytes at = from_le_bytes w32 (part bytes at 4)

-- a name, and the bytes behind it
pub record Chunk : Type 0 where
  pub name : List ℕ
  pub content : List ℕ

-- the name takes four bytes, and the length of the content has a place in four
pub record IsChunk (chunk : Chunk) : Type 0 where
  pub name_length : length chunk.name ≡ 4
  pub content_fits : length chunk.content < 2 ^ 32

-- a chunk in bytes: its name, the length of its content, its content
abbrev pub spelling : Chunk → List ℕ
spelling chunk = chunk.name ++ (four_bytes (length chunk.content) ++ chunk.content)

-- behind a content of odd length stands one byte of any value, which may be missing at the end of the bytes
abbrev pub IsPad : ℕ → List ℕ → List ℕ → Type 0
IsPad count pad more = (length pad ≡ count % 2) ⊎ ((pad ≡ []) × (more ≡ []))

-- the bytes are the spellings of the chunks one after another, and then the rest
abbrev pub Begins : List ℕ → List Chunk → List ℕ → Type 0
Begins bytes [] rest = bytes ≡ rest
Begins bytes (chunk ∷ chunks) rest =
    (pad : List ℕ) × (more : List ℕ) × IsChunk chunk × (bytes ≡ spelling chunk ++ (pad ++ more)) × IsPad (length chunk.content) pad more
    × Begins more chunks rest

-- no whole chunk stands first in these bytes: its head, or its content, passes their end
abbrev pub IsCut : List ℕ → Type 0
IsCut bytes = (length bytes < CHUNK_HEAD_BYTES) ⊎ (length bytes < CHUNK_HEAD_BYTES + number_at bytes LENGTH_AT)

-- a chunk's content, and the place of the chunk's head in the file
pub record Placed : Type 0 where
  pub head : ℕ
  pub content : List ℕ

-- where the next chunk has its head, after one that has it here
abbrev pub next_head : ℕ → Chunk → ℕ
next_head head chunk = head + CHUNK_HEAD_BYTES + length chunk.content + length chunk.content % 2

-- the chunks of a name, of chunks the first of which has its head here
abbrev pub named_from : ℕ → List ℕ → List Chunk → List Placed
named_from head name [] = []
named_from head name (chunk ∷ chunks) =
    if pointwise nat_eq chunk.name name
    then record { head = head; content = chunk.content } ∷ named_from (next_head head chunk) name chunks
    else named_from (next_head head chunk) name chunks

-- the chunks of a name in a file
abbrev pub named : List ℕ → List Chunk → List Placed
named name chunks = named_from CHUNKS_AT name chunks

-- the place of the second of some chunks
abbrev pub second_head : List Placed → Option ℕ
second_head [] = None
second_head (first ∷ []) = None
second_head (first ∷ second ∷ more) = Some second.head

-- the lesser of two places, where both are there
abbrev pub earlier : Option ℕ → Option ℕ → Option ℕ
earlier None place = place
earlier (Some one) None = Some one
earlier (Some one) (Some other) = Some (min one other)

-- the first place at which a second `fmt `, `data` or `bext` chunk stands
abbrev pub first_repeat : List Chunk → Option ℕ
first_repeat chunks =
    earlier (second_head (named (codes "fmt ") chunks))
    (earlier (second_head (named (codes "data") chunks)) (second_head (named (codes "bext") chunks)))
