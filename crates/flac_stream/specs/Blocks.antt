-- Blocks as types and spans of a file.
use Rattle.std.specs.Prelude.{◌≡◌, ◌≤◌, ◌+◌, ◌==◌, ◌&&◌, ℕ, Bool, true, false, not, nat_le, if◌then◌else◌, List, [], ◌∷◌, length, drop, Option, None, Some, Result, Ok}
use Rattle.lib_base.specs.Sounds.{part}
use Rattle.lib_base.specs.declared.files.Span.{Span}
use Rattle.std.specs.List.{list_any}
use Rattle.file_model.specs.declared.flac_fields.TheConstants.{BLOCKS_AT, BLOCK_HEAD_BYTES, STREAMINFO, COMMENTS, INVALID, STREAMINFO_BYTES}
use Rattle.file_model.specs.declared.flac_info.Info.{Info}
use Rattle.file_model.specs.declared.flac_rules.FlacRule.{FlacRule}
use Rattle.file_model.specs.declared.flac_rules.FlacRule.TheVariants.{CutBlock, InvalidBlock, NoStreaminfo, RepeatedBlock}
use Rattle.file_model.specs.Bits.{bits}
use Rattle.file_model.specs.Fields.{field}
use Rattle.file_model.specs.FlacFile.{FlacBlock, BlockRead, of_block, BlocksUpTo, IsHead, first_content, info_at}
use Rattle.file_model.specs.Outcomes.{◌>>=◌, holds}
use Rattle.flac_stream.specs.declared.blocks.Block.{Block as Stored}
use Rattle.flac_stream.specs.declared.blocks.Head.{Head as Told}

-- ---- one block

-- what a block's head says
pub record BlockHead : Type 0 where
  pub is_last : Bool
  pub kind : ℕ
  pub count : ℕ

-- a head as the code holds it
abbrev pub head_of : Told → BlockHead
head_of head = record { is_last = head.is_last; kind = head.kind; count = head.count }

-- the head of the block at the start of these bytes
unfoldable pub head_at : List ℕ → Result BlockHead FlacRule
head_at bytes = do
  last ← of_block (field 1 (bits bytes))
  kind ← of_block (field 7 last.1)
  count ← of_block (field 24 kind.1)
  Ok (record { is_last = last.0 == 1; kind = kind.0; count = count.0 })

-- the block of this head
abbrev pub found_by : BlockHead → List ℕ → BlockRead
found_by head bytes = record {
  is_last = head.is_last;
  block = record { kind = head.kind; content = part bytes BLOCK_HEAD_BYTES head.count };
  rest = drop (BLOCK_HEAD_BYTES + head.count) bytes;
}

-- STREAMINFO, of 34 bytes, comes first
abbrev pub may_stand : Bool → ℕ → ℕ → Bool
may_stand is_first kind count = if is_first then (kind == STREAMINFO) && (count == STREAMINFO_BYTES) else true

-- behind the first block each STREAMINFO is one too many, and behind comments each further block of comments
abbrev pub repeats : Bool → Bool → ℕ → Bool
repeats is_first has_comments kind = if kind == STREAMINFO then not is_first else (kind == COMMENTS) && has_comments

-- the block at the start of these bytes, or the rule that it breaks
unfoldable pub tested_at : Bool → Bool → List ℕ → Result BlockRead FlacRule
tested_at is_first has_comments bytes = do
  head ← head_at bytes
  _ ← holds (nat_le (BLOCK_HEAD_BYTES + head.count) (length bytes)) CutBlock
  _ ← holds (not (head.kind == INVALID)) InvalidBlock
  _ ← holds (may_stand is_first head.kind head.count) NoStreaminfo
  _ ← holds (not (repeats is_first has_comments head.kind)) RepeatedBlock
  Ok (found_by head bytes)

-- ---- blocks

-- where a content of so many bytes lies, behind its block's head
abbrev pub span_from : ℕ → ℕ → Span
span_from head count = record { start = head + BLOCK_HEAD_BYTES; end = head + BLOCK_HEAD_BYTES + count }

-- a block whose head lies here
abbrev pub stored : ℕ → FlacBlock → Stored
stored head block = record { kind = block.kind; content = span_from head (length block.content) }

-- where the next block has its head
abbrev pub next_head : ℕ → FlacBlock → ℕ
next_head head block = head + BLOCK_HEAD_BYTES + length block.content

-- the place behind blocks, of which the first has its head here
abbrev pub head_after : ℕ → List FlacBlock → ℕ
head_after head [] = head
head_after head (block ∷ blocks) = head_after (next_head head block) blocks

-- the blocks, of which the first has its head here
abbrev pub spans_from : ℕ → List FlacBlock → List Stored
spans_from head [] = []
spans_from head (block ∷ blocks) = stored head block ∷ spans_from (next_head head block) blocks

-- the place of the block of comments, where the first block has this one
abbrev pub comments_from : ℕ → List FlacBlock → Option ℕ
comments_from place [] = None
comments_from place (block ∷ blocks) = if block.kind == COMMENTS then Some place else comments_from (place + 1) blocks

-- the first of these blocks is STREAMINFO, whose content lies behind its head
pub record HasInfo (bytes : List ℕ) (blocks : List FlacBlock) : Type 0 where
  pub is_there : list_any (λ (block : FlacBlock). block.kind == STREAMINFO) blocks ≡ true
  pub content : first_content blocks ≡ part bytes (BLOCKS_AT + BLOCK_HEAD_BYTES) STREAMINFO_BYTES
  pub inside : BLOCKS_AT + BLOCK_HEAD_BYTES + STREAMINFO_BYTES ≤ length bytes

-- no block yet
abbrev pub is_none : List FlacBlock → Bool
is_none [] = true
is_none (block ∷ blocks) = false

-- blocks as they are kept, up to a place
pub record AreKept (bytes : List ℕ) (at : ℕ) (spans : List Stored) (comments : Option ℕ) (blocks : List FlacBlock) : Type 0 where
  pub spans_are : spans ≡ spans_from BLOCKS_AT blocks
  pub comments_are : comments ≡ comments_from 0 blocks
  pub end_is : head_after BLOCKS_AT blocks ≡ at
  pub inside : at ≤ length bytes
  pub info : is_none blocks ≡ false → HasInfo bytes blocks

-- these are the blocks up to a place, none of them flagged as the last
pub record Walked (bytes : List ℕ) (at : ℕ) (spans : List Stored) (comments : Option ℕ) : Type 0 where
  pub blocks : List FlacBlock
  pub goes : BlocksUpTo [] (drop BLOCKS_AT bytes) blocks (drop at bytes)
  pub kept : AreKept bytes at spans comments blocks

-- the file begins with its mark and these blocks, which end at a place
pub record Opens (bytes : List ℕ) (spans : List Stored) (comments : Option ℕ) (end : ℕ) : Type 0 where
  pub blocks : List FlacBlock
  pub head : IsHead bytes blocks (drop end bytes)
  pub kept : AreKept bytes end spans comments blocks
  pub info : HasInfo bytes blocks

-- the file begins so, and its STREAMINFO says this
pub record IsOpening (bytes : List ℕ) (info : Info) (spans : List Stored) (comments : Option ℕ) (end : ℕ) : Type 0 where
  pub opened : Opens bytes spans comments end
  pub says : info_at (first_content opened.blocks) ≡ Ok info
