-- Where the comments of a FLAC file lie.
use Rattle.std.proofs.Common.{◌≡◌, ◌≤◌, ◌<◌, ◌+◌, ◌-◌, ℕ, Bool, true, false, cond, suc, List, [], ◌∷◌, length, get_or, Option, None, Some, Result, Ok, refl, ap, sym, ◌∙◌, subst, arith}
use Rattle.std.specs.Prelude.{◌==◌}
use Rattle.lib_base.specs.Sounds.{part}
use Rattle.lib_base.specs.declared.files.Span.{Span}
use Rattle.file_model.specs.declared.comment_rules.CommentBreak.{CommentBreak}
use Rattle.file_model.specs.Comments.{Comments, comments_at}
use Rattle.file_model.specs.Files.{in_file, comments_in}
use Rattle.file_model.specs.FlacFile.{FlacBlock}
use Rattle.file_model.proofs.BlockPlaces.{LieFrom, blocks_lie}
use Rattle.flac_stream.specs.declared.blocks.Block.{Block as Stored}
use Rattle.flac_stream.specs.Blocks.{stored, next_head, spans_from, comments_from}
use Rattle.flac_stream.specs.Shape.{Shape, IsReadOf}
use Rattle.tag_writer.specs.Answers.{IsCommentsSpan}

-- comments read so, or there are none
abbrev Read : Type 0
Read = Result (Option Comments) CommentBreak

-- the comments are those of the content that lies in this span
record LieIn (bytes : List ℕ) (read : Read) (span : Span) : Type 0 where
  reads : read ≡ in_file span.start (comments_at (part bytes span.start (span.end - span.start)))
  ordered : span.start ≤ span.end
  inside : span.end ≤ length bytes

-- the block of comments has this index, where the first of the spans has this place
record IsFound (bytes : List ℕ) (spans : List Stored) (place index : ℕ) (read : Read) : Type 0 where
  from : place ≤ index
  within : index - place < length spans
  lies : (other : Stored) → LieIn bytes read (get_or spans (index - place) other).content

-- the first block is that of comments
found_first : (bytes : List ℕ) (head place index : ℕ) (block : FlacBlock) (more : List Stored)
    → block.content ≡ part bytes (head + 4) (length block.content) → head + 4 + length block.content ≤ length bytes → place ≡ index
    → IsFound bytes (stored head block ∷ more) place index (in_file (head + 4) (comments_at block.content))
found_first bytes head place index block more content inside same =
    let count = length block.content in
    let size : count ≡ head + 4 + count - (head + 4) = omega arith in
    let none : 0 ≡ index - place = omega (arith, same) in
    let lies : LieIn bytes (in_file (head + 4) (comments_at block.content)) (stored head block).content = record {
      reads = ap (λ (xs : List ℕ). in_file (head + 4) (comments_at xs)) (content ∙ ap (part bytes (head + 4)) size);
      ordered = omega arith;
      inside = inside;
    } in
    record {
      from = omega (arith, same);
      within = omega (arith, same);
      lies = λ other. subst (λ (n : ℕ). LieIn bytes (in_file (head + 4) (comments_at block.content)) (get_or (stored head block ∷ more) n other).content) none lies;
    }

-- it is one of the next
found_next : (bytes : List ℕ) (first : Stored) (more : List Stored) (place index : ℕ) (read : Read)
    → IsFound bytes more (place + 1) index read → IsFound bytes (first ∷ more) place index read
found_next bytes first more place index read found =
    let from = found.from in
    let within = found.within in
    let one : suc (index - (place + 1)) ≡ index - place = omega (arith, from) in
    record {
      from = omega (arith, from);
      within = omega (arith, from, within);
      lies = λ other. subst (λ (n : ℕ). LieIn bytes read (get_or (first ∷ more) n other).content) one (found.lies other);
    }

same_place : (place index : ℕ) → Some place ≡ Some index → place ≡ index
same_place place index is = cc

-- the comments of the blocks from one on, where it is that block or is none
abbrev read_from : Bool → ℕ → FlacBlock → List FlacBlock → Read
read_from here head block blocks =
    cond here (in_file (head + 4) (comments_at block.content)) (comments_in (head + 4 + length block.content) blocks)

-- the index of the block of comments from one on
abbrev index_from : Bool → ℕ → List FlacBlock → Option ℕ
index_from here place blocks = cond here (Some place) (comments_from (place + 1) blocks)

found_by : (bytes : List ℕ) (head place index : ℕ) (block : FlacBlock) (blocks : List FlacBlock) (here : Bool) → LieFrom bytes head (block ∷ blocks)
    → index_from here place blocks ≡ Some index
    → (comments_from (place + 1) blocks ≡ Some index
    → IsFound bytes (spans_from (next_head head block) blocks) (place + 1) index (comments_in (next_head head block) blocks))
    → IsFound bytes (spans_from head (block ∷ blocks)) place index (read_from here head block blocks)
found_by bytes head place index block blocks true lie is next =
    found_first bytes head place index block (spans_from (next_head head block) blocks) lie.0 lie.1 (same_place place index is)
found_by bytes head place index block blocks false lie is next =
    found_next bytes (stored head block) (spans_from (next_head head block) blocks) place index (comments_in (next_head head block) blocks) (next is)

-- the comments of blocks, of which the first has its head here, are those of the block that was kept
found_from : (bytes : List ℕ) (head place index : ℕ) (blocks : List FlacBlock) → LieFrom bytes head blocks → comments_from place blocks ≡ Some index
    → IsFound bytes (spans_from head blocks) place index (comments_in head blocks)
found_from bytes head place index [] lie is = absurd cc
found_from bytes head place index (block ∷ blocks) lie is =
    found_by bytes head place index block blocks (block.kind == 4) lie is (found_from bytes (next_head head block) (place + 1) index blocks lie.2)

none_by : (head place : ℕ) (block : FlacBlock) (blocks : List FlacBlock) (here : Bool) → index_from here place blocks ≡ None
    → (comments_from (place + 1) blocks ≡ None → comments_in (next_head head block) blocks ≡ Ok None) → read_from here head block blocks ≡ Ok None
none_by head place block blocks true is next = absurd cc
none_by head place block blocks false is next = next is

-- no block of comments was kept, so there are none
none_from : (head place : ℕ) (blocks : List FlacBlock) → comments_from place blocks ≡ None → comments_in head blocks ≡ Ok None
none_from head place [] is = refl
none_from head place (block ∷ blocks) is =
    none_by head place block blocks (block.kind == 4) is (none_from (next_head head block) (place + 1) blocks)

-- ---- of a file that was read

pub no_comments : (bytes : List ℕ) (file : Shape) (read : IsReadOf bytes file) → file.comments ≡ None → comments_in 4 read.blocks ≡ Ok None
no_comments bytes file read is = none_from 4 0 read.blocks (sym read.kept.comments_are ∙ is)

found_in : (bytes : List ℕ) (file : Shape) (index : ℕ) (read : IsReadOf bytes file) → file.comments ≡ Some index
    → IsFound bytes (spans_from 4 read.blocks) 0 index (comments_in 4 read.blocks)
found_in bytes file index read is =
    found_from bytes 4 0 index read.blocks (blocks_lie bytes read.blocks _ read.reads.head) (sym read.kept.comments_are ∙ is)

pub index_inside : (bytes : List ℕ) (file : Shape) (index : ℕ) → IsReadOf bytes file → file.comments ≡ Some index → index < length file.blocks
index_inside bytes file index read is =
    let within = (found_in bytes file index read is).within in
    let size = ap length read.kept.spans_are in
    omega (arith, within, size)

pub span_found : (bytes : List ℕ) (file : Shape) (index : ℕ) (span : Span) → file.comments ≡ Some index
    → ((other : Stored) → span ≡ (get_or file.blocks index other).content) → (read : IsReadOf bytes file) → IsCommentsSpan bytes read.blocks span
span_found bytes file index span is at read =
    let none : Stored = record { kind = 0; content = span } in
    let same_index : index - 0 ≡ index = omega arith in
    let same : (get_or (spans_from 4 read.blocks) (index - 0) none).content ≡ span =
    ap (λ (n : ℕ). (get_or (spans_from 4 read.blocks) n none).content) same_index
    ∙ ap (λ (spans : List Stored). (get_or spans index none).content) (sym read.kept.spans_are) ∙ sym (at none) in
    let here = subst (LieIn bytes (comments_in 4 read.blocks)) same ((found_in bytes file index read is).lies none) in
    record { reads = here.reads; ordered = here.ordered; inside = here.inside }
