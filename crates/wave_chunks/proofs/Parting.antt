-- The chunks that stand once at most.
use Rattle.std.proofs.Common.{◌≡◌, ◌+◌, ◌-◌, ℕ, List, [], ◌∷◌, map, slice_get, drop, refl, subst, ap, ◌∙◌, sym, arith}
use Rattle.std.specs.Prelude.{codes, Option, Some, None}
use Rattle.lib_base.specs.declared.files.Span.{Span}
use Rattle.file_model.specs.declared.wave_fields.TheConstants.{CHUNKS_AT}
use Rattle.file_model.specs.declared.wave_rules.WaveRule.TheVariants.{RepeatedChunk, NoFormat}
use Rattle.file_model.specs.Chunks.{Chunk, Placed, Begins, named, second_head, earlier, first_repeat}
use Rattle.file_model.specs.Rules.{OfChunks, BreaksNoneBelow}
use Rattle.file_model.proofs.Readings.{none_below_next}
use Rattle.file_model.proofs.Spellings.{chunks_unique}
use Rattle.wave_chunks.specs.declared.chunks.Chunk.{Chunk as Stored}
use Rattle.wave_chunks.specs.Spans.{AreChunks, AtMostOne, head_of, span_of, spans_named}
use Rattle.wave_chunks.proofs.Naming.{spans_named-from}

-- the contents of a name, as the file's chunks say
contents_of : (bytes name : List ℕ) (spans : List Stored) (are : AreChunks bytes spans) → spans_named name spans ≡ map span_of (named name are.chunks)
contents_of bytes name spans are = ap (spans_named name) are.spans_are ∙ spans_named-from name CHUNKS_AT are.chunks

back_to_head : (head : ℕ) → head + 8 - 8 ≡ head
back_to_head head = omega arith

second_before : (found : List Placed) → head_of (slice_get (map span_of found) 1) ≡ second_head found
second_before [] = refl
second_before (one ∷ []) = refl
second_before (one ∷ two ∷ more) = ap Some (back_to_head two.head)

second_of : (bytes name : List ℕ) (spans : List Stored) (are : AreChunks bytes spans) (second : Option Span) → second ≡ slice_get (spans_named name spans) 1
    → head_of second ≡ second_head (named name are.chunks)
second_of bytes name spans are second is =
    ap head_of (is ∙ ap (λ (xs : List Span). slice_get xs 1) (contents_of bytes name spans are)) ∙ second_before (named name are.chunks)

-- the earliest of the second chunks is the first repeat
pub repeat_of : (bytes : List ℕ) (spans : List Stored) (are : AreChunks bytes spans) (format samples bext : Option Span)
    → format ≡ slice_get (spans_named (codes "fmt ") spans) 1 → samples ≡ slice_get (spans_named (codes "data") spans) 1
    → bext ≡ slice_get (spans_named (codes "bext") spans) 1
    → earlier (head_of format) (earlier (head_of samples) (head_of bext)) ≡ first_repeat are.chunks
repeat_of bytes spans are format samples bext is_format is_samples is_bext =
    let last = second_head (named (codes "bext") are.chunks) in
    ap (λ (place : Option ℕ). earlier place (earlier (head_of samples) (head_of bext))) (second_of bytes (codes "fmt ") spans are format is_format)
    ∙ ap (λ (place : Option ℕ). earlier (second_head (named (codes "fmt ") are.chunks)) (earlier place (head_of bext)))
    (second_of bytes (codes "data") spans are samples is_samples)
    ∙ ap (λ (place : Option ℕ). earlier (second_head (named (codes "fmt ") are.chunks)) (earlier (second_head (named (codes "data") are.chunks)) place))
    (second_of bytes (codes "bext") spans are bext is_bext)

both_none : (one other : Option ℕ) → earlier one other ≡ None → (one ≡ None) × (other ≡ None)
both_none None other h = (refl, h)
both_none (Some one) None h = cc
both_none (Some one) (Some other) h = cc

one_at_most : (bytes name : List ℕ) (chunks : List Chunk) (found : List Placed) → Begins (drop CHUNKS_AT bytes) chunks [] → named name chunks ≡ found
    → second_head found ≡ None → AtMostOne bytes name (slice_get (map span_of found) 0)
one_at_most bytes name chunks [] whole is once = record { chunks = chunks; whole = whole; none = is }
one_at_most bytes name chunks (one ∷ []) whole is once = record { chunks = chunks; whole = whole; placed = one; one = is; span_is = refl }
one_at_most bytes name chunks (one ∷ two ∷ more) whole is once = cc

part_of : (bytes name : List ℕ) (spans : List Stored) (are : AreChunks bytes spans) (first : Option Span) → first ≡ slice_get (spans_named name spans) 0
    → second_head (named name are.chunks) ≡ None → AtMostOne bytes name first
part_of bytes name spans are first is once =
    subst (AtMostOne bytes name) (sym (is ∙ ap (λ (xs : List Span). slice_get xs 0) (contents_of bytes name spans are)))
    (one_at_most bytes name are.chunks (named name are.chunks) are.whole refl once)

-- no chunk stands twice
pub record NoneTwice (chunks : List Chunk) : Type 0 where
  pub format : second_head (named (codes "fmt ") chunks) ≡ None
  pub samples : second_head (named (codes "data") chunks) ≡ None
  pub bext : second_head (named (codes "bext") chunks) ≡ None

none_twice : (chunks : List Chunk) → first_repeat chunks ≡ None → NoneTwice chunks
none_twice chunks none =
    let one = both_none _ _ none in
    let others = both_none _ _ one.1 in
    record { format = one.0; samples = others.0; bext = others.1 }

pub format_part : (bytes : List ℕ) (spans : List Stored) (are : AreChunks bytes spans) (first : Option Span)
    → first ≡ slice_get (spans_named (codes "fmt ") spans) 0 → first_repeat are.chunks ≡ None → AtMostOne bytes (codes "fmt ") first
format_part bytes spans are first is none = part_of bytes (codes "fmt ") spans are first is (none_twice are.chunks none).format

pub samples_part : (bytes : List ℕ) (spans : List Stored) (are : AreChunks bytes spans) (first : Option Span)
    → first ≡ slice_get (spans_named (codes "data") spans) 0 → first_repeat are.chunks ≡ None → AtMostOne bytes (codes "data") first
samples_part bytes spans are first is none = part_of bytes (codes "data") spans are first is (none_twice are.chunks none).samples

pub bext_part : (bytes : List ℕ) (spans : List Stored) (are : AreChunks bytes spans) (first : Option Span)
    → first ≡ slice_get (spans_named (codes "bext") spans) 0 → first_repeat are.chunks ≡ None → AtMostOne bytes (codes "bext") first
bext_part bytes spans are first is none = part_of bytes (codes "bext") spans are first is (none_twice are.chunks none).bext

some_and_none : (place : ℕ) (found : Option ℕ) → found ≡ None → found ≡ Some place → ⊥
some_and_none place found h k = cc

pub none_below_no_format : (bytes : List ℕ) (spans : List Stored) (are : AreChunks bytes spans) → first_repeat are.chunks ≡ None → BreaksNoneBelow bytes RepeatedChunk
    → BreaksNoneBelow bytes NoFormat
none_below_no_format bytes spans are none lower =
    none_below_next bytes RepeatedChunk NoFormat refl lower (λ (place : ℕ) (broken : OfChunks bytes (λ chunks. first_repeat chunks ≡ Some place)).
    some_and_none place (first_repeat are.chunks) none (ap first_repeat (chunks_unique are.chunks broken.0 (drop CHUNKS_AT bytes) are.whole broken.1) ∙ broken.2))

-- the earliest of three places, one after another
pub joined : (result others one two three : Option ℕ) (format samples bext : Option Span) → result ≡ earlier one others → others ≡ earlier two three
    → one ≡ head_of format → two ≡ head_of samples → three ≡ head_of bext
    → result ≡ earlier (head_of format) (earlier (head_of samples) (head_of bext))
joined result others one two three format samples bext is is_others is_one is_two is_three =
    is ∙ ap (λ (place : Option ℕ). earlier place others) is_one ∙ ap (earlier (head_of format)) is_others
    ∙ ap (λ (place : Option ℕ). earlier (head_of format) (earlier place three)) is_two
    ∙ ap (λ (place : Option ℕ). earlier (head_of format) (earlier (head_of samples) place)) is_three
