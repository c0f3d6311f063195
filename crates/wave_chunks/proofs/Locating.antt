-- Where the contents lie.
use Rattle.std.proofs.Common.{◌≡◌, ◌≢◌, ◌≤◌, ◌<◌, ◌+◌, ◌-◌, ◌*◌, ◌/◌, ◌%◌, inl, inr, ℕ, zero, suc, Bool, true, false, cond, nat_eq, List, [], ◌∷◌, length, take, drop, slice_get, length-drop, refl, subst, ap, ◌∙◌, sym, arith}
use Rattle.std.specs.Prelude.{codes, Some, None, Result, Ok, Err, IfOk, OnOk}
use Rattle.lib_base.specs.declared.outcomes.Refused.{Refused}
use Rattle.std.specs.Option.{option_map}
use Rattle.std.specs.Cmp.Lexicographic.{pointwise}
use Rattle.std.proofs.lemmas.List.{drop-drop}
use Rattle.lib_base.specs.Sounds.{part}
use Rattle.lib_base.specs.declared.files.Span.{Span}
use Rattle.lib_base.specs.declared.limits.TheConstants.{MOST_CHANNELS}
use Rattle.file_model.specs.declared.wave_fields.TheConstants.{CHUNKS_AT, BEXT_BYTES}
use Rattle.file_model.specs.declared.wave_rules.WaveRule.TheVariants.{NoFormat, ShortFormat, NoData, PartFrame, ShortBext}
use Rattle.file_model.specs.Chunks.{Chunk, Placed, Begins, named, named_from, next_head}
use Rattle.file_model.specs.Rules.{OfChunks, Lacks, HasPartFrame, HasShortBext, BreaksNoneBelow}
use Rattle.file_model.specs.Format.{IsFormat, channels_of, depth_of, align_of}
use Rattle.file_model.proofs.Readings.{none_below_next}
use Rattle.file_model.proofs.Spellings.{chunks_unique, reads_back}
use Rattle.file_model.proofs.Waves.{one_placed, align_is, size_positive}
use Rattle.wave_chunks.specs.Answers.{IsFormatContent}
use Rattle.wave_chunks.specs.declared.format.Format.{Format}
use Rattle.wave_chunks.specs.Formats.{SaysFormat}
use Rattle.wave_chunks.specs.Spans.{span_of, HasOne, HasNone, HasRightBext}

-- ---- the content of a chunk lies behind its head

record Located (bytes : List ℕ) (placed : Placed) : Type 0 where
  inside : placed.head + 8 + length placed.content ≤ length bytes
  content_is : part bytes (placed.head + 8) (length placed.content) ≡ placed.content

abbrev EachLocated : List ℕ → List Placed → Type 0
EachLocated bytes [] = Unit {0}
EachLocated bytes (placed ∷ more) = Located bytes placed × EachLocated bytes more

kept : (bytes : List ℕ) (test : Bool) (placed : Placed) (more : List Placed) → Located bytes placed → EachLocated bytes more
    → EachLocated bytes (cond test (placed ∷ more) more)
kept bytes true placed more first rest = (first, rest)
kept bytes false placed more first rest = rest

inside_of : (whole head count rest : ℕ) → rest ≡ whole - head → 8 + count ≤ rest → head + 8 + count ≤ whole
inside_of whole head count rest is inside = omega (arith, is, inside)

each_located : (bytes name : List ℕ) (head : ℕ) (chunks : List Chunk) (rest : List ℕ) → Begins (drop head bytes) chunks rest
    → EachLocated bytes (named_from head name chunks)
each_located bytes name head [] rest begins = tt
each_located bytes name head (chunk ∷ chunks) rest begins =
    let back = reads_back (drop head bytes) chunk begins.0 begins.1 begins.2 begins.3 begins.4 in
    let count : ℕ = length chunk.content in
    let next : drop (next_head head chunk) bytes ≡ begins.1 =
    ap (λ (n : ℕ). drop n bytes) (let steps : head + 8 + count + count % 2 ≡ head + (8 + count + count % 2) = omega arith in steps)
    ∙ sym (drop-drop (8 + count + count % 2) head bytes)
    ∙ ap (λ (n : ℕ). drop (8 + n + n % 2) (drop head bytes)) (sym back.number) ∙ back.next in
    let content : part bytes (head + 8) count ≡ chunk.content =
    ap (take count) (sym (drop-drop 8 head bytes)) ∙ ap (λ (n : ℕ). take n (drop 8 (drop head bytes))) (sym back.number)
    ∙ ap (λ (c : Chunk). c.content) back.first in
    kept bytes (pointwise nat_eq chunk.name name) (record { head = head; content = chunk.content }) _
    (record { inside = inside_of (length bytes) head count (length (drop head bytes)) (length-drop head bytes) back.inside; content_is = content })
    (each_located bytes name (next_head head chunk) chunks rest (subst (λ (xs : List ℕ). Begins xs chunks rest) (sym next) begins.5))

-- a span and the content that lies there
pub record Lies (bytes : List ℕ) (span : Span) (placed : Placed) : Type 0 where
  pub start : span.start ≡ placed.head + 8
  pub size : span.end - span.start ≡ length placed.content
  pub ordered : span.start ≤ span.end
  pub inside : span.end ≤ length bytes
  pub content_is : part bytes span.start (span.end - span.start) ≡ placed.content

taken_back : (start count : ℕ) → start + count - start ≡ count
taken_back start count = omega arith

pub lies : (bytes name : List ℕ) (span : Span) (has : HasOne bytes name span) → Lies bytes span has.placed
lies bytes name span has =
    let located = (subst (EachLocated bytes) has.one (each_located bytes name CHUNKS_AT has.chunks [] has.whole)).0 in
    let placed = has.placed in
    subst (λ (s : Span). Lies bytes s placed) (sym has.span_is) (record {
      start = refl;
      size = taken_back (placed.head + 8) (length placed.content);
      ordered = omega arith;
      inside = located.inside;
      content_is = ap (part bytes (placed.head + 8)) (taken_back (placed.head + 8) (length placed.content)) ∙ located.content_is;
    })

-- ---- the format

pub format_content : (bytes : List ℕ) (span : Span) (content : List ℕ) → HasOne bytes (codes "fmt ") span
    → content ≡ part bytes span.start (span.end - span.start) → IsFormatContent bytes content span.start
format_content bytes span content has is =
    let at = lies bytes (codes "fmt ") span has in
    let content_is : content ≡ has.placed.content = is ∙ at.content_is in
    record {
      chunks = has.chunks;
      whole = has.whole;
      format = has.placed;
      one = has.one;
      content_is = content_is;
      at_is = at.start;
      inside = let size = ap length content_is in let counted = at.size in let ordered = at.ordered in let inside = at.inside in omega (arith, size, counted, ordered, inside);
    }

lacks_and_has : (name : List ℕ) (bytes : List ℕ) (span : Span) (place : ℕ) → HasOne bytes name span
    → OfChunks bytes (λ chunks. Lacks name chunks (length bytes) place) → ⊥
lacks_and_has name bytes span place has lacks =
    empty_and_one (named name has.chunks) has.placed
    (ap (named name) (chunks_unique has.chunks lacks.0 (drop CHUNKS_AT bytes) has.whole lacks.1) ∙ lacks.2.0) has.one
  where
    empty_and_one : (found : List Placed) (placed : Placed) → found ≡ [] → found ≡ placed ∷ [] → ⊥
    empty_and_one found placed h k = cc

pub none_below_short_format : (bytes : List ℕ) (span : Span) → HasOne bytes (codes "fmt ") span → BreaksNoneBelow bytes NoFormat → BreaksNoneBelow bytes ShortFormat
none_below_short_format bytes span has lower = none_below_next bytes NoFormat ShortFormat refl lower (λ place. lacks_and_has (codes "fmt ") bytes span place has)

pub none_below_part_frame : (bytes : List ℕ) (span : Span) → HasOne bytes (codes "data") span → BreaksNoneBelow bytes NoData → BreaksNoneBelow bytes PartFrame
none_below_part_frame bytes span has lower = none_below_next bytes NoData PartFrame refl lower (λ place. lacks_and_has (codes "data") bytes span place has)

pub says_format : (bytes content : List ℕ) (at : ℕ) (format : Format) → IsFormatContent bytes content at
    → IsFormat content (channels_of content) (depth_of content) → 1 ≤ channels_of content → channels_of content ≤ MOST_CHANNELS
    → format.channels ≡ channels_of content → format.depth ≡ depth_of content → format.align ≡ align_of content → SaysFormat bytes format
says_format bytes content at format is is_format some few channels depth align =
    let Says : List ℕ → Type 0 =
    λ said. IsFormat said (channels_of said) (depth_of said) × (1 ≤ channels_of said) × (channels_of said ≤ MOST_CHANNELS) × (format.channels ≡ channels_of said)
    × (format.depth ≡ depth_of said) × (format.align ≡ align_of said) in
    let of_placed : Says is.format.content = subst Says is.content_is (is_format, some, few, channels, depth, align) in
    record {
      chunks = is.chunks;
      whole = is.whole;
      placed = is.format;
      one = is.one;
      is_format = of_placed.0;
      some = of_placed.1;
      few = of_placed.2;
      channels = of_placed.3;
      depth = of_placed.4;
      align = of_placed.5;
    }

pub align_positive : (bytes : List ℕ) (format : Format) → SaysFormat bytes format → 0 < format.align
align_positive bytes format says =
    let content = says.placed.content in
    let size = size_positive (depth_of content) says.is_format.depth_known in
    let is = says.align ∙ says.is_format.align_field ∙ align_is (channels_of content) (depth_of content) says.is_format.depth_known in
    positive (depth_of content / 8) (channels_of content) format.align size says.some is
  where
    positive : (size channels align : ℕ) → 0 < size → 1 ≤ channels → align ≡ size * channels → 0 < align
    positive (suc size) (suc channels) align some any is = omega (arith, is)
    positive zero channels align some any is = absurd (omega (arith, some))
    positive (suc size) zero align some any is = absurd (omega (arith, any))

-- ---- the samples

pub part_frame_is : (bytes : List ℕ) (span : Span) (format : Format) (says : SaysFormat bytes format) (has : HasOne bytes (codes "data") span)
    → (span.end - span.start) % format.align ≡ length has.placed.content % align_of says.placed.content
part_frame_is bytes span format says has =
    ap (λ (n : ℕ). n % format.align) (lies bytes (codes "data") span has).size ∙ ap (λ (n : ℕ). length has.placed.content % n) says.align

pub part_frame : (bytes : List ℕ) (span : Span) (format : Format) (place : ℕ) → SaysFormat bytes format → HasOne bytes (codes "data") span
    → (span.end - span.start) % format.align ≢ 0 → place ≡ span.start - 8
    → OfChunks bytes (λ chunks. HasPartFrame chunks place)
part_frame bytes span format place says has part is =
    let start = (lies bytes (codes "data") span has).start in (
      has.chunks,
      has.whole,
      (
        says.placed,
        has.placed,
        ap (named (codes "fmt ")) (chunks_unique has.chunks says.chunks (drop CHUNKS_AT bytes) has.whole says.whole) ∙ says.one,
        has.one,
        (λ none. part (part_frame_is bytes span format says has ∙ none)),
        is ∙ omega (arith, start),
      ),
    )

pub none_below_short_bext : (bytes : List ℕ) (span : Span) (format : Format) → SaysFormat bytes format → HasOne bytes (codes "data") span
    → (span.end - span.start) % format.align ≡ 0 → BreaksNoneBelow bytes NoData → BreaksNoneBelow bytes ShortBext
none_below_short_bext bytes span format says has whole lower =
    none_below_next bytes PartFrame ShortBext refl (none_below_part_frame bytes span has lower)
    (λ (place : ℕ) (broken : OfChunks bytes (λ chunks. HasPartFrame chunks place)).
    let found = broken.2 in
    let format_is : found.0 ≡ says.placed =
    one_placed _ _ _ (ap (named (codes "fmt ")) (chunks_unique says.chunks broken.0 (drop CHUNKS_AT bytes) says.whole broken.1) ∙ found.2) says.one in
    let samples_is : found.1 ≡ has.placed =
    one_placed _ _ _ (ap (named (codes "data")) (chunks_unique has.chunks broken.0 (drop CHUNKS_AT bytes) has.whole broken.1) ∙ found.3) has.one in
    found.4
    (ap (λ (p : Placed). length p.content % align_of found.0.content) samples_is
    ∙ ap (λ (p : Placed). length has.placed.content % align_of p.content) format_is
    ∙ sym (part_frame_is bytes span format says has) ∙ whole))

-- ---- the `bext` chunk

pub short_bext : (bytes : List ℕ) (span : Span) (place : ℕ) → HasOne bytes (codes "bext") span → span.end - span.start < BEXT_BYTES → place ≡ span.start - 8
    → OfChunks bytes (λ chunks. HasShortBext chunks place)
short_bext bytes span place has short is =
    let at = lies bytes (codes "bext") span has in
    let start = at.start in
    let size = at.size in
    (has.chunks, has.whole, (has.placed, has.one, omega (arith, size, short), is ∙ omega (arith, start)))

pub no_bext : (bytes : List ℕ) → HasNone bytes (codes "bext") → HasRightBext bytes None
no_bext bytes has = record {
  chunks = has.chunks;
  whole = has.whole;
  right = inl has.none;
  found_is = ap (λ (found : List Placed). option_map span_of (slice_get found 0)) (sym has.none);
}

pub long_bext : (bytes : List ℕ) (span : Span) → HasOne bytes (codes "bext") span → BEXT_BYTES ≤ span.end - span.start → HasRightBext bytes (Some span)
long_bext bytes span has long =
    let size = (lies bytes (codes "bext") span has).size in
    record {
      chunks = has.chunks;
      whole = has.whole;
      right = inr (has.placed, has.one, omega (arith, size, long));
      found_is = ap Some has.span_is ∙ ap (λ (found : List Placed). option_map span_of (slice_get found 0)) (sym has.one);
    }

-- what reading the format answered
pub says_result : (bytes content : List ℕ) (at : ℕ) (result : Result Format Refused) → IsFormatContent bytes content at
    → OnOk result (IsFormat content (channels_of content) (depth_of content)) → OnOk result (1 ≤ channels_of content) → OnOk result (channels_of content ≤ MOST_CHANNELS)
    → IfOk result (λ format. format.channels ≡ channels_of content) → IfOk result (λ format. format.depth ≡ depth_of content)
    → IfOk result (λ format. format.align ≡ align_of content) → IfOk result (λ format. SaysFormat bytes format)
says_result bytes content at (Ok format) is is_format some few channels depth align = says_format bytes content at format is is_format some few channels depth align
says_result bytes content at (Err refused) is is_format some few channels depth align = tt
