-- A file's chunks, one after another.
use Rattle.std.proofs.Common.{◌≡◌, ◌≤◌, ◌<◌, ◌+◌, ◌-◌, ◌%◌, inl, inr, ℕ, Bool, cond, ltb, List, [], ◌∷◌, ◌++◌, length, drop, length-take, length-drop, refl, subst, ap, ◌∙◌, sym, arith}
use Rattle.std.proofs.lemmas.Bool.{cases_lt, lt-ltb, le-ltb}
use Rattle.std.proofs.lemmas.List.{drop_all}
use Rattle.lib_base.specs.Sounds.{part}
use Rattle.lib_base.specs.declared.files.Span.{Span}
use Rattle.file_model.specs.declared.wave_fields.TheConstants.{CHUNKS_AT}
use Rattle.file_model.specs.declared.wave_rules.WaveRule.TheVariants.{CutChunk, RepeatedChunk}
use Rattle.file_model.specs.Chunks.{Chunk, Begins, IsPad, IsCut, spelling, next_head, number_at, four_bytes}
use Rattle.file_model.specs.Rules.{IsCutAt, BreaksNoneBelow}
use Rattle.file_model.proofs.Makes.{part_and_rest, number_fits, four_bytes-number_at}
use Rattle.file_model.proofs.Readings.{none_below_next}
use Rattle.file_model.proofs.Samples.{AreBytes}
use Rattle.file_model.proofs.Spellings.{spelling_apart, Begins-push, not_whole_and_cut}
use Rattle.wave_chunks.specs.declared.chunks.Chunk.{Chunk as Stored}
use Rattle.wave_chunks.specs.Spans.{span_from, spans_from, head_after, Walked, AreChunks, IsStored}

-- the chunk whose head is at a place
abbrev chunk_at : List ℕ → ℕ → Chunk
chunk_at bytes at = record { name = part bytes at 4; content = part bytes (at + 8) (number_at bytes (at + 4)) }

length-part : (bytes : List ℕ) (at count : ℕ) → at + count ≤ length bytes → length (part bytes at count) ≡ count
length-part bytes at count inside = let left = length-drop at bytes in length-take count (drop at bytes) ∙ omega (arith, left, inside)

stored : ℕ → Chunk → Stored
stored head chunk = record { name = chunk.name; content = span_from head (length chunk.content) }

head_after-push : (head : ℕ) (chunks : List Chunk) (chunk : Chunk) → head_after head (chunks ++ chunk ∷ []) ≡ next_head (head_after head chunks) chunk
head_after-push head [] chunk = refl
head_after-push head (c ∷ cs) chunk = head_after-push (next_head head c) cs chunk

spans_from-push : (head : ℕ) (chunks : List Chunk) (chunk : Chunk)
    → spans_from head (chunks ++ chunk ∷ []) ≡ spans_from head chunks ++ stored (head_after head chunks) chunk ∷ []
unfolding stored
spans_from-push head [] chunk = refl
spans_from-push head (c ∷ cs) chunk = ap (λ (rest : List Stored). stored head c ∷ rest) (spans_from-push (next_head head c) cs chunk)

-- what a chunk's spelling is followed by
spelled_at : (bytes : List ℕ) (at : ℕ) → AreBytes bytes → at + 8 + number_at bytes (at + 4) ≤ length bytes
    → drop at bytes ≡ spelling (chunk_at bytes at) ++ drop (at + 8 + number_at bytes (at + 4)) bytes
spelled_at bytes at are inside =
    let count : ℕ = number_at bytes (at + 4) in
    let content : List ℕ = part bytes (at + 8) count in
    let end : List ℕ = drop (at + 8 + count) bytes in
    let size : length content ≡ count = length-part bytes (at + 8) count inside in
    let last : drop (at + 8) bytes ≡ content ++ end = part_and_rest bytes (at + 8) count content end refl refl in
    let number : part bytes (at + 4) 4 ≡ four_bytes (length content) =
    sym (four_bytes-number_at bytes (at + 4) are (omega (arith, inside))) ∙ ap four_bytes (sym size) in
    let middle : drop (at + 4) bytes ≡ four_bytes (length content) ++ (content ++ end) =
    part_and_rest bytes (at + 4) 4 _ _ number (ap (λ (n : ℕ). drop n bytes) (let eight : at + 4 + 4 ≡ at + 8 = omega arith in eight) ∙ last) in
    part_and_rest bytes at 4 _ _ refl middle ∙ sym (spelling_apart (chunk_at bytes at) end)

-- the next head, behind a pad byte or at the end
record Padded (bytes : List ℕ) (end count next : ℕ) : Type 0 where
  pad : List ℕ
  follows : drop end bytes ≡ pad ++ drop next bytes
  is_pad : IsPad count pad (drop next bytes)
  inside : next ≤ length bytes
  not_last : next < length bytes → next ≡ end + count % 2

padded : (bytes : List ℕ) (end count next : ℕ) → end ≤ length bytes → next ≡ cond (ltb end (length bytes)) (end + count % 2) (length bytes)
    → Padded bytes end count next
padded bytes end count next inside is =
    elim (cases_lt end (length bytes)) [
      | inl before ↦
          let at_pad : next ≡ end + count % 2 = is ∙ ap (λ (b : Bool). cond b (end + count % 2) (length bytes)) (lt-ltb end (length bytes) before) in
          record {
            pad = part bytes end (count % 2);
            follows = part_and_rest bytes end (count % 2) _ _ refl (ap (λ (n : ℕ). drop n bytes) (sym at_pad));
            is_pad = inl (length-part bytes end (count % 2) (omega (arith, before)));
            inside = omega (arith, at_pad, before);
            not_last = λ _. at_pad;
          }
      | inr from ↦
          let at_end : next ≡ length bytes = is ∙ ap (λ (b : Bool). cond b (end + count % 2) (length bytes)) (le-ltb end (length bytes) from) in
          record {
            pad = [];
            follows = ap (λ (n : ℕ). drop n bytes) (let same : end ≡ next = omega (arith, at_end, from, inside) in same);
            is_pad = inr (refl, drop_all next bytes (omega (arith, at_end)));
            inside = omega (arith, at_end);
            not_last = λ before. absurd (omega (arith, at_end, before));
          }
    ]

pub walk_begins : (bytes : List ℕ) → CHUNKS_AT ≤ length bytes → Walked bytes CHUNKS_AT []
walk_begins bytes long = record { chunks = []; begins = refl; spans_are = refl; inside = long; head = λ _. refl }

same_stored : (chunk : Stored) (name : List ℕ) (content : Span) → chunk.name ≡ name → chunk.content ≡ content → chunk ≡ record { name = name; content = content }
same_stored chunk name content h k =
    let with_name : List ℕ → Stored = λ n. record { name = n; content = chunk.content } in
    let with_content : Span → Stored = λ s. record { name = name; content = s } in
    ap with_name h ∙ ap with_content k

-- one chunk more
pub walk_more : (bytes : List ℕ) (at next : ℕ) (spans : List Stored) (chunk : Stored) → AreBytes bytes → Walked bytes at spans → at < length bytes
    → IsStored bytes at chunk
    → next ≡ cond (ltb chunk.content.end (length bytes)) (chunk.content.end + (chunk.content.end - chunk.content.start) % 2) (length bytes)
    → Walked bytes next (spans ++ chunk ∷ [])
unfolding stored
walk_more bytes at next spans chunk are walked before is next_is =
    let count : ℕ = number_at bytes (at + 4) in
    let found = chunk_at bytes at in
    let size : length found.content ≡ count = length-part bytes (at + 8) count is.inside in
    let end : ℕ = at + 8 + count in
    let next_from : next ≡ cond (ltb end (length bytes)) (end + (end - (at + 8)) % 2) (length bytes) =
    next_is ∙ ap (λ (s : Span). cond (ltb s.end (length bytes)) (s.end + (s.end - s.start) % 2) (length bytes)) is.content in
    let pad_next : next ≡ cond (ltb end (length bytes)) (end + count % 2) (length bytes) =
    next_from ∙ ap (λ (n : ℕ). cond (ltb end (length bytes)) (end + n % 2) (length bytes)) (let taken : end - (at + 8) ≡ count = omega arith in taken) in
    let with_count : ℕ → Stored = λ n. record { name = part bytes at 4; content = span_from at n } in
    let behind = padded bytes end count next is.inside pad_next in
    let head = walked.head before in
    record {
      chunks = walked.chunks ++ found ∷ [];
      begins =
          Begins-push walked.chunks found (drop CHUNKS_AT bytes) (drop at bytes) behind.pad (drop next bytes) walked.begins
          (record { name_length = length-part bytes at 4 (let inside = is.inside in omega (arith, inside)); content_fits = let fits = number_fits bytes (at + 4) are in omega (arith, size, fits) })
          (spelled_at bytes at are is.inside ∙ ap (λ (rest : List ℕ). spelling found ++ rest) behind.follows)
          (subst (λ (n : ℕ). IsPad n behind.pad (drop next bytes)) (sym size) behind.is_pad);
      spans_are =
          ap (λ (front : List Stored). front ++ chunk ∷ []) walked.spans_are
          ∙ ap (λ (c : Stored). spans_from CHUNKS_AT walked.chunks ++ c ∷ [])
          (same_stored chunk (part bytes at 4) (span_from at count) is.name is.content
          ∙ ap with_count (sym size) ∙ ap (λ (h : ℕ). stored h found) (sym head))
          ∙ sym (spans_from-push CHUNKS_AT walked.chunks found);
      inside = behind.inside;
      head = λ more. head_after-push CHUNKS_AT walked.chunks found ∙ ap (λ (h : ℕ). next_head h found) head ∙ ap (λ (n : ℕ). at + 8 + n + n % 2) size ∙ sym (behind.not_last more);
    }

-- the end of the walk
pub walk_ends : (bytes : List ℕ) (at : ℕ) (spans : List Stored) → Walked bytes at spans → length bytes ≤ at → AreChunks bytes spans
walk_ends bytes at spans walked end = record {
  chunks = walked.chunks;
  whole = subst (λ (rest : List ℕ). Begins (drop CHUNKS_AT bytes) walked.chunks rest) (drop_all at bytes end) walked.begins;
  spans_are = walked.spans_are;
}

-- a chunk that passes the end
pub walk_cut : (bytes : List ℕ) (at : ℕ) (spans : List Stored) → Walked bytes at spans → at < length bytes → IsCut (drop at bytes) → IsCutAt bytes at
walk_cut bytes at spans walked before cut =
    let left = length-drop at bytes in
    (walked.chunks, drop at bytes, walked.begins, omega (arith, left, before), cut, omega (arith, left, before))

-- where the chunks are whole, none passes the end
pub none_below_repeated_chunk : (bytes : List ℕ) (spans : List Stored) → AreChunks bytes spans → BreaksNoneBelow bytes CutChunk → BreaksNoneBelow bytes RepeatedChunk
none_below_repeated_chunk bytes spans are lower =
    none_below_next bytes CutChunk RepeatedChunk refl lower (λ (place : ℕ) (cut : IsCutAt bytes place).
    not_whole_and_cut cut.0 are.chunks (drop CHUNKS_AT bytes) cut.1 cut.4 cut.3 cut.2 are.whole)
