-- Chunks read back from their spellings.
use Rattle.std.proofs.Common.{◌≡◌, ◌≤◌, ◌<◌, ◌^◌, ◌+◌, ◌%◌, inl, inr, ℕ, List, [], ◌∷◌, ◌++◌, length, take, drop, length-append, refl, subst, ap, ◌∙◌, sym, arith}
use Rattle.std.proofs.lemmas.Nat.{from_le_bytes-to_le_bytes_4}
use Rattle.std.proofs.lemmas.List.{take_at, drop_at, drop-drop, drop_all, append_assoc}
use Rattle.file_model.specs.Chunks.{Chunk, IsChunk, spelling, IsPad, Begins, IsCut, number_at, four_bytes}

-- the chunk that bytes begin with
abbrev pub chunk_in : List ℕ → Chunk
chunk_in bytes = record { name = take 4 bytes; content = take (number_at bytes 4) (drop 8 bytes) }

-- what stands behind it and its pad byte
abbrev pub behind : List ℕ → List ℕ
behind bytes = drop (8 + number_at bytes 4 + number_at bytes 4 % 2) bytes

pub length-spelling : (chunk : Chunk) → IsChunk chunk → length (spelling chunk) ≡ 8 + length chunk.content
length-spelling chunk is = let four = is.name_length in simp length-append (omega (arith, four))

-- the number behind a chunk's name is the length of its content
number_of_spelling : (name rest : List ℕ) (count : ℕ) → length name ≡ 4 → count < 2 ^ 32 → number_at (name ++ (four_bytes count ++ rest)) 4 ≡ count
number_of_spelling (a ∷ b ∷ c ∷ d ∷ []) rest count four fits = from_le_bytes-to_le_bytes_4 count fits
number_of_spelling [] rest count four fits = absurd (omega (arith, four))
number_of_spelling (a ∷ []) rest count four fits = absurd (omega (arith, four))
number_of_spelling (a ∷ b ∷ []) rest count four fits = absurd (omega (arith, four))
number_of_spelling (a ∷ b ∷ c ∷ []) rest count four fits = absurd (omega (arith, four))
number_of_spelling (a ∷ b ∷ c ∷ d ∷ e ∷ more) rest count four fits = absurd (omega (arith, four))

-- the parts of a spelling with what follows it
pub spelling_apart : (chunk : Chunk) (tail : List ℕ) → spelling chunk ++ tail ≡ chunk.name ++ (four_bytes (length chunk.content) ++ (chunk.content ++ tail))
spelling_apart chunk tail = simp append_assoc

head_dropped : (name content : List ℕ) (count : ℕ) → length name ≡ 4 → drop 8 (name ++ (four_bytes count ++ content)) ≡ content
head_dropped name content count four =
    sym (drop-drop 4 4 (name ++ (four_bytes count ++ content)))
    ∙ ap (drop 4) (drop_at name (four_bytes count ++ content) 4 four)
    ∙ drop_at (four_bytes count) content 4 refl

pad_dropped : (count : ℕ) (pad more : List ℕ) → IsPad count pad more → drop (count % 2) (pad ++ more) ≡ more
pad_dropped count pad more (inl as_long) = drop_at pad more (count % 2) as_long
pad_dropped count pad more (inr missing) =
    ap (λ (p : List ℕ). drop (count % 2) (p ++ more)) missing.0 ∙ drop_all (count % 2) more (let none = ap length missing.1 in omega (arith, none)) ∙ sym missing.1

-- what a spelling, and what follows it, reads as
pub record ReadsBack (bytes : List ℕ) (chunk : Chunk) (more : List ℕ) : Type 0 where
  pub number : number_at bytes 4 ≡ length chunk.content
  pub first : chunk_in bytes ≡ chunk
  pub next : behind bytes ≡ more
  pub inside : 8 + length chunk.content ≤ length bytes

spelled_reads_back : (chunk : Chunk) (pad more : List ℕ) → IsChunk chunk → IsPad (length chunk.content) pad more
    → ReadsBack (chunk.name ++ (four_bytes (length chunk.content) ++ (chunk.content ++ (pad ++ more)))) chunk more
spelled_reads_back chunk pad more is padded =
    let count = length chunk.content in
    let tail = chunk.content ++ (pad ++ more) in
    let bytes = chunk.name ++ (four_bytes count ++ tail) in
    let number = number_of_spelling chunk.name tail count is.name_length is.content_fits in
    let dropped : drop 8 bytes ≡ tail = head_dropped chunk.name tail count is.name_length in
    let name : take 4 bytes ≡ chunk.name = take_at chunk.name (four_bytes count ++ tail) 4 is.name_length in
    let content : take (number_at bytes 4) (drop 8 bytes) ≡ chunk.content =
    ap (λ (n : ℕ). take n (drop 8 bytes)) number ∙ ap (take count) dropped ∙ take_at chunk.content (pad ++ more) count refl in
    let with_name : List ℕ → Chunk = λ xs. record { name = xs; content = take (number_at bytes 4) (drop 8 bytes) } in
    let with_content : List ℕ → Chunk = λ xs. record { name = chunk.name; content = xs } in
    record {
      number = number;
      first = ap with_name name ∙ ap with_content content;
      next =
          ap (λ (n : ℕ). drop (8 + n + n % 2) bytes) number
          ∙ sym (drop-drop (count % 2) (8 + count) bytes)
          ∙ ap (drop (count % 2)) (sym (drop-drop count 8 bytes) ∙ ap (drop count) dropped ∙ drop_at chunk.content (pad ++ more) count refl)
          ∙ pad_dropped count pad more padded;
      inside = let four = is.name_length in simp length-append (omega (arith, four));
    }

pub reads_back : (bytes : List ℕ) (chunk : Chunk) (pad more : List ℕ) → IsChunk chunk → bytes ≡ spelling chunk ++ (pad ++ more)
    → IsPad (length chunk.content) pad more → ReadsBack bytes chunk more
reads_back bytes chunk pad more is spelled padded =
    subst (λ (xs : List ℕ). ReadsBack xs chunk more) (sym (spelled ∙ spelling_apart chunk (pad ++ more))) (spelled_reads_back chunk pad more is padded)

-- where a whole chunk stands first, the bytes are not cut
not_cut : (bytes : List ℕ) (chunk : Chunk) (more : List ℕ) → ReadsBack bytes chunk more → IsCut bytes → ⊥
not_cut bytes chunk more back (inl head) = let inside = back.inside in omega (arith, inside, head)
not_cut bytes chunk more back (inr content) = let inside = back.inside in let number = back.number in omega (arith, inside, content, number)

-- bytes begin with the same chunks, as far as they can be read
pub Begins_unique : (some others : List Chunk) (bytes rest end : List ℕ) → IsCut rest → IsCut end → Begins bytes some rest → Begins bytes others end
    → (some ≡ others) × (rest ≡ end)
Begins_unique [] [] bytes rest end stops ends h k = (refl, sym h ∙ k)
Begins_unique [] (d ∷ ds) bytes rest end stops ends h k =
    absurd (not_cut bytes d k.1 (reads_back bytes d k.0 k.1 k.2 k.3 k.4) (subst IsCut (sym h) stops))
Begins_unique (c ∷ cs) [] bytes rest end stops ends h k =
    absurd (not_cut bytes c h.1 (reads_back bytes c h.0 h.1 h.2 h.3 h.4) (subst IsCut (sym k) ends))
Begins_unique (c ∷ cs) (d ∷ ds) bytes rest end stops ends h k =
    let one = reads_back bytes c h.0 h.1 h.2 h.3 h.4 in
    let other = reads_back bytes d k.0 k.1 k.2 k.3 k.4 in
    let same_more : h.1 ≡ k.1 = sym one.next ∙ other.next in
    let same : c ≡ d = sym one.first ∙ other.first in
    let rests = Begins_unique cs ds k.1 rest end stops ends (subst (λ (xs : List ℕ). Begins xs cs rest) same_more h.5) k.5 in
    (ap (λ (x : Chunk). x ∷ cs) same ∙ ap (λ (xs : List Chunk). d ∷ xs) rests.0, rests.1)

pub end_is_cut : IsCut []
end_is_cut = inl (omega arith)

-- the chunks of a file are one list
pub chunks_unique : (some others : List Chunk) (bytes : List ℕ) → Begins bytes some [] → Begins bytes others [] → some ≡ others
chunks_unique some others bytes h k = (Begins_unique some others bytes [] [] end_is_cut end_is_cut h k).0

-- whole chunks, and then none
pub not_whole_and_cut : (some others : List Chunk) (bytes rest : List ℕ) → IsCut rest → 0 < length rest → Begins bytes some rest → Begins bytes others [] → ⊥
not_whole_and_cut some others bytes rest cut not_empty h k =
    let ends = ap length (Begins_unique some others bytes rest [] cut end_is_cut h k).1 in omega (arith, ends, not_empty)

-- one chunk more
pub Begins-push : (chunks : List Chunk) (chunk : Chunk) (bytes rest pad more : List ℕ) → Begins bytes chunks rest → IsChunk chunk
    → rest ≡ spelling chunk ++ (pad ++ more) → IsPad (length chunk.content) pad more → Begins bytes (chunks ++ chunk ∷ []) more
Begins-push [] chunk bytes rest pad more begins is spelled padded = (pad, more, is, begins ∙ spelled, padded, refl)
Begins-push (c ∷ cs) chunk bytes rest pad more begins is spelled padded =
    (begins.0, begins.1, begins.2, begins.3, begins.4, Begins-push cs chunk begins.1 rest pad more begins.5 is spelled padded)
