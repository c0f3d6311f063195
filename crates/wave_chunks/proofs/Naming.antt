-- The chunks of a name.
use Rattle.std.proofs.Common.{◌≡◌, ◌<◌, ◌+◌, ℕ, Bool, true, false, cond, nat_eq, List, [], ◌∷◌, length, get_or, map, drop, refl, ap, ◌∙◌}
use Rattle.std.specs.Cmp.Lexicographic.{pointwise}
use Rattle.std.proofs.lemmas.List.{drop_more, get_or_default}
use Rattle.lib_base.specs.declared.files.Span.{Span}
use Rattle.file_model.specs.Chunks.{Chunk, Placed, named_from, next_head}
use Rattle.wave_chunks.specs.declared.chunks.Chunk.{Chunk as Stored}
use Rattle.wave_chunks.specs.Spans.{span_of, spans_from, spans_named}

choose : (test : Bool) (answer : Bool) (one other : List Span) → test ≡ answer → cond test one other ≡ cond answer one other
choose test answer one other is = ap (λ (b : Bool). cond b one other) is

-- a chunk of the name
pub named_here : (name : List ℕ) (chunks : List Stored) (place : ℕ) (default : Stored) → place < length chunks
    → pointwise nat_eq (get_or chunks place default).name name ≡ true → (other : Stored)
    → spans_named name (drop place chunks) ≡ (get_or chunks place other).content ∷ spans_named name (drop (place + 1) chunks)
named_here name chunks place default inside same other =
    ap (spans_named name) (drop_more chunks place other inside)
    ∙ choose _ true _ _ (ap (λ (c : Stored). pointwise nat_eq c.name name) (get_or_default chunks place other default inside) ∙ same)

-- a chunk of another name
pub named_elsewhere : (name : List ℕ) (chunks : List Stored) (place : ℕ) (default : Stored) → place < length chunks
    → pointwise nat_eq (get_or chunks place default).name name ≡ false → spans_named name (drop place chunks) ≡ spans_named name (drop (place + 1) chunks)
named_elsewhere name chunks place default inside other =
    ap (spans_named name) (drop_more chunks place default inside) ∙ choose _ false _ _ other

mapped : (test : Bool) (placed : Placed) (more : List Placed) → cond test (span_of placed ∷ map span_of more) (map span_of more) ≡ map span_of (cond test (placed ∷ more) more)
mapped true placed more = refl
mapped false placed more = refl

-- the spans of a name are those of the chunks of that name
pub spans_named-from : (name : List ℕ) (head : ℕ) (chunks : List Chunk) → spans_named name (spans_from head chunks) ≡ map span_of (named_from head name chunks)
spans_named-from name head [] = refl
spans_named-from name head (chunk ∷ chunks) =
    let rest = spans_named-from name (next_head head chunk) chunks in
    let placed : Placed = record { head = head; content = chunk.content } in
    ap (λ (spans : List Span). cond (pointwise nat_eq chunk.name name) (span_of placed ∷ spans) spans) rest
    ∙ mapped (pointwise nat_eq chunk.name name) placed (named_from (next_head head chunk) name chunks)
