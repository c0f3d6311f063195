use Rattle.std.proofs.Common.{◌∙◌, List, [], slice_get, ap, sym}
use Rattle.lib_base.specs.declared.files.Span.{Span}
use Rattle.wave_chunks.specs.declared.chunks.Chunk.{Chunk}
use Rattle.wave_chunks.proofs.chunks.named.Goals as goal

pub returns-clause-second : goal.returns-clause-second
returns-clause-second c =
    let other : Chunk = record { name = []; content = record { start = 0; end = 0 } } in
    c.content_from.ensures ∙ sym (ap (λ (spans : List Span). slice_get spans 1) (c.in-Some.ensures.found other))
