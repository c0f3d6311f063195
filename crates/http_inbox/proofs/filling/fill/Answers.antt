use Rattle.std.proofs.Common.{◌≡◌, ◌≤◌, length, drop, ◌∙◌, arith, length-drop}
use Rattle.http_inbox.proofs.FillLemmas.{Consumes-further}
use Rattle.http_inbox.proofs.filling.fill.Goals as goal

pub pieces-preserved : goal.pieces-preserved
pieces-preserved g c =
    let into = c.read_behind.new.into in
    let reads = c.in-Ok.ensures.reads in
    let same : length c.read_behind.new.into ≡ length c.pieces.into = c.in-Ok.ensures.length in
    let fits : c.pieces.done ≤ length c.pieces.into = c.pieces.invariant.within in
    let most : c.in-Ok.count ≤ length (drop c.pieces.done c.read_behind.new.into) = c.in-Ok.ensures.reads.within.0 in
    record {
      within = omega (arith, same, fits, most, length-drop c.pieces.done c.read_behind.new.into);
      size = same ∙ c.pieces.invariant.size;
      content = Consumes-further _ _ _ c.pieces.into into c.pieces.done c.in-Ok.count c.in-Ok.ensures.front c.pieces.invariant.content
          reads.content.0;
      later = omega (arith, c.pieces.invariant.later, reads.faults.later);
    }
