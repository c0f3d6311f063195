use Rattle.std.proofs.Common.{◌≡◌, drop}
use Rattle.wave_chunks.specs.Spans.{spans_named}
use Rattle.wave_chunks.proofs.chunks.place_of.Given as goal

abbrev pub invariant-loop-place : goal.invariant-loop-place
invariant-loop-place l = spans_named l.name (drop l.place l.chunks) ≡ spans_named l.name (drop l.from l.chunks)
