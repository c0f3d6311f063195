use Rattle.std.proofs.Common.{length, ◌-◌}
use Rattle.wave_chunks.specs.Spans.{Walked}
use Rattle.wave_chunks.proofs.chunks.read_chunks.Given as goal

abbrev pub invariant-chunks : goal.invariant-chunks
invariant-chunks l = Walked l.bytes l.at l.chunks.items

abbrev pub decreases-chunks : goal.decreases-chunks
decreases-chunks l = length l.bytes - l.at
