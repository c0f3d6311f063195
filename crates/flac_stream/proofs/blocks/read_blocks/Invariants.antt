use Rattle.std.proofs.Common.{◌-◌, length}
use Rattle.flac_stream.specs.Blocks.{Walked}
use Rattle.flac_stream.proofs.blocks.read_blocks.Given as goal

abbrev pub invariant-heads : goal.invariant-heads
invariant-heads l = Walked l.bytes l.at l.items.items l.comments

abbrev pub decreases-heads : goal.decreases-heads
decreases-heads l = length l.bytes - l.at
