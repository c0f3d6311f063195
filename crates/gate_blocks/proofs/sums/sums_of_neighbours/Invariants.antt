use Rattle.std.proofs.Common.{◌≡◌, ◌++◌, drop}
use Rattle.sound_model.specs.Blocks.{neighbour_sums}
use Rattle.gate_blocks.proofs.sums.sums_of_neighbours.Given as goal

abbrev pub invariant-loop-place : goal.invariant-loop-place
invariant-loop-place l = neighbour_sums l.count l.segments ≡ l.sums.items ++ neighbour_sums l.count (drop l.place l.segments)
