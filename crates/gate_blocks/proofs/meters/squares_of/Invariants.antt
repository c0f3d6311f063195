use Rattle.std.proofs.Common.{◌≡◌, ◌≤◌, ◌*◌, ◌^◌, take}
use Rattle.std.specs.Prelude.{sum_by}
use Rattle.sound_model.specs.Segments.{square}
use Rattle.gate_blocks.proofs.meters.squares_of.Given as goal

abbrev pub invariant-loop-value : goal.invariant-loop-value
invariant-loop-value l = (l.sum ≡ sum_by square (take l.value-index l.piece)) × (l.sum ≤ l.value-index * 2 ^ 60)
