use Rattle.std.proofs.Common.{◌≡◌, length}
use Rattle.bench_flac.proofs.files.channel_sum.Given as goal

-- the scratch stays as long
abbrev pub invariant-pieces : goal.invariant-pieces
invariant-pieces g l = length l.scratch.cells ≡ length l.fn.scratch.cells
