use Rattle.std.proofs.Common.{◌≡◌, length}
use Rattle.bench_flac.proofs.prediction.linear.Given as goal

abbrev pub invariant-rounds : goal.invariant-rounds
invariant-rounds l = length l.block.items ≡ 4096
