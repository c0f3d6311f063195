use Rattle.std.proofs.Common.{◌≡◌, length, take}
use Rattle.std.specs.List.{All}
use Rattle.lib_base.specs.Sounds.{IsSample}
use Rattle.bench_flac.proofs.prediction.coded.Given as goal

abbrev pub invariant-loop-place : goal.invariant-loop-place
invariant-loop-place l = (length l.coded.items ≡ 4096) × All (IsSample 16) (take (length l.weights) l.coded.items)
