use Rattle.std.proofs.Common.{◌≡◌, length}
use Rattle.std.specs.List.{All}
use Rattle.lib_base.specs.Sounds.{IsSample}
use Rattle.bench_flac.proofs.prediction.weights.Given as goal

abbrev pub invariant-loop-number : goal.invariant-loop-number
invariant-loop-number l = All (IsSample 15) l.weights.items × (length l.weights.items ≡ l.number-index)
