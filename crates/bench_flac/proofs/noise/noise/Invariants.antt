use Rattle.std.proofs.Common.{◌≡◌, length}
use Rattle.std.specs.List.{All}
use Rattle.lib_base.specs.Sounds.{IsSample}
use Rattle.bench_flac.proofs.noise.noise.Given as goal

abbrev pub invariant-loop-place : goal.invariant-loop-place
invariant-loop-place l = All (IsSample 16) l.samples.items × (length l.samples.items ≡ l._place)
