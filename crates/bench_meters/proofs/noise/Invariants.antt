use Rattle.std.specs.List.{All}
use Rattle.lib_base.specs.Sounds.{IsSample}
use Rattle.bench_meters.proofs.noise.Given as goal

abbrev pub invariant-samples : goal.invariant-samples
invariant-samples l = All (IsSample 16) l.samples.items
