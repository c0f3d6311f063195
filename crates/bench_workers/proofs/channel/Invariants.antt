use Rattle.std.proofs.Common.{◌≡◌, ◌⊎◌, length}
use Rattle.std.specs.List.{All}
use Rattle.lib_base.specs.Sounds.{IsSample}
use Rattle.bench_workers.proofs.channel.Given as goal

abbrev pub invariant-places : goal.invariant-places
invariant-places l = (All (IsSample l.depth) l.samples.items) × (length l.samples.items ≡ l.counter) × ((l.depth ≡ 16) ⊎ (l.depth ≡ 24))
