use Rattle.std.proofs.Common.{◌≡◌, length}
use Rattle.std.specs.List.{All}
use Rattle.lib_base.specs.Sounds.{IsSample}
use Rattle.measure_pool.proofs.tests.channel.Given as goal

abbrev pub invariant-places : goal.invariant-places
invariant-places l = (All (IsSample 16) l.list.items) × (length l.list.items ≡ l.place)
