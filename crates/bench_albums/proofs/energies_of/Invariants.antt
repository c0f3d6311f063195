use Rattle.std.proofs.Common.{◌≡◌, ◌≤◌, length, All}
use Rattle.lib_base.specs.declared.limits.TheConstants.{GREATEST_ENERGY}
use Rattle.bench_albums.proofs.energies_of.Given as goal

abbrev pub invariant-loop-segment : goal.invariant-loop-segment
invariant-loop-segment l = record {
  count : length l.energies.items ≡ l.segment;
  within : All (λ e. e ≤ GREATEST_ENERGY) l.energies.items;
}
