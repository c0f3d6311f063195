use Rattle.std.proofs.Common.{◌≡◌, take}
use Rattle.keeper_store.specs.EnergyBytes.{row_bytes}
use Rattle.keeper_store.proofs.energy_bytes.bytes_of.Given as goal

abbrev pub invariant-loop-energy : goal.invariant-loop-energy
invariant-loop-energy l = l.bytes.items ≡ row_bytes (take l.energy-index l.energies)
