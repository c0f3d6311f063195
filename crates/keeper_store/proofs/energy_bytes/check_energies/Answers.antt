use Rattle.std.proofs.Common.{◌≤◌, rules}
use Rattle.std.proofs.lemmas.List.Elements.{All-map}
use Rattle.lib_base.specs.declared.limits.TheConstants.{GREATEST_ENERGY}
use Rattle.keeper_store.specs.EnergyBytes.{spelled}
use Rattle.keeper_store.proofs.energy_bytes.check_energies.Goals as goal

pub returns-clause-ok : goal.returns-clause-ok
returns-clause-ok c = All-map (λ e. e ≤ GREATEST_ENERGY) spelled c.args.pieces.now (search rules)
