-- The plans of the objects in memory.
use Rattle.lib_base.specs.Plan.{Plan}
use Rattle.keeper_store.specs.declared.keepers.MemKeeper.{MemKeeper}
use Rattle.keeper_store.specs.declared.vaults.MemVault.{MemVault}

-- which calls of a keeper in memory fail, and how many calls and faults there were
abbrev pub keeper_plan : MemKeeper → Plan
keeper_plan k = k.plan

-- which calls of a vault in memory fail, and how many calls and faults there were
abbrev pub vault_plan : MemVault → Plan
vault_plan v = v.plan
