-- What a session sees of its objects.
use Rattle.std.specs.Prelude.{◌+◌, ◌-◌, ◌^◌, ◌≤◌, ℕ, min}
use Rattle.keeper_store.specs.Keepers.{KeeperView}
use Rattle.keeper_store.specs.Vaults.{VaultView}
use Rattle.catalogue_core.specs.declared.libraries.Library.{Library}

-- the library, and what the keeper and the vault tell
pub record World : Type 0 where
  pub library : Library
  pub keeper : KeeperView
  pub vault : VaultView

-- the world of these
abbrev pub world : Library → KeeperView → VaultView → World
world library keeper vault = record { library = library; keeper = keeper; vault = vault }

-- neither count of faults falls
pub record KeepsFaults (before now : World) : Type 0 where
  pub of_keeper : before.keeper.faults ≤ now.keeper.faults
  pub of_vault : before.vault.faults ≤ now.vault.faults

-- a count rose by so many or more, or stands at its counter's last value
abbrev pub RoseBy : ℕ → ℕ → ℕ → Type 0
RoseBy many before now = min (before + many) (2 ^ 64 - 1) ≤ now
