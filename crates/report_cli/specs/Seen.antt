-- What a run sees of its objects.
use Rattle.std.specs.Prelude.{◌≡◌, ◌≤◌}
use Rattle.lib_base.specs.Doors.{DoorView}
use Rattle.lib_base.specs.Sources.{SourceView}
use Rattle.lib_base.specs.Writes.{SinkView}
use Rattle.keeper_store.specs.Goes.{Goes}
use Rattle.keeper_store.specs.Keepers.{KeeperView}
use Rattle.keeper_store.specs.Vaults.{VaultView}
use Rattle.catalogue_core.specs.declared.libraries.Library.{Library}
use Rattle.library_http.specs.World.{World, world}

-- what the source, the sink, the keeper, the vault and the door tell
pub record Seen : Type 0 where
  pub source : SourceView
  pub sink : SinkView
  pub keeper : KeeperView
  pub vault : VaultView
  pub door : DoorView

-- what is seen of these
abbrev pub seen : SourceView → SinkView → KeeperView → VaultView → DoorView → Seen
seen source sink keeper vault door =
    record { source = source; sink = sink; keeper = keeper; vault = vault; door = door }

-- what a session sees: a library, and the keeper and the vault
abbrev pub world_of : Library → Seen → World
world_of library s = world library s.keeper s.vault

-- The source, the keeper's tables, the vault and the door are as they were, and nothing was applied. The keeper may have counted
-- faults.
pub record Leaves (before now : Seen) : Type 0 where
  pub source : now.source ≡ before.source
  pub tables : Goes (λ t u. u ≡ t) before.keeper.tables now.keeper.tables
  pub faults : before.keeper.faults ≤ now.keeper.faults
  pub applies : now.keeper.applies ≡ before.keeper.applies
  pub vault : now.vault ≡ before.vault
  pub door : now.door ≡ before.door
