-- What sweeping leaves.
use Rattle.std.specs.Prelude.{◌≡◌, ◌≢◌, ◌≤◌, ◌⊎◌, ℕ, Option, None, Some}
use Rattle.lib_base.specs.Faults.{Rose}
use Rattle.keeper_store.specs.Blobs.{AllKept, OthersKept}
use Rattle.keeper_store.specs.Goes.{Goes, RoseByOneAtMost}
use Rattle.keeper_store.specs.Vaults.{VaultView}
use Rattle.catalogue_core.specs.declared.libraries.Library.{Library}
use Rattle.catalogue_core.specs.Kept.{HoldsAgain, numbers_of, released_of}

-- Afterwards nothing is under the released key, or the vault's count of faults rose; every other key is as it was. Where none is released
-- the vault is not called.
abbrev pub Clears : Option ℕ → VaultView → VaultView → Type 0
Clears None old new = new ≡ old
Clears (Some key) old new =
    (Goes (λ _ blobs. blobs key ≡ None) old.blobs new.blobs ⊎ Rose old.faults new.faults)
    × Goes (OthersKept key) old.blobs new.blobs

-- What a sweep does to the library and the vault: the library holds what it held, and no key is released any more. The vault changes once
-- at most.
pub record Sweeps (library swept : Library) (old new : VaultView) : Type 0 where
  pub held : HoldsAgain library swept
  pub forgotten : released_of swept ≡ None
  pub clears : Clears (released_of library) old new
  pub later : old.faults ≤ new.faults
  pub changes : RoseByOneAtMost old.changes new.changes
