-- What a vault tells, and what its calls do to that.
use Rattle.std.specs.Prelude.{◌≡◌, ℕ, List, Option, None, Some, Result, IfOk, OnOk, IsErr, IsErrOf}
use Rattle.lib_base.specs.Faults.{CountsFault}
use Rattle.lib_base.specs.declared.outcomes.Outside.{Outside}
use Rattle.lib_base.specs.declared.outcomes.Outside.TheVariants as outside
use Rattle.keeper_store.specs.Blobs.{Blobs, AllKept, OthersKept}
use Rattle.keeper_store.specs.Goes.{Goes, RoseByOne}

-- what a vault tells
pub record VaultView : Type 0 where
  -- what each key holds, where it tells it
  pub blobs : Option Blobs
  -- how many faults it has counted, held to the last value of its counter
  pub faults : ℕ
  -- how many calls there were, held to the last value of its counter
  pub calls : ℕ
  -- how many calls there were that may have changed what a key holds, held to the last value of its counter
  pub changes : ℕ

-- on Ok the key holds the bytes; a refusal may leave anything or nothing under it; the others hold what they held
abbrev pub PutsUnder : {T E : Type 0} → ℕ → List ℕ → Result T E → Blobs → Blobs → Type 0
PutsUnder key bytes r old new = OnOk r (new key ≡ Some bytes) × OthersKept key old new

-- on Ok the answer is what the key holds; each key holds what it held
abbrev pub GivesHeld : {E : Type 0} → ℕ → Result (Option (List ℕ)) E → Blobs → Blobs → Type 0
GivesHeld key r old new = IfOk r (λ held. held ≡ old key) × AllKept old new

-- on Ok the key holds nothing; a refusal may leave anything or nothing under it; the others hold what they held
abbrev pub DropsUnder : {T E : Type 0} → ℕ → Result T E → Blobs → Blobs → Type 0
DropsUnder key r old new = OnOk r (new key ≡ None) × OthersKept key old new

-- A put leaves the bytes under the key, touches no other, and is counted among the calls and the changes. Want of memory
-- counts no fault.
pub record Puts {T : Type 0} (key : ℕ) (bytes : List ℕ) (old new : VaultView) (r : Result T Outside) : Type 0 where
  pub content : Goes (PutsUnder key bytes r) old.blobs new.blobs
  pub faults : CountsFault (IsErrOf r outside.Failed) old.faults new.faults
  pub memory : IsErrOf r outside.Memory → new.faults ≡ old.faults
  pub calls : RoseByOne old.calls new.calls
  pub changes : RoseByOne old.changes new.changes

-- A get answers what the key holds, changes none, and is counted among the calls. Want of memory counts no fault.
pub record Gets (key : ℕ) (old new : VaultView) (r : Result (Option (List ℕ)) Outside) : Type 0 where
  pub content : Goes (GivesHeld key r) old.blobs new.blobs
  pub faults : CountsFault (IsErrOf r outside.Failed) old.faults new.faults
  pub memory : IsErrOf r outside.Memory → new.faults ≡ old.faults
  pub calls : RoseByOne old.calls new.calls
  pub changes : new.changes ≡ old.changes

-- A drop leaves nothing under the key, touches no other, and is counted among the calls and the changes.
pub record Drops {T E : Type 0} (key : ℕ) (old new : VaultView) (r : Result T E) : Type 0 where
  pub content : Goes (DropsUnder key r) old.blobs new.blobs
  pub faults : CountsFault (IsErr r) old.faults new.faults
  pub calls : RoseByOne old.calls new.calls
  pub changes : RoseByOne old.changes new.changes
