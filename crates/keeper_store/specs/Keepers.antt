-- What a keeper tells, and what its calls do to that.
use Rattle.std.specs.Prelude.{◌≡◌, ℕ, List, Option, Result, IfOk, OnOk, OnErr, IsErrOf}
use Rattle.lib_base.specs.Faults.{CountsFault}
use Rattle.lib_base.specs.declared.outcomes.Outside.{Outside}
use Rattle.lib_base.specs.declared.outcomes.Outside.TheVariants as outside
use Rattle.keeper_store.specs.declared.contents.Tables.{Tables}
use Rattle.keeper_store.specs.declared.contents.Change.{Change}
use Rattle.keeper_store.specs.Changes.{changed_all}
use Rattle.keeper_store.specs.Goes.{Goes, RoseByOne}

-- what a keeper tells
pub record KeeperView : Type 0 where
  -- the tables, where it tells them
  pub tables : Option Tables
  -- how many faults it has counted, held to the last value of its counter
  pub faults : ℕ
  -- how many calls of `apply` there were, held to the last value of its counter
  pub applies : ℕ

-- the tables stay, and on Ok they are the answer
abbrev pub GivesTables : {E : Type 0} → Result Tables E → Tables → Tables → Type 0
GivesTables r old new = (new ≡ old) × IfOk r (λ t. t ≡ old)

-- on Ok all the changes were made, and a refusal left the tables
abbrev pub MakesChanges : {T E : Type 0} → List Change → Result T E → Tables → Tables → Type 0
MakesChanges changes r old new = OnOk r (new ≡ changed_all changes old) × OnErr r (new ≡ old)

-- A load gives the tables, leaves them, and counts as no apply. Want of memory counts no fault.
pub record Loads (old new : KeeperView) (r : Result Tables Outside) : Type 0 where
  pub content : Goes (GivesTables r) old.tables new.tables
  pub faults : CountsFault (IsErrOf r outside.Failed) old.faults new.faults
  pub memory : IsErrOf r outside.Memory → new.faults ≡ old.faults
  pub applies : new.applies ≡ old.applies

-- An apply makes all the changes, or none where it is refused, and is counted. Want of memory counts no fault.
pub record Applies {T : Type 0} (changes : List Change) (old new : KeeperView) (r : Result T Outside) : Type 0 where
  pub content : Goes (MakesChanges changes r) old.tables new.tables
  pub faults : CountsFault (IsErrOf r outside.Failed) old.faults new.faults
  pub memory : IsErrOf r outside.Memory → new.faults ≡ old.faults
  pub applies : RoseByOne old.applies new.applies
