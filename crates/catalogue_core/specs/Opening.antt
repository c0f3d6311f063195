-- What opening a library answers.
use Rattle.std.specs.Prelude.{◌≡◌, Option, None, Some, Result, Ok, Err, IfSome, IsErrOf, ⊤}
use Rattle.lib_base.specs.Faults.{CountsFault}
use Rattle.keeper_store.specs.Goes.{Goes}
use Rattle.keeper_store.specs.Keepers.{KeeperView}
use Rattle.keeper_store.specs.declared.contents.Tables.{Tables}
use Rattle.library_model.specs.RowRules.{IsFirstBad}
use Rattle.catalogue_core.specs.declared.libraries.Library.{Library}
use Rattle.catalogue_core.specs.declared.libraries.OpenRefusal.{OpenRefusal}
use Rattle.catalogue_core.specs.declared.libraries.OpenRefusal.TheVariants as refusal
use Rattle.catalogue_core.specs.Kept.{Holds, released_of}

-- what opening over these tables gives: the library of them, which releases no take, where no row breaks a rule, or their first bad row
abbrev pub OpensTables : Tables → Result Library OpenRefusal → Type 0
OpensTables t (Ok library) = IsFirstBad t None × Holds library t × (released_of library ≡ None)
OpensTables t (Err (refusal.BadRow bad)) = IsFirstBad t (Some bad)
OpensTables t (Err refusal.KeeperFault) = ⊥
OpensTables t (Err refusal.Memory) = ⊤

-- The library holds tables of which no row breaks a rule: the loaded ones, where the keeper tells them. It releases no take.
pub record IsOpened (told : Option Tables) (library : Library) : Type 0 where
  pub tables : Tables
  pub loaded : IfSome told (λ t. t ≡ tables)
  pub unbroken : IsFirstBad tables None
  pub holds : Holds library tables
  pub released : released_of library ≡ None

-- what opening answers, where the keeper tells these tables: the library of them, or their first bad row
abbrev pub OpensOver : Option Tables → Result Library OpenRefusal → Type 0
OpensOver told (Ok library) = IsOpened told library
OpensOver told (Err (refusal.BadRow bad)) = IfSome told (λ t. IsFirstBad t (Some bad))
OpensOver told (Err refusal.KeeperFault) = ⊤
OpensOver told (Err refusal.Memory) = ⊤

-- What opening does. The keeper keeps its tables.
pub record Opens (old new : KeeperView) (r : Result Library OpenRefusal) : Type 0 where
  pub opens : OpensOver old.tables r
  pub tables : Goes (λ t u. u ≡ t) old.tables new.tables
  pub faults : CountsFault (IsErrOf r refusal.KeeperFault) old.faults new.faults
  pub applies : new.applies ≡ old.applies
