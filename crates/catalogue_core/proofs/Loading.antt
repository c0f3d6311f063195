-- What a keeper loaded is what it tells.
use Rattle.std.proofs.Common.{◌≡◌, Option, None, Some, Result, Ok, Err, IfSome, refl, subst, rules}
use Rattle.std.specs.Prelude.{IsErrOf}
use Rattle.lib_base.specs.declared.outcomes.Outside.{Outside}
use Rattle.keeper_store.specs.Goes.{Goes}
use Rattle.keeper_store.specs.Keepers.{GivesTables, KeeperView, Loads}
use Rattle.keeper_store.specs.declared.contents.Tables.{Tables}
use Rattle.library_model.specs.RowRules.{IsFirstBad}
use Rattle.catalogue_core.specs.declared.libraries.Library.{Library}
use Rattle.catalogue_core.specs.declared.libraries.OpenRefusal.{OpenRefusal}
use Rattle.catalogue_core.specs.declared.libraries.OpenRefusal.TheVariants as refusal
use Rattle.catalogue_core.specs.Opening.{Opens, OpensOver, OpensTables}

-- a fact of the tables that were loaded is one of those that are told
of_loaded : (P : Tables → Type 0) (old new : Option Tables) (tables : Tables) → Goes (GivesTables {E = Outside} (Ok tables)) old new → P tables
    → IfSome old P
of_loaded P None new tables loads p = tt
of_loaded P (Some t) None tables loads p = absurd loads
of_loaded P (Some t) (Some u) tables loads p = subst P loads.1 p

-- a load leaves the tables
stay_loaded : (r : Result Tables Outside) (old new : Option Tables) → Goes (GivesTables r) old new → Goes (λ t u. u ≡ t) old new
stay_loaded r None new loads = tt
stay_loaded r (Some t) None loads = loads
stay_loaded r (Some t) (Some u) loads = loads.0

-- what opening over the loaded tables gives is what it answers where the keeper tells them
over_loaded : (old new : Option Tables) (tables : Tables) (r : Result Library OpenRefusal) → Goes (GivesTables {E = Outside} (Ok tables)) old new
    → OpensTables tables r → OpensOver old r
over_loaded old new tables (Ok library) loads opens = record {
  tables = tables;
  loaded = of_loaded (λ t. t ≡ tables) old new tables loads refl;
  unbroken = opens.0;
  holds = opens.1;
  released = opens.2;
}
over_loaded old new tables (Err (refusal.BadRow bad)) loads opens = of_loaded (λ t. IsFirstBad t (Some bad)) old new tables loads opens
over_loaded old new tables (Err refusal.KeeperFault) loads opens = absurd opens
over_loaded old new tables (Err refusal.Memory) loads opens = tt

-- a keeper's fault is no answer of opening over loaded tables
no_fault : (tables : Tables) (r : Result Library OpenRefusal) → OpensTables tables r → ¬ IsErrOf r refusal.KeeperFault
no_fault tables (Ok library) opens = search rules
no_fault tables (Err (refusal.BadRow bad)) opens = search rules
no_fault tables (Err refusal.KeeperFault) opens = absurd opens
no_fault tables (Err refusal.Memory) opens = search rules

-- Opening over loaded tables is opening.
pub Opens-loaded : (old new : KeeperView) (tables : Tables) (r : Result Library OpenRefusal) → Loads old new (Ok tables) → OpensTables tables r
    → Opens old new r
Opens-loaded old new tables r loads opens = record {
  opens = over_loaded old.tables new.tables tables r loads.content opens;
  tables = stay_loaded (Ok tables) old.tables new.tables loads.content;
  faults = record { later = loads.faults.later; cause = λ is. absurd (no_fault tables r opens is) };
  applies = loads.applies;
}
