-- What committing a prepared change answers.
use Rattle.std.specs.Prelude.{◌≡◌, ◌≤◌, ◌⊎◌, None}
use Rattle.catalogue_rows.specs.Making.{FitsAll}
use Rattle.catalogue_rows.specs.Room.{HasRoomFor}
use Rattle.lib_base.specs.Faults.{Rose}
use Rattle.keeper_store.specs.declared.contents.Tables.{Tables}
use Rattle.keeper_store.specs.Changes.{changed_all}
use Rattle.keeper_store.specs.Goes.{Goes, RoseByOne}
use Rattle.keeper_store.specs.Keepers.{KeeperView}
use Rattle.library_model.specs.declared.messages.Reply.{Reply}
use Rattle.library_model.specs.declared.refusals.Refusal.TheVariants.{Keeper, Memory}
use Rattle.library_model.specs.Replies.{refusal}
use Rattle.catalogue_core.specs.declared.libraries.Library.{Library}
use Rattle.catalogue_core.specs.declared.prepared.Prepared.{Prepared}
use Rattle.catalogue_core.specs.Kept.{Holds, HoldsAgain, released_of}

-- the library has the room that the change needs
abbrev pub Fits : Library → Prepared → Type 0
Fits library p = HasRoomFor library.rows p.fresh p.batch.changes

-- the change can be made of what stands in these tables
abbrev pub FitsTables : Prepared → Tables → Type 0
FitsTables p t = FitsAll p.batch.changes p.fresh t

-- the library holds what the change makes of what it held, where the change can be made of it
abbrev pub HoldsChanged : Prepared → Library → Library → Type 0
HoldsChanged p old new = (t : Tables) → Holds old t → FitsTables p t → Holds new (changed_all p.batch.changes t)

-- The change was made, with its reply, and the take that it takes out is released.
pub record IsMade (p : Prepared) (library committed : Library) (old new : KeeperView) (reply : Reply) : Type 0 where
  pub reply_is : reply ≡ p.reply
  pub holds : HoldsChanged p library committed
  pub tables : Goes (λ t u. u ≡ changed_all p.batch.changes t) old.tables new.tables
  pub released : released_of committed ≡ p.released

-- Nothing was changed, and no take is released.
pub record IsLeft (library committed : Library) (old new : KeeperView) : Type 0 where
  pub holds : HoldsAgain library committed
  pub tables : Goes (λ t u. u ≡ t) old.tables new.tables
  pub released : released_of committed ≡ None

-- The change was made, with its reply; or the keeper's count rose, or memory was wanting with no fault counted, and nothing
-- was changed.
abbrev pub Settles : Prepared → Library → Library → KeeperView → KeeperView → Reply → Type 0
Settles p library committed old new reply =
    IsMade p library committed old new reply
    ⊎ ((IsLeft library committed old new × (reply ≡ refusal Keeper) × Rose old.faults new.faults)
    ⊎ (IsLeft library committed old new × (reply ≡ refusal Memory) × (new.faults ≡ old.faults)))

-- What a commit does to the library and the keeper: the change is settled, with one `apply` whatever it
-- answers.
pub record Commits (p : Prepared) (library committed : Library) (old new : KeeperView) (reply : Reply) : Type 0 where
  pub settles : Settles p library committed old new reply
  pub later : old.faults ≤ new.faults
  pub applies : RoseByOne old.applies new.applies
