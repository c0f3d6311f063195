-- What staging a request answers.
use Rattle.std.specs.Prelude.{◌≡◌, ◌≢◌, ◌≤◌, ℕ, false, List, Option, Result, Ok, Err, ⊤}
use Rattle.catalogue_rows.specs.Making.{FitsAll}
use Rattle.catalogue_rows.specs.declared.fresh.Fresh.{Fresh}
use Rattle.lib_base.specs.declared.outcomes.Memory.{Memory}
use Rattle.keeper_store.specs.Blobs.{OthersKept}
use Rattle.keeper_store.specs.Changes.{changed_all}
use Rattle.keeper_store.specs.Goes.{Goes, RoseByOneAtMost}
use Rattle.keeper_store.specs.Vaults.{VaultView}
use Rattle.keeper_store.specs.declared.contents.Change.{Change}
use Rattle.library_model.specs.declared.messages.Command.{Command}
use Rattle.library_model.specs.declared.messages.Reply.{Reply}
use Rattle.library_model.specs.declared.refusals.Refusal.TheVariants as cause
use Rattle.library_model.specs.Asked.{Asked, puts_file}
use Rattle.library_model.specs.Machine.{Decides, accepts, Answer, taken_out}
use Rattle.library_model.specs.Refusals.{status_of}
use Rattle.library_model.specs.Stands.{tables_of, HoldsFileOf}
use Rattle.library_model.specs.State.{State}
use Rattle.catalogue_core.specs.Committing.{Fits}
use Rattle.catalogue_core.specs.Kept.{HoldsAgain, numbers_of, released_of, takes_of}
use Rattle.catalogue_core.specs.declared.libraries.Library.{Library}
use Rattle.catalogue_core.specs.declared.prepared.Prepared.{Prepared}
use Rattle.catalogue_core.specs.declared.prepared.Staged.{Staged}
use Rattle.catalogue_core.specs.declared.prepared.Staged.TheVariants.{Refused, Ready}

-- A batch, with what is new in it, is that of what is asked, which is accepted with the reply: it can be made of the tables of s, leads to
-- those of the next state, and releases the take that is taken out on the way.
pub record IsChangeOf (s : State) (asked : Asked) (batch : List Change) (fresh : Fresh) (released : Option ℕ) (reply : Reply) : Type 0 where
  pub next : State
  pub decides : Decides s asked (accepts reply next)
  pub rows : changed_all batch (tables_of s) ≡ tables_of next
  pub fits : FitsAll batch fresh (tables_of s)
  pub released_is : taken_out s next ≡ takes_of released

-- the prepared change is that of what is asked
abbrev pub Prepares : State → Asked → Prepared → Type 0
Prepares s asked p = IsChangeOf s asked p.batch.changes p.fresh p.released p.reply

-- what staging a request from s answers: a refusal with no change, or what is prepared
abbrev pub StagedFrom : State → Asked → Staged → Type 0
StagedFrom s asked (Refused reply) = Answer s asked reply s
StagedFrom s asked (Ready p) = Prepares s asked p

-- P of what is ready
abbrev pub IfReady : Result Staged Memory → (Prepared → Type 0) → Type 0
IfReady (Ok (Ready p)) P = P p
IfReady (Ok (Refused reply)) P = ⊤
IfReady (Err e) P = ⊤

-- a refusal other than `Vault` leaves the vault as it was
abbrev pub LeavesUnlessFailed : {V : Type 0} → Result Staged Memory → V → V → Type 0
LeavesUnlessFailed (Ok (Refused reply)) old new = reply.status ≢ status_of cause.Vault → new ≡ old
LeavesUnlessFailed (Ok (Ready p)) old new = ⊤
LeavesUnlessFailed (Err e) old new = ⊤

-- a command that puts no file leaves the vault as it was, with no call
abbrev pub SparesVault : {V : Type 0} → Command → V → V → Type 0
SparesVault wanted old new = puts_file wanted ≡ false → new ≡ old

-- What staging does to the library and the vault: the library keeps what it kept, with room for what is ready. The vault
-- changes once at most, under the next take alone, which holds the file of what is ready.
pub record Stages (wanted : Command) (library staged : Library) (old new : VaultView) (r : Result Staged Memory) : Type 0 where
  pub held : HoldsAgain library staged
  pub released : released_of staged ≡ released_of library
  pub fits : IfReady r (Fits staged)
  pub others : Goes (OthersKept (numbers_of library).take) old.blobs new.blobs
  pub file : IfReady r (λ _. Goes (λ _ blobs. HoldsFileOf wanted (numbers_of library).take blobs) old.blobs new.blobs)
  pub later : old.faults ≤ new.faults
  pub changes : RoseByOneAtMost old.changes new.changes
