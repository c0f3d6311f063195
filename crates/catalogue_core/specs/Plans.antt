-- What is decided of a command, before its reply is kept.
use Rattle.std.specs.Prelude.{◌≡◌, ◌≢◌, ℕ, List, [], ◌∷◌, ◌++◌, Option, None, Result, Ok, Err, IfOk, ⊤}
use Rattle.catalogue_rows.specs.Room.{HasRoomFor}
use Rattle.lib_base.specs.declared.outcomes.Memory.{Memory as NoMemory}
use Rattle.keeper_store.specs.declared.contents.Change.{Change}
use Rattle.keeper_store.specs.declared.contents.Change.TheVariants.{PutReply}
use Rattle.library_model.specs.declared.messages.Command.{Command}
use Rattle.library_model.specs.declared.messages.Reply.{Reply}
use Rattle.library_model.specs.declared.refusals.Refusal.{Refusal}
use Rattle.library_model.specs.declared.refusals.Refusal.TheVariants.{NoRecording, NoAlbum, NotEmpty, AlbumFull, Format, TokenUsed, Ids, Vault, Keeper, Memory}
use Rattle.library_model.specs.Asked.{change, command}
use Rattle.library_model.specs.Batches.{kept_row}
use Rattle.library_model.specs.Machine.{Decides, kept_under, stays}
use Rattle.library_model.specs.Refusals.{status_of}
use Rattle.library_model.specs.State.{State}
use Rattle.catalogue_core.specs.Kept.{HoldsAgain, Keeps, numbers_of, released_of}
use Rattle.catalogue_core.specs.Staging.{IsChangeOf}
use Rattle.catalogue_core.specs.declared.libraries.Library.{Library}
use Rattle.catalogue_core.specs.declared.plans.Decision.{Decision}
use Rattle.catalogue_core.specs.declared.plans.Decision.TheVariants.{Refused, Planned}
use Rattle.catalogue_core.specs.declared.plans.Plan.{Plan}

-- a cause that lies in the request and in the rows, and not in the outside or in want of memory
abbrev pub IsOfRequest : Refusal → Type 0
IsOfRequest NoRecording = ⊤
IsOfRequest NoAlbum = ⊤
IsOfRequest NotEmpty = ⊤
IsOfRequest AlbumFull = ⊤
IsOfRequest Format = ⊤
IsOfRequest TokenUsed = ⊤
IsOfRequest Ids = ⊤
IsOfRequest Vault = ⊥
IsOfRequest Keeper = ⊥
IsOfRequest Memory = ⊥

-- a status that tells nothing of the outside
pub record IsOwnStatus (status : ℕ) : Type 0 where
  pub vault : status ≢ status_of Vault
  pub keeper : status ≢ status_of Keeper
  pub memory : status ≢ status_of Memory

-- so a refusal's
abbrev pub IsOwnRefusal : Decision → Type 0
IsOwnRefusal (Refused reply) = IsOwnStatus reply.status
IsOwnRefusal (Planned plan) = ⊤

-- The plan makes these changes, takes this take out, and has this reply.
pub record IsPlan (changes : List Change) (released : Option ℕ) (reply : Reply) (plan : Plan) : Type 0 where
  pub changes_are : plan.changes.items ≡ changes
  pub released_is : plan.released ≡ released
  pub reply_is : plan.reply ≡ reply

-- the batch of changes: last the reply is kept
abbrev pub kept_last : List Change → List ℕ → List ℕ → Reply → List Change
kept_last changes token mark reply = changes ++ PutReply (kept_row token mark reply) ∷ []

-- that of a plan
abbrev pub batch_of : List ℕ → List ℕ → Plan → List Change
batch_of token mark plan = kept_last plan.changes.items token mark plan.reply

-- what is decided of a command from s, under a token of which nothing is kept
abbrev pub DecidedFrom : State → List ℕ → List ℕ → Command → Decision → Type 0
DecidedFrom s token mark wanted (Refused reply) = Decides s (change token mark (command wanted)) (stays reply)
DecidedFrom s token mark wanted (Planned plan) =
    IsChangeOf s (change token mark (command wanted)) (batch_of token mark plan) plan.fresh plan.released plan.reply

-- The library decides as the machine does, from the state that it keeps.
abbrev pub DecidesOn : Command → Library → Result Decision NoMemory → Type 0
DecidesOn wanted library r =
    (s : State) (token mark : List ℕ) → Keeps library s → kept_under token s.replies ≡ None → IfOk r (DecidedFrom s token mark wanted)

-- the library has the room that a plan needs, whatever its reply is kept under
abbrev pub HasRoomOf : Library → Decision → Type 0
HasRoomOf library (Refused reply) = ⊤
HasRoomOf library (Planned plan) = (token mark : List ℕ) → HasRoomFor library.rows plan.fresh (batch_of token mark plan)

-- What deciding leaves of the library: it holds what it held, with room for what is planned. A refusal tells nothing of the outside.
pub record Leaves (library decided : Library) (r : Result Decision NoMemory) : Type 0 where
  pub held : HoldsAgain library decided
  pub numbers : numbers_of decided ≡ numbers_of library
  pub released : released_of decided ≡ released_of library
  pub room : IfOk r (HasRoomOf decided)
  pub own : IfOk r IsOwnRefusal
