-- What answering requests does to the library, the keeper and the vault.
use Rattle.std.specs.Prelude.{◌≡◌, ◌≢◌, ◌<◌, ◌+◌, ◌⊎◌, ℕ, true, List, [], ◌∷◌, Option, None, Some}
use Rattle.std.specs.List.{AllByRecursion}
use Rattle.lib_base.specs.Faults.{Rose}
use Rattle.keeper_store.specs.Blobs.{Blobs}
use Rattle.keeper_store.specs.Goes.{Goes, RoseByOneAtMost, RoseByOne}
use Rattle.library_model.specs.declared.messages.Reply.{Reply}
use Rattle.library_model.specs.declared.refusals.Refusal.TheVariants as cause
use Rattle.library_model.specs.Asked.{Asked, spares_vault}
use Rattle.library_model.specs.Exchanges.{Exchange, exchange, count_status}
use Rattle.library_model.specs.Granted.{IsGrantable}
use Rattle.library_model.specs.InOrder.{IsKeptStatus}
use Rattle.library_model.specs.Machine.{Verdict, Answer, AnswersBy, as_decided, without_memory, taken_out}
use Rattle.library_model.specs.Refusals.{status_of}
use Rattle.library_model.specs.Replies.{refusal}
use Rattle.library_model.specs.Stands.{tables_of, HoldsFiles}
use Rattle.library_model.specs.State.{State}
use Rattle.catalogue_core.specs.Kept.{Keeps}
use Rattle.library_http.specs.World.{World, RoseBy}

-- The library goes from one state to another: it keeps the second, and where the tables and the files were those of the first, they are
-- those of the second.
pub record Leads (s next : State) (before now : World) : Type 0 where
  pub keeps : Keeps now.library next
  pub rows : Goes (λ old new. old ≡ tables_of s → new ≡ tables_of next) before.keeper.tables now.keeper.tables
  pub files : Goes (λ old new. HoldsFiles old s.recordings → HoldsFiles new next.recordings) before.vault.blobs now.vault.blobs

-- one for a key that holds something
abbrev pub held : Option (List ℕ) → ℕ
held None = 0
held (Some bytes) = 1

-- how many of the keys hold something
abbrev pub count_held : Blobs → List ℕ → ℕ
count_held blobs [] = 0
count_held blobs (key ∷ keys) = held (blobs key) + count_held blobs keys

-- Each reply `Vault`, and each released key that still holds something, is one by which the vault's count of faults rose; each reply
-- `Keeper` is one by which the keeper's did.
pub record Counts (exchanges : List Exchange) (released : List ℕ) (before now : World) : Type 0 where
  pub vault : RoseBy (count_status (status_of cause.Vault) exchanges) before.vault.faults now.vault.faults
  pub left : Goes (λ _ blobs. RoseBy (count_status (status_of cause.Vault) exchanges + count_held blobs released)
      before.vault.faults now.vault.faults) before.vault.blobs now.vault.blobs
  pub keeper : RoseBy (count_status (status_of cause.Keeper) exchanges) before.keeper.faults now.keeper.faults

-- every key but this one and these holds what it held
abbrev pub OtherKeysKept : ℕ → List ℕ → Blobs → Blobs → Type 0
OtherKeysKept key released old new =
    (other : ℕ) → other ≢ key → AllByRecursion (λ take. other ≢ take) released → new other ≡ old other

-- every key below the next one that is none of these holds what it held
abbrev pub OldKeysKept : ℕ → List ℕ → Blobs → Blobs → Type 0
OldKeysKept next released old new =
    (key : ℕ) → key < next → AllByRecursion (λ take. key ≢ take) released → new key ≡ old key

-- a request was answered as it is decided, or memory was wanting
abbrev pub IsFaultless : State → Asked → Reply → State → Type 0
IsFaultless s asked reply next =
    ((verdict : Verdict) × AnswersBy (as_decided verdict) s asked reply next) ⊎ AnswersBy without_memory s asked reply next

-- the least status that tells of a server's fault (RFC 9110 section 15.6)
abbrev pub server_fault : ℕ
server_fault = 500

-- A request was answered from a state. What it took out is swept, or the vault's count rose. The vault changed under the next take and
-- what was taken out alone, and was not called by a request that spares it. One change at most was handed to the keeper, and just one
-- where the state is another. A request that leaves the state for its own sake, as a question, a refusal and a repeat do, touched
-- neither. Where neither count of faults rose, the request was answered as it is decided, or memory was wanting; so an import or a
-- retake that nothing refuses was granted then.
pub record Acts (s : State) (asked : Asked) (reply : Reply) (before now : World) : Type 0 where
  pub next : State
  pub answers : Answer s asked reply next
  pub leads : Leads s next before now
  pub counts : Counts (exchange asked reply ∷ []) (taken_out s next) before now
  pub calls : spares_vault asked ≡ true → now.vault.calls ≡ before.vault.calls
  pub keys : Goes (OtherKeysKept s.next_take (taken_out s next)) before.vault.blobs now.vault.blobs
  pub applies : RoseByOneAtMost before.keeper.applies now.keeper.applies
  pub applied : next ≢ s → RoseByOne before.keeper.applies now.keeper.applies
  pub untouched : next ≡ s → reply.status < server_fault → (now.keeper ≡ before.keeper) × (now.vault ≡ before.vault)
  pub complete : ¬ Rose before.vault.faults now.vault.faults → ¬ Rose before.keeper.faults now.keeper.faults
      → IsFaultless s asked reply next
  pub granted : ¬ Rose before.vault.faults now.vault.faults → ¬ Rose before.keeper.faults now.keeper.faults → IsGrantable s asked
      → IsKeptStatus reply.status ⊎ (reply ≡ refusal cause.Memory)

-- The exchanges were made in order, each from the state and the world that the one before it left.
abbrev pub ActInTurn : State → List Exchange → State → World → World → Type 0
ActInTurn s [] last before now = (last ≡ s) × (now ≡ before)
ActInTurn s (e ∷ exchanges) last before now =
    (mid : World) × (acts : Acts s e.request e.reply before mid) × ActInTurn acts.next exchanges last mid now
