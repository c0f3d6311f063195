-- What settling a decision gives, and then putting its file.
use Rattle.std.specs.Prelude.{◌≡◌, ◌≤◌, ℕ, true, false, List, Option, None, Some, Result, Ok, Err, ⊤}
use Rattle.lib_base.specs.Faults.{Rose}
use Rattle.lib_base.specs.declared.outcomes.Memory.{Memory}
use Rattle.keeper_store.specs.Blobs.{OthersKept}
use Rattle.keeper_store.specs.Goes.{Goes, RoseByOneAtMost}
use Rattle.keeper_store.specs.Vaults.{VaultView}
use Rattle.library_model.specs.declared.messages.Command.{Command}
use Rattle.library_model.specs.declared.messages.Command.TheVariants.{NewAlbum, Import, Retake, Regroup, RemoveRecording, RemoveAlbum}
use Rattle.library_model.specs.declared.refusals.Refusal.TheVariants.{Vault}
use Rattle.library_model.specs.Asked.{puts_file}
use Rattle.library_model.specs.Replies.{refusal}
use Rattle.library_model.specs.Stands.{HoldsFileOf}
use Rattle.catalogue_core.specs.Plans.{IsOwnStatus, batch_of}
use Rattle.catalogue_core.specs.Staging.{IfReady}
use Rattle.catalogue_core.specs.declared.plans.Decision.{Decision}
use Rattle.catalogue_core.specs.declared.plans.Decision.TheVariants as decision
use Rattle.catalogue_core.specs.declared.plans.Plan.{Plan}
use Rattle.catalogue_core.specs.declared.prepared.Prepared.{Prepared}
use Rattle.catalogue_core.specs.declared.prepared.Staged.{Staged}
use Rattle.catalogue_core.specs.declared.prepared.Staged.TheVariants.{Refused, Ready}

-- The prepared change is the planned one, with its reply kept last.
pub record IsPreparedOf (token mark : List ℕ) (plan : Plan) (p : Prepared) : Type 0 where
  pub batch : p.batch.changes ≡ batch_of token mark plan
  pub fresh : p.fresh ≡ plan.fresh
  pub released : p.released ≡ plan.released
  pub reply : p.reply ≡ plan.reply

-- a refusal stays, and a plan is prepared
abbrev pub IsSettled : List ℕ → List ℕ → Decision → Staged → Type 0
IsSettled token mark (decision.Refused reply) (Refused said) = said ≡ reply
IsSettled token mark (decision.Refused reply) (Ready p) = ⊥
IsSettled token mark (decision.Planned plan) (Refused said) = ⊥
IsSettled token mark (decision.Planned plan) (Ready p) = IsPreparedOf token mark plan p

-- a refusal tells nothing of the outside
abbrev pub IsOwnStaged : Staged → Type 0
IsOwnStaged (Refused reply) = IsOwnStatus reply.status
IsOwnStaged (Ready p) = ⊤

-- the file that a command brings, if it brings one
abbrev pub file_of : Command → Option (List ℕ)
file_of (NewAlbum name) = None
file_of (Import album name file) = Some file
file_of (Retake recording file) = Some file
file_of (Regroup recording album) = None
file_of (RemoveRecording recording) = None
file_of (RemoveAlbum album) = None

-- What was staged stays as it is once its file is put, or it is refused where the vault counted a fault; want of memory counts none.
abbrev pub StaysUnlessFailed : Command → Staged → ℕ → ℕ → Result Staged Memory → Type 0
StaysUnlessFailed wanted (Refused reply) before now (Ok (Refused said)) = said ≡ reply
StaysUnlessFailed wanted (Refused reply) before now (Ok (Ready p)) = ⊥
StaysUnlessFailed wanted (Ready ready) before now (Ok (Refused said)) = (puts_file wanted ≡ true) × (said ≡ refusal Vault) × Rose before now
StaysUnlessFailed wanted (Ready ready) before now (Ok (Ready p)) = p ≡ ready
StaysUnlessFailed wanted staged before now (Err e) = now ≡ before

-- What putting a command's file does to the vault: it changes once at most, under this key alone, which holds the file of what is ready.
pub record PutsFile (wanted : Command) (key : ℕ) (old new : VaultView) (r : Result Staged Memory) : Type 0 where
  pub others : Goes (OthersKept key) old.blobs new.blobs
  pub file : IfReady r (λ _. Goes (λ _ blobs. HoldsFileOf wanted key blobs) old.blobs new.blobs)
  pub later : old.faults ≤ new.faults
  pub changes : RoseByOneAtMost old.changes new.changes
