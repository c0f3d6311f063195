-- What the statuses of replies tell of the outside, whatever the library holds.
use Rattle.std.specs.Prelude.{◌≡◌, ◌≢◌, ◌≤◌, ◌⊎◌, ℕ, Result, Ok, Err}
use Rattle.lib_base.specs.declared.outcomes.Memory.{Memory}
use Rattle.lib_base.specs.Faults.{Rose}
use Rattle.library_model.specs.declared.messages.Reply.{Reply}
use Rattle.library_model.specs.declared.refusals.Refusal.TheVariants as cause
use Rattle.library_model.specs.Refusals.{status_of}
use Rattle.catalogue_core.specs.declared.prepared.Staged.{Staged}
use Rattle.catalogue_core.specs.declared.prepared.Staged.TheVariants.{Refused, Ready}

-- the status of a request that is accepted: 200 or 201
abbrev pub IsGranted : ℕ → Type 0
IsGranted status = (200 ≤ status) × (status ≤ 201)

-- A request is refused as `Vault` only where the vault's count rose, and at staging never as `Keeper` or `Memory`.
pub record StagingRefuses (reply : Reply) (before now : ℕ) : Type 0 where
  pub vault : reply.status ≡ status_of cause.Vault → Rose before now
  pub keeper : reply.status ≢ status_of cause.Keeper
  pub memory : reply.status ≢ status_of cause.Memory

-- what staging gives, where the vault's count of faults went from `before` to `now`; want of memory counts no fault
abbrev pub StagesBy : ℕ → ℕ → Result Staged Memory → Type 0
StagesBy before now (Ok (Refused reply)) = StagingRefuses reply before now
StagesBy before now (Ok (Ready p)) = IsGranted p.reply.status
StagesBy before now (Err e) = now ≡ before

-- A commit is answered by a 200 or 201, as `Keeper` only where the keeper's count rose, or as `Memory` where it did not move.
pub record CommitsBy (reply : Reply) (before now : ℕ) : Type 0 where
  pub known : IsGranted reply.status ⊎ ((reply.status ≡ status_of cause.Keeper) ⊎ (reply.status ≡ status_of cause.Memory))
  pub keeper : reply.status ≡ status_of cause.Keeper → Rose before now
  pub memory : reply.status ≡ status_of cause.Memory → now ≡ before
