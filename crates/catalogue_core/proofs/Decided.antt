-- What is staged of a decision is what the machine decides.
use Rattle.std.proofs.Common.{◌≡◌, ℕ, Bool, true, List, Option, None, Some, Result, Ok, Err, refl, sym, ap, ◌∙◌, subst}
use Rattle.std.specs.Prelude.{IfOk}
use Rattle.catalogue_rows.specs.Making.{FitsAll}
use Rattle.catalogue_rows.specs.Room.{HasRoomFor}
use Rattle.catalogue_rows.specs.declared.fresh.Fresh.{Fresh}
use Rattle.lib_base.specs.declared.outcomes.Memory.{Memory}
use Rattle.keeper_store.specs.declared.contents.Change.{Change}
use Rattle.library_model.specs.declared.messages.Command.{Command}
use Rattle.library_model.specs.declared.messages.Reply.{Reply}
use Rattle.library_model.specs.Asked.{Asked, asks_vault, change, command, puts_file}
use Rattle.library_model.specs.Machine.{accepts, as_decided, stays, vault_failed}
use Rattle.library_model.specs.State.{State}
use Rattle.catalogue_core.specs.Committing.{Fits}
use Rattle.catalogue_core.specs.Plans.{DecidedFrom, HasRoomOf, IsOwnRefusal, IsOwnStatus, batch_of}
use Rattle.catalogue_core.specs.Settling.{IsOwnStaged, IsPreparedOf, IsSettled, StaysUnlessFailed}
use Rattle.catalogue_core.specs.Staging.{IfReady, IsChangeOf, StagedFrom}
use Rattle.catalogue_core.specs.declared.libraries.Library.{Library}
use Rattle.catalogue_core.specs.declared.plans.Decision.{Decision}
use Rattle.catalogue_core.specs.declared.plans.Decision.TheVariants as decision
use Rattle.catalogue_core.specs.declared.plans.Plan.{Plan}
use Rattle.catalogue_core.specs.declared.prepared.Prepared.{Prepared}
use Rattle.catalogue_core.specs.declared.prepared.Staged.{Staged}
use Rattle.catalogue_core.specs.declared.prepared.Staged.TheVariants.{Refused, Ready}

-- a prepared change is that of its plan
prepared : (s : State) (asked : Asked) (token mark : List ℕ) (plan : Plan) (p : Prepared)
    → IsChangeOf s asked (batch_of token mark plan) plan.fresh plan.released plan.reply → IsPreparedOf token mark plan p
    → IsChangeOf s asked p.batch.changes p.fresh p.released p.reply
prepared s asked token mark plan p is of_plan = rw (of_plan.batch, of_plan.fresh, of_plan.released, of_plan.reply) is

-- What is settled of a decision is what is staged from the state.
pub settled : (s : State) (token mark : List ℕ) (wanted : Command) (made : Decision) (staged : Staged) → DecidedFrom s token mark wanted made
    → IsSettled token mark made staged → StagedFrom s (change token mark (command wanted)) staged
settled s token mark wanted (decision.Refused reply) (Refused said) decides is =
    record { way = as_decided (stays reply); answers = (decides, is, refl) }
settled s token mark wanted (decision.Refused reply) (Ready p) decides is = absurd is
settled s token mark wanted (decision.Planned plan) (Refused said) decides is = absurd is
settled s token mark wanted (decision.Planned plan) (Ready p) decides is = prepared s (change token mark (command wanted)) token mark plan p decides is

-- Where a fault of the vault follows, the request is refused for it.
pub put_staged : (s : State) (asked : Asked) (wanted : Command) (staged : Staged) (before now : ℕ) (r : Result Staged Memory)
    → asks_vault asked ≡ puts_file wanted → StagedFrom s asked staged → StaysUnlessFailed wanted staged before now r → IfOk r (StagedFrom s asked)
put_staged s asked wanted (Refused reply) before now (Ok (Refused said)) same from kept = subst (λ (r : Reply). StagedFrom s asked (Refused r)) (sym kept) from
put_staged s asked wanted (Refused reply) before now (Ok (Ready p)) same from kept = absurd kept
put_staged s asked wanted (Ready ready) before now (Ok (Refused said)) same from kept = record {
  way = vault_failed (accepts ready.reply from.next);
  answers = (from.decides, tt, same ∙ kept.0, kept.1, refl);
}
put_staged s asked wanted (Ready ready) before now (Ok (Ready p)) same from kept = subst (λ (q : Prepared). StagedFrom s asked (Ready q)) (sym kept) from
put_staged s asked wanted staged before now (Err e) same from kept = tt

-- A refusal that tells nothing of the outside is settled as one.
pub own_settled : (token mark : List ℕ) (made : Decision) (staged : Staged) → IsOwnRefusal made → IsSettled token mark made staged → IsOwnStaged staged
own_settled token mark (decision.Refused reply) (Refused said) own is = subst (λ (r : Reply). IsOwnStatus r.status) (sym is) own
own_settled token mark (decision.Refused reply) (Ready p) own is = absurd is
own_settled token mark (decision.Planned plan) (Refused said) own is = absurd is
own_settled token mark (decision.Planned plan) (Ready p) own is = tt

-- The room of a plan is that of its prepared change.
pub room_staged : (library : Library) (token mark : List ℕ) (wanted : Command) (made : Decision) (staged : Staged) (before now : ℕ) (r : Result Staged Memory)
    → HasRoomOf library made → IsSettled token mark made staged → StaysUnlessFailed wanted staged before now r → IfReady r (Fits library)
room_staged library token mark wanted made staged before now (Ok (Refused said)) room is kept = tt
room_staged library token mark wanted made staged before now (Err e) room is kept = tt
room_staged library token mark wanted (decision.Refused reply) (Refused said) before now (Ok (Ready p)) room is kept = absurd kept
room_staged library token mark wanted (decision.Refused reply) (Ready ready) before now (Ok (Ready p)) room is kept = absurd is
room_staged library token mark wanted (decision.Planned plan) (Refused said) before now (Ok (Ready p)) room is kept = absurd is
room_staged library token mark wanted (decision.Planned plan) (Ready ready) before now (Ok (Ready p)) room is kept =
    let fits : Fits library ready = rw (is.batch, is.fresh) (room token mark) in
    subst (Fits library) (sym kept) fits
