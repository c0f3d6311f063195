-- What is accepted of a change: a command, whose reply is kept.
use Rattle.std.proofs.Common.{◌≡◌, ℕ, Option, None, Some, List, refl, ap, ◌∙◌, subst}
use Rattle.library_model.specs.declared.messages.Command.{Command}
use Rattle.library_model.specs.declared.messages.Reply.{Reply}
use Rattle.library_model.specs.Asked.{Wanted, change, command, malformed}
use Rattle.library_model.specs.Machine.{Verdict, Decides, DecidesChange, DecidesCommand, accepts, keeping, kept_reply, kept_under, state_after, stays}
use Rattle.library_model.specs.State.{Kept, State}
use Rattle.library_model.proofs.Keeping.{with_kept}

-- The command behind a change that is accepted, and the state that it leads to before its reply is kept.
pub record IsKeptStep (s : State) (token mark : List ℕ) (wanted : Command) (reply : Reply) (next : State) : Type 0 where
  pub made : State
  pub fresh : kept_under token s.replies ≡ None
  pub decides : DecidesCommand s wanted (accepts reply made)
  pub next_is : next ≡ with_kept made (kept_reply token mark reply)

-- a verdict that is kept and accepts was one that accepts
kept_step : (s : State) (token mark : List ℕ) (wanted : Command) (reply : Reply) (next : State) (decided : Verdict)
    → kept_under token s.replies ≡ None → DecidesCommand s wanted decided → accepts reply next ≡ keeping token mark decided
    → IsKeptStep s token mark wanted reply next
kept_step s token mark wanted reply next (stays other) fresh decides is = absurd (cc is)
kept_step s token mark wanted reply next (accepts other made) fresh decides is =
    let same : other ≡ reply = cc is in
    let to : Verdict → State = state_after s in
    record {
      made = made;
      fresh = fresh;
      decides = subst (λ (r : Reply). DecidesCommand s wanted (accepts r made)) same decides;
      next_is = ap to is ∙ ap (λ (r : Reply). with_kept made (kept_reply token mark r)) same;
    }

-- What is accepted of a change is a command whose reply is kept.
pub accepted-IsKeptStep : (s : State) (token mark : List ℕ) (wanted : Wanted) (reply : Reply) (next : State)
    → Decides s (change token mark wanted) (accepts reply next)
    → (asked : Command) × (wanted ≡ command asked) × IsKeptStep s token mark asked reply next
accepted-IsKeptStep s token mark wanted reply next decides = by_kept wanted (kept_under token s.replies) refl decides
  where
    by_kept : (wanted : Wanted) (kept : Option Kept) → kept_under token s.replies ≡ kept
        → DecidesChange s token mark wanted kept (accepts reply next)
        → (asked : Command) × (wanted ≡ command asked) × IsKeptStep s token mark asked reply next
    by_kept wanted (Some kept) is decides = absurd (cc decides)
    by_kept (malformed other) None is decides = absurd (cc decides)
    by_kept (command asked) None is decides =
        (asked, refl, kept_step s token mark asked reply next decides.0 is decides.1 decides.2)
