-- A plan whose batch leads on decides.
use Rattle.std.proofs.Common.{◌≡◌, ℕ, List, Option}
use Rattle.catalogue_rows.specs.Making.{FitsAll}
use Rattle.keeper_store.specs.declared.contents.Change.{Change}
use Rattle.library_model.specs.declared.messages.Command.{Command}
use Rattle.library_model.specs.declared.messages.Reply.{Reply}
use Rattle.library_model.specs.Stands.{tables_of}
use Rattle.library_model.specs.State.{State}
use Rattle.library_model.proofs.Leading.{Leads}
use Rattle.catalogue_core.specs.Kept.{takes_of}
use Rattle.catalogue_core.specs.Plans.{DecidedFrom, IsPlan, kept_last}
use Rattle.catalogue_core.specs.declared.plans.Decision.TheVariants.{Planned}
use Rattle.catalogue_core.specs.declared.plans.Plan.{Plan}

-- A plan of changes that lead on from a state, and that can be made of its tables, is what is decided.
pub planned : (s : State) (token mark : List ℕ) (wanted : Command) (changes : List Change) (released : Option ℕ) (reply : Reply) (plan : Plan)
    → IsPlan changes released reply plan
    → Leads s token mark wanted (kept_last changes token mark reply) (takes_of released) reply
    → FitsAll (kept_last changes token mark reply) plan.fresh (tables_of s)
    → DecidedFrom s token mark wanted (Planned plan)
planned s token mark wanted changes released reply plan is leads fits = record {
  next = leads.next;
  decides = rw is.reply_is leads.decides;
  rows = rw (is.changes_are, is.reply_is) leads.rows;
  fits = rw (is.changes_are, is.reply_is) fits;
  released_is = rw is.released_is leads.released;
}
