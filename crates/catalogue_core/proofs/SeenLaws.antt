-- What is seen of the replies that a state keeps decides a change.
use Rattle.std.proofs.Common.{◌≡◌, ℕ, Option, None, List, sym, Bor, subst}
use Rattle.keeper_store.specs.declared.row_types.ReplyRow.{ReplyRow}
use Rattle.library_model.specs.declared.messages.Reply.{Reply}
use Rattle.library_model.specs.declared.refusals.Refusal.TheVariants.{TokenUsed}
use Rattle.library_model.specs.Asked.{Wanted, change}
use Rattle.library_model.specs.Machine.{Decides, kept_under, stays}
use Rattle.library_model.specs.Replies.{refusal}
use Rattle.library_model.specs.State.{State}
use Rattle.library_model.proofs.Exits.{found_row}
use Rattle.kept_replies.specs.declared.replies.Seen.{Seen}
use Rattle.kept_replies.specs.declared.replies.Seen.TheVariants as seen
use Rattle.kept_replies.specs.Seeing.{SeenAs}
use Rattle.kept_replies.proofs.Repeats as repeats
use Rattle.catalogue_core.specs.Seeing.{Sees}

-- what is seen of the rows of a state's replies is what is seen of the replies, and back
pub of_rows : (s : State) (token mark : List ℕ) (what : Seen) → repeats.Sees s token mark what → Sees s token mark what
of_rows s token mark what sees = subst (λ (row : Option ReplyRow). SeenAs row mark what) (found_row token s.replies) sees

rows_of : (s : State) (token mark : List ℕ) (what : Seen) → Sees s token mark what → repeats.Sees s token mark what
rows_of s token mark what sees = subst (λ (row : Option ReplyRow). SeenAs row mark what) (sym (found_row token s.replies)) sees

-- Under a fresh token nothing is kept.
pub fresh_seen : (s : State) (token mark : List ℕ) → Sees s token mark seen.Fresh → kept_under token s.replies ≡ None
fresh_seen s token mark sees = repeats.fresh_seen s token mark (rows_of s token mark seen.Fresh sees)

-- A repeat is answered with the reply that is seen.
pub kept_seen : (s : State) (token mark : List ℕ) (wanted : Wanted) (reply : Bor Reply)
    → Sees s token mark (seen.Kept reply) → Decides s (change token mark wanted) (stays reply.now)
kept_seen s token mark wanted reply sees = repeats.kept_seen s token mark wanted reply (rows_of s token mark (seen.Kept reply) sees)

-- A token of another request is refused as used.
pub other_seen : (s : State) (token mark : List ℕ) (wanted : Wanted) → Sees s token mark seen.Other
    → Decides s (change token mark wanted) (stays (refusal TokenUsed))
other_seen s token mark wanted sees = repeats.other_seen s token mark wanted (rows_of s token mark seen.Other sees)
