-- How a change under a kept token, or one that breaks its form, is decided.
use Rattle.std.proofs.Common.{◌≡◌, ℕ, Bool, true, false, cond, Option, None, Some, List, [], ◌∷◌, map, refl, sym, subst}
use Rattle.std.specs.List.{find}
use Rattle.std.specs.Option.{option_map}
use Rattle.std.specs.Str.{bytes_eq}
use Rattle.keeper_store.specs.declared.row_types.ReplyRow.{ReplyRow}
use Rattle.library_model.specs.declared.messages.Reply.{Reply}
use Rattle.library_model.specs.Asked.{Wanted, change, malformed}
use Rattle.library_model.specs.Machine.{Decides, DecidesChange, kept_under, repeat_reply, stays}
use Rattle.library_model.specs.Stands.{reply_row}
use Rattle.library_model.specs.State.{Kept, State}

-- the row of what is kept under a token is found among the rows of kept replies
pub found_row : (token : List ℕ) (replies : List Kept) → find (λ (row : ReplyRow). bytes_eq row.token token) (map reply_row replies)
    ≡ option_map reply_row (kept_under token replies)
found_row token [] = refl
found_row token (k ∷ replies) = cases (found_row token replies) (bytes_eq k.token token)
  where
    cases : find (λ (row : ReplyRow). bytes_eq row.token token) (map reply_row replies) ≡ option_map reply_row (kept_under token replies)
        → (here : Bool) → cond here (Some (reply_row k)) (find (λ (row : ReplyRow). bytes_eq row.token token) (map reply_row replies))
        ≡ option_map reply_row (cond here (Some k) (kept_under token replies))
    cases rest true = refl
    cases rest false = rest

-- A change whose token is kept is answered as a repeat.
pub repeat_exit : (s : State) (token mark : List ℕ) (wanted : Wanted) (kept : Kept) → kept_under token s.replies ≡ Some kept
    → Decides s (change token mark wanted) (stays (repeat_reply mark kept))
repeat_exit s token mark wanted kept is =
    subst (λ (k : Option Kept). DecidesChange s token mark wanted k (stays (repeat_reply mark kept))) (sym is) refl

-- One of a fresh token that breaks its form is refused as it says.
pub malformed_exit : (s : State) (token mark : List ℕ) (reply : Reply) → kept_under token s.replies ≡ None
    → Decides s (change token mark (malformed reply)) (stays reply)
malformed_exit s token mark reply fresh =
    subst (λ (k : Option Kept). DecidesChange s token mark (malformed reply) k (stays reply)) (sym fresh) refl
