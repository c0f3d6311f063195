-- What is seen among the kept replies of a state decides a change.
use Rattle.std.proofs.Common.{◌≡◌, ℕ, Bool, true, Option, None, Some, List, map, refl, sym, Bor, ap, ◌∙◌, subst, if◌then◌else◌}
use Rattle.std.specs.Cmp.Lexicographic.{bytes_decides}
use Rattle.std.specs.List.{find}
use Rattle.std.specs.Option.{option_map}
use Rattle.std.specs.Str.{bytes_eq}
use Rattle.keeper_store.specs.declared.row_types.ReplyRow.{ReplyRow}
use Rattle.library_model.specs.declared.messages.Reply.{Reply}
use Rattle.library_model.specs.declared.refusals.Refusal.TheVariants.{TokenUsed}
use Rattle.library_model.specs.Asked.{Wanted, change}
use Rattle.library_model.specs.Machine.{Decides, kept_under, repeat_reply, stays}
use Rattle.library_model.specs.Replies.{json, refusal}
use Rattle.library_model.specs.Stands.{reply_row}
use Rattle.library_model.specs.State.{Kept, State}
use Rattle.library_model.proofs.Exits.{found_row, repeat_exit}
use Rattle.kept_replies.specs.declared.replies.Seen.{Seen}
use Rattle.kept_replies.specs.declared.replies.Seen.TheVariants as seen
use Rattle.kept_replies.specs.Seeing.{SeenAs}
use Rattle.kept_replies.proofs.Finding.{refuted}

-- what is seen among the rows of a state's kept replies
abbrev pub Sees : State → List ℕ → List ℕ → Seen → Type 0
Sees s token mark what = SeenAs (find (λ (row : ReplyRow). bytes_eq row.token token) (map reply_row s.replies)) mark what

-- so it is of what the state keeps
of_kept : (s : State) (token mark : List ℕ) (what : Seen) → Sees s token mark what
    → SeenAs (option_map reply_row (kept_under token s.replies)) mark what
of_kept s token mark what sees = subst (λ (row : Option ReplyRow). SeenAs row mark what) (found_row token s.replies) sees

-- the reply to a repeat, by the test of its mark
abbrev by_mark : Kept → Bool → Reply
by_mark k same = if same then json k.status k.body else refusal TokenUsed

-- Under a fresh token nothing is kept.
pub fresh_seen : (s : State) (token mark : List ℕ) → Sees s token mark seen.Fresh → kept_under token s.replies ≡ None
fresh_seen s token mark sees = by_kept (kept_under token s.replies) (of_kept s token mark seen.Fresh sees)
  where
    by_kept : (kept : Option Kept) → SeenAs (option_map reply_row kept) mark seen.Fresh → kept ≡ None
    by_kept None is = refl
    by_kept (Some k) is = absurd is

-- A repeat is answered with the reply that is seen.
pub kept_seen : (s : State) (token mark : List ℕ) (wanted : Wanted) (reply : Bor Reply)
    → Sees s token mark (seen.Kept reply) → Decides s (change token mark wanted) (stays reply.now)
kept_seen s token mark wanted reply sees =
    by_kept (kept_under token s.replies) refl (of_kept s token mark (seen.Kept reply) sees)
  where
    by_kept : (kept : Option Kept) → kept_under token s.replies ≡ kept → SeenAs (option_map reply_row kept) mark (seen.Kept reply)
        → Decides s (change token mark wanted) (stays reply.now)
    by_kept None at is = absurd is
    by_kept (Some k) at is =
        let test : bytes_eq k.mark mark ≡ true = (bytes_decides k.mark mark).1 is.0 in
        let same : repeat_reply mark k ≡ reply.now = ap (by_mark k) test ∙ sym is.1 in
        subst (λ (r : Reply). Decides s (change token mark wanted) (stays r)) same (repeat_exit s token mark wanted k at)

-- A token of another request is refused as used.
pub other_seen : (s : State) (token mark : List ℕ) (wanted : Wanted) → Sees s token mark seen.Other
    → Decides s (change token mark wanted) (stays (refusal TokenUsed))
other_seen s token mark wanted sees =
    by_kept (kept_under token s.replies) refl (of_kept s token mark seen.Other sees)
  where
    by_kept : (kept : Option Kept) → kept_under token s.replies ≡ kept → SeenAs (option_map reply_row kept) mark seen.Other
        → Decides s (change token mark wanted) (stays (refusal TokenUsed))
    by_kept None at is = absurd is
    by_kept (Some k) at is =
        let same : repeat_reply mark k ≡ refusal TokenUsed = ap (by_mark k) (refuted k.mark mark is) in
        subst (λ (r : Reply). Decides s (change token mark wanted) (stays r)) same (repeat_exit s token mark wanted k at)
