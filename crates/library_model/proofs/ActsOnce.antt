-- A changing request acts once: its reply is kept under its token, and whatever comes with that token again changes nothing.
use Rattle.std.proofs.Common.{◌≡◌, ◌≢◌, ◌⊎◌, inl, inr, ℕ, Bool, true, false, cond, if◌then◌else◌, Option, None, Some, List, [], ◌∷◌, refl, sym, ap, ◌∙◌, subst, arith}
use Rattle.std.specs.Prelude.{nat_eq}
use Rattle.std.specs.Cmp.Lexicographic.{pointwise, bytes_decides}
use Rattle.keeper_store.specs.Puts.{put}
use Rattle.library_model.specs.declared.messages.Command.{Command}
use Rattle.library_model.specs.declared.messages.Reply.{Reply}
use Rattle.library_model.specs.declared.refusals.Refusal.{Refusal}
use Rattle.library_model.specs.declared.refusals.Refusal.TheVariants.{Keeper, Memory, TokenUsed, Vault}
use Rattle.library_model.specs.Asked.{Asked, Wanted, change, command, question, refused}
use Rattle.library_model.specs.Exchanges.{Answers, Exchange}
use Rattle.library_model.specs.InOrder.{IsKeptStatus}
use Rattle.library_model.specs.Machine.{Answer, AnswersBy, Decides, DecidesChange, DecidesCommand, IsAccepted, Verdict, Way, accepts, as_decided, keeper_failed, keeping, kept_reply, kept_under, repeat_reply, state_after, stays, vault_failed, verdict_reply, without_memory}
use Rattle.library_model.specs.Repeats.{ChangesOnce, Each, IsRepeat}
use Rattle.library_model.specs.Refusals.{status_of}
use Rattle.library_model.specs.Replies.{json, refusal}
use Rattle.library_model.specs.State.{Kept, State, kept_before}
use Rattle.library_model.proofs.Accepting.{accepted-IsKeptStep}
use Rattle.library_model.proofs.CommandRefusals.{IsError, error_unkept, refused_unkept}
use Rattle.library_model.proofs.Keeping.{kept_under-own, kept_under-put}
use Rattle.library_model.proofs.Steps.{command_leaves}

-- ---- one request

-- What a change that is accepted is replied is kept under its token.
pub accepted_kept : (s : State) (token mark : List ℕ) (wanted : Wanted) (reply : Reply) (next : State)
    → Decides s (change token mark wanted) (accepts reply next) → kept_under token next.replies ≡ Some (kept_reply token mark reply)
accepted_kept s token mark wanted reply next decides =
    let step = accepted-IsKeptStep s token mark wanted reply next decides in
    let same : step.2.made.replies ≡ s.replies = command_leaves s step.0 reply step.2.made step.2.decides in
    let new : Kept = kept_reply token mark reply in
    ap (λ (t : State). kept_under token t.replies) step.2.next_is
    ∙ ap (λ (rows : List Kept). kept_under token (put kept_before new rows)) same
    ∙ kept_under-own new s.replies step.2.fresh

-- what is kept stays where a verdict leads
verdict_keeps : (s : State) (asked : Asked) (verdict : Verdict) (token : List ℕ) (kept : Kept) → Decides s asked verdict
    → kept_under token s.replies ≡ Some kept → kept_under token (state_after s verdict).replies ≡ Some kept
verdict_keeps s asked (stays reply) token kept decides is = is
verdict_keeps s (refused other) (accepts reply next) token kept decides is = absurd (cc decides)
verdict_keeps s (question about) (accepts reply next) token kept decides is = absurd (cc decides)
verdict_keeps s (change own mark wanted) (accepts reply next) token kept decides is =
    let step = accepted-IsKeptStep s own mark wanted reply next decides in
    let same : step.2.made.replies ≡ s.replies = command_leaves s step.0 reply step.2.made step.2.decides in
    let new : Kept = kept_reply own mark reply in
    ap (λ (t : State). kept_under token t.replies) step.2.next_is
    ∙ ap (λ (rows : List Kept). kept_under token (put kept_before new rows)) same
    ∙ kept_under-put token new kept s.replies step.2.fresh is

-- What is kept under a token stays whatever is answered.
pub answer_keeps : (s : State) (asked : Asked) (reply : Reply) (next : State) (token : List ℕ) (kept : Kept)
    → Answer s asked reply next → kept_under token s.replies ≡ Some kept → kept_under token next.replies ≡ Some kept
answer_keeps s asked reply next token kept answer is = by_way answer.way answer.answers
  where
    at : (t : State) → next ≡ t → kept_under token t.replies ≡ Some kept → kept_under token next.replies ≡ Some kept
    at t to there = ap (λ (u : State). kept_under token u.replies) to ∙ there

    by_way : (way : Way) → AnswersBy way s asked reply next → kept_under token next.replies ≡ Some kept
    by_way (as_decided verdict) by = at (state_after s verdict) by.2 (verdict_keeps s asked verdict token kept by.0 is)
    by_way without_memory by = at s by.1 is
    by_way (vault_failed verdict) by = at s by.4 is
    by_way (keeper_failed verdict) by = at s by.3 is

-- A request whose token is kept leaves the state as it is.
pub repeat_leaves : (s : State) (token mark : List ℕ) (wanted : Wanted) (reply : Reply) (next : State) (kept : Kept)
    → kept_under token s.replies ≡ Some kept → Answer s (change token mark wanted) reply next → next ≡ s
repeat_leaves s token mark wanted reply next kept is answer = by_way answer.way answer.answers
  where
    stayed : (verdict : Verdict) → DecidesChange s token mark wanted (Some kept) verdict → state_after s verdict ≡ s
    stayed verdict decides = ap (state_after s) decides

    by_way : (way : Way) → AnswersBy way s (change token mark wanted) reply next → next ≡ s
    by_way (as_decided verdict) by =
        by.2 ∙ stayed verdict (subst (λ (k : Option Kept). DecidesChange s token mark wanted k verdict) is by.0)
    by_way without_memory by = by.1
    by_way (vault_failed verdict) by = by.4
    by_way (keeper_failed verdict) by = by.3

-- It is given the reply that a repeat gets, or the refusal for want of memory.
pub repeat_replied : (s : State) (token mark : List ℕ) (wanted : Wanted) (reply : Reply) (next : State) (kept : Kept)
    → kept_under token s.replies ≡ Some kept → Answer s (change token mark wanted) reply next
    → (reply ≡ repeat_reply mark kept) ⊎ (reply ≡ refusal Memory)
repeat_replied s token mark wanted reply next kept is answer = by_way answer.way answer.answers
  where
    decided : (verdict : Verdict) → DecidesChange s token mark wanted (kept_under token s.replies) verdict
        → verdict ≡ stays (repeat_reply mark kept)
    decided verdict decides = subst (λ (k : Option Kept). DecidesChange s token mark wanted k verdict) is decides

    by_way : (way : Way) → AnswersBy way s (change token mark wanted) reply next → (reply ≡ repeat_reply mark kept) ⊎ (reply ≡ refusal Memory)
    by_way (as_decided verdict) by = inl (by.1 ∙ ap verdict_reply (decided verdict by.0))
    by_way without_memory by = inr by.0
    by_way (vault_failed verdict) by = absurd (subst IsAccepted (decided verdict by.0) by.1)
    by_way (keeper_failed verdict) by = absurd (subst IsAccepted (decided verdict by.0) by.1)

-- So it is a repeat of what is kept.
repeated : (s : State) (token : List ℕ) (kept : Kept) (e : Exchange) (next : State) → kept_under token s.replies ≡ Some kept
    → Answer s e.request e.reply next → IsRepeat token kept e s next
repeated s token kept e next is answer mark wanted asks =
    let own : Answer s (change token mark wanted) e.reply next = subst (λ (q : Asked). Answer s q e.reply next) asks answer in
    (repeat_leaves s token mark wanted e.reply next kept is own, repeat_replied s token mark wanted e.reply next kept is own)

-- what was decided and accepted is kept
decided_kept : (s : State) (token mark : List ℕ) (wanted : Wanted) (reply : Reply) (next : State) (other : Reply) (after : State)
    → Decides s (change token mark wanted) (accepts other after) → reply ≡ other → next ≡ after
    → kept_under token next.replies ≡ Some (kept_reply token mark reply)
decided_kept s token mark wanted reply next other after decides said to =
    ap (λ (t : State). kept_under token t.replies) to ∙ accepted_kept s token mark wanted other after decides
    ∙ ap (λ (r : Reply). Some (kept_reply token mark r)) (sym said)

-- The reply to a change that changes the state is kept under its token.
changed_kept : (s : State) (token mark : List ℕ) (wanted : Wanted) (reply : Reply) (next : State) → next ≢ s
    → Answer s (change token mark wanted) reply next → kept_under token next.replies ≡ Some (kept_reply token mark reply)
changed_kept s token mark wanted reply next changes answer = by_way answer.way answer.answers
  where
    by_verdict : (verdict : Verdict) → Decides s (change token mark wanted) verdict → reply ≡ verdict_reply verdict
        → next ≡ state_after s verdict → kept_under token next.replies ≡ Some (kept_reply token mark reply)
    by_verdict (stays other) decides said to = absurd (changes to)
    by_verdict (accepts other after) decides said to = decided_kept s token mark wanted reply next other after decides said to

    by_way : (way : Way) → AnswersBy way s (change token mark wanted) reply next
        → kept_under token next.replies ≡ Some (kept_reply token mark reply)
    by_way (as_decided verdict) by = by_verdict verdict by.0 by.1 by.2
    by_way without_memory by = absurd (changes by.1)
    by_way (vault_failed verdict) by = absurd (changes by.4)
    by_way (keeper_failed verdict) by = absurd (changes by.3)

-- ---- what was granted is kept

-- what is kept under a token has it
kept_token : (token : List ℕ) (replies : List Kept) (kept : Kept) → kept_under token replies ≡ Some kept → kept.token ≡ token
kept_token token [] kept is = absurd (cc is)
kept_token token (k ∷ replies) kept is = cases (pointwise nat_eq k.token token) refl (kept_token token replies kept) is
  where
    cases : (here : Bool) → pointwise nat_eq k.token token ≡ here → (kept_under token replies ≡ Some kept → kept.token ≡ token)
        → cond here (Some k) (kept_under token replies) ≡ Some kept → kept.token ≡ token
    cases true same rest is =
        let one : k ≡ kept = cc is in
        ap (λ (x : Kept). x.token) (sym one) ∙ (bytes_decides k.token token).0 same
    cases false same rest is = rest is

-- no error is a status that is kept
error_ungranted : (reply : Reply) (cause : Refusal) → reply ≡ refusal cause → IsError (status_of cause) → ¬ IsKeptStatus reply.status
error_ungranted reply cause said error granted =
    error_unkept (status_of cause) error (subst (λ (r : Reply). IsKeptStatus r.status) said granted)

-- a repeat with a status that is kept is given what is kept, under its own mark
repeat_row : (token mark : List ℕ) (kept : Kept) (reply : Reply) → kept.token ≡ token → reply ≡ repeat_reply mark kept
    → IsKeptStatus reply.status → kept ≡ kept_reply token mark reply
repeat_row token mark kept reply named said granted = cases (pointwise nat_eq kept.mark mark) refl said
  where
    cases : (same : Bool) → pointwise nat_eq kept.mark mark ≡ same
        → reply ≡ (if same then json kept.status kept.body else refusal TokenUsed) → kept ≡ kept_reply token mark reply
    cases true same said =
        let marked : kept.mark ≡ mark = (bytes_decides kept.mark mark).0 same in
        ap (λ (t : List ℕ). record kept { token = t }) named ∙ ap (λ (m : List ℕ). record kept { token = token; mark = m }) marked
        ∙ ap (λ (r : Reply). kept_reply token mark r) (sym said)
    cases false same said = absurd (error_ungranted reply TokenUsed said (omega arith) granted)

-- so a repeat that is granted
repeat_granted : (s : State) (token mark : List ℕ) (wanted : Wanted) (reply : Reply) (next : State) (kept : Kept)
    → kept_under token s.replies ≡ Some kept → Answer s (change token mark wanted) reply next → IsKeptStatus reply.status
    → kept_under token next.replies ≡ Some (kept_reply token mark reply)
repeat_granted s token mark wanted reply next kept is answer granted =
    by_reply (repeat_replied s token mark wanted reply next kept is answer)
  where
    by_reply : (reply ≡ repeat_reply mark kept) ⊎ (reply ≡ refusal Memory) → kept_under token next.replies ≡ Some (kept_reply token mark reply)
    by_reply (inl said) =
        ap (λ (t : State). kept_under token t.replies) (repeat_leaves s token mark wanted reply next kept is answer) ∙ is
        ∙ ap (λ (k : Kept). Some k) (repeat_row token mark kept reply (kept_token token s.replies kept is) said granted)
    by_reply (inr said) = absurd (error_ungranted reply Memory said (omega arith) granted)

-- what a fresh command is refused with is an error
fresh_refused : (s : State) (token mark : List ℕ) (wanted : Command) (reply : Reply) → kept_under token s.replies ≡ None
    → Decides s (change token mark (command wanted)) (stays reply) → ¬ IsKeptStatus reply.status
fresh_refused s token mark wanted reply fresh decides =
    let Of : Option Kept → Type 0 = λ kept. DecidesChange s token mark (command wanted) kept (stays reply) in
    let of_fresh : Of None = subst Of fresh decides in
    by_decided of_fresh.0 of_fresh.1 of_fresh.2
  where
    by_decided : (decided : Verdict) → DecidesCommand s wanted decided → stays reply ≡ keeping token mark decided → ¬ IsKeptStatus reply.status
    by_decided (stays other) decides is =
        let same : reply ≡ other = ap verdict_reply is in
        refused_unkept s wanted reply (subst (λ (r : Reply). DecidesCommand s wanted (stays r)) (sym same) decides)
    by_decided (accepts other next) decides is = absurd (cc is)

-- and a fresh command that is granted
fresh_granted : (s : State) (token mark : List ℕ) (wanted : Command) (reply : Reply) (next : State) → kept_under token s.replies ≡ None
    → Answer s (change token mark (command wanted)) reply next → IsKeptStatus reply.status
    → kept_under token next.replies ≡ Some (kept_reply token mark reply)
fresh_granted s token mark wanted reply next fresh answer granted = by_way answer.way answer.answers
  where
    by_verdict : (verdict : Verdict) → Decides s (change token mark (command wanted)) verdict → reply ≡ verdict_reply verdict
        → next ≡ state_after s verdict → kept_under token next.replies ≡ Some (kept_reply token mark reply)
    by_verdict (stays other) decides said to =
        absurd (fresh_refused s token mark wanted other fresh decides (subst (λ (r : Reply). IsKeptStatus r.status) said granted))
    by_verdict (accepts other after) decides said to = decided_kept s token mark (command wanted) reply next other after decides said to

    by_way : (way : Way) → AnswersBy way s (change token mark (command wanted)) reply next
        → kept_under token next.replies ≡ Some (kept_reply token mark reply)
    by_way (as_decided verdict) by = by_verdict verdict by.0 by.1 by.2
    by_way without_memory by = absurd (error_ungranted reply Memory by.0 (omega arith) granted)
    by_way (vault_failed verdict) by = absurd (error_ungranted reply Vault by.3 (omega arith) granted)
    by_way (keeper_failed verdict) by = absurd (error_ungranted reply Keeper by.2 (omega arith) granted)

-- Where a command is granted, fresh or repeated, its reply is kept under its token from then on.
pub granted_kept : (s : State) (token mark : List ℕ) (wanted : Command) (reply : Reply) (next : State)
    → Answer s (change token mark (command wanted)) reply next → IsKeptStatus reply.status
    → kept_under token next.replies ≡ Some (kept_reply token mark reply)
granted_kept s token mark wanted reply next answer granted = by_kept (kept_under token s.replies) refl
  where
    by_kept : (kept : Option Kept) → kept_under token s.replies ≡ kept → kept_under token next.replies ≡ Some (kept_reply token mark reply)
    by_kept (Some kept) is = repeat_granted s token mark (command wanted) reply next kept is answer granted
    by_kept None fresh = fresh_granted s token mark wanted reply next fresh answer granted

-- ---- all requests

-- What is kept under a token is kept in every later state, so a token that was accepted acts once, however often it comes.
pub kept_for_good : (s : State) (exchanges : List Exchange) (last : State) (released : List ℕ) (token : List ℕ) (kept : Kept)
    → Answers s exchanges last released → kept_under token s.replies ≡ Some kept → kept_under token last.replies ≡ Some kept
kept_for_good s [] last released token kept answers is = ap (λ (t : State). kept_under token t.replies) answers.0 ∙ is
kept_for_good s (e ∷ exchanges) last released token kept answers is =
    kept_for_good answers.0 exchanges last answers.1 token kept answers.3
    (answer_keeps s e.request e.reply answers.0 token kept answers.2 is)

-- what was kept has each exchange under its token be a repeat
each_repeated : (s : State) (exchanges : List Exchange) (last : State) (released : List ℕ) (token : List ℕ) (kept : Kept)
    (answers : Answers s exchanges last released) → kept_under token s.replies ≡ Some kept
    → Each (IsRepeat token kept) s exchanges last released answers
each_repeated s [] last released token kept answers is = tt
each_repeated s (e ∷ exchanges) last released token kept answers is = (
  repeated s token kept e answers.0 is answers.2,
  each_repeated answers.0 exchanges last answers.1 token kept answers.3
      (answer_keeps s e.request e.reply answers.0 token kept answers.2 is),
)

-- From a state in which a token is kept, each change under it leaves the state and is given what is kept again, or is refused; and the
-- token is kept so in the end.
pub acts_once : (s : State) (exchanges : List Exchange) (last : State) (released : List ℕ) (token : List ℕ) (kept : Kept)
    (answers : Answers s exchanges last released) → kept_under token s.replies ≡ Some kept
    → Each (IsRepeat token kept) s exchanges last released answers × (kept_under token last.replies ≡ Some kept)
acts_once s exchanges last released token kept answers is =
    (each_repeated s exchanges last released token kept answers is, kept_for_good s exchanges last released token kept answers is)

-- From any state, of the changes under a token one at most changes the state, and each one behind it is a repeat of it.
pub accepted_once : (s : State) (exchanges : List Exchange) (last : State) (released : List ℕ) (token : List ℕ)
    (answers : Answers s exchanges last released) → ChangesOnce token s exchanges last released answers
accepted_once s [] last released token answers = tt
accepted_once s (e ∷ exchanges) last released token answers = (
  λ mark wanted asks changes. each_repeated answers.0 exchanges last answers.1 token (kept_reply token mark e.reply) answers.3
      (changed_kept s token mark wanted e.reply answers.0 changes (subst (λ (q : Asked). Answer s q e.reply answers.0) asks answers.2)),
  accepted_once answers.0 exchanges last answers.1 token answers.3,
)
