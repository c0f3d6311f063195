-- What is replied to a request, and what writing it makes of the turn.
use Rattle.std.proofs.Common.{◌≡◌, ℕ, Bool, true, false, List, [], Option, None, Some, Result, Ok, Err, IfOk, refl, sym, ap, ◌∙◌, subst}
use Rattle.std.specs.Result.{result_ok}
use Rattle.lib_base.specs.declared.outcomes.Memory.{Memory}
use Rattle.lib_base.specs.declared.outcomes.Outside.{Outside}
use Rattle.lib_base.specs.declared.outcomes.Outside.TheVariants as outside
use Rattle.lib_base.specs.Writes.{SinkView, WritesAll}
use Rattle.library_model.specs.declared.messages.Question.{Question}
use Rattle.library_model.specs.declared.messages.Reply.{Reply}
use Rattle.library_model.specs.Asked.{Asked, Wanted, change, malformed, question, refused}
use Rattle.library_model.specs.Machine.{Decides, kept_under, question_reply, stays}
use Rattle.library_model.specs.State.{State}
use Rattle.library_model.proofs.Exits.{malformed_exit}
use Rattle.library_model.proofs.Statuses.{RefusesBelow}
use Rattle.http_model.specs.Asking.{allows_of, asked_of}
use Rattle.http_model.specs.Exchanges.{allows_in, spelled_to}
use Rattle.http_model.specs.Requests.{Framed, closes}
use Rattle.http_model.proofs.AskingLaws.{allows_in-change, allows_in-memory, allows_in-question, allows_in-refused}
use Rattle.http_model.proofs.AskingStatuses.{asked_of-below}
use Rattle.catalogue_core.specs.Kept.{Keeps}
use Rattle.library_http.specs.declared.serving.Turn.{Turn}
use Rattle.library_http.specs.Acts.{Acts}
use Rattle.library_http.specs.Turns.{TurnsOn, allowed_in, reply_given, turn_of}
use Rattle.library_http.specs.World.{World}
use Rattle.library_http.proofs.Acting.{Acts-decided, Acts-unread}

-- ---- requests that change nothing

-- A request that is refused before the library is looked at.
pub Acts-refused : (s : State) (q : Framed) (reply : Reply) (w : World) → Keeps w.library s → refused reply ≡ asked_of q
    → Acts s (asked_of q) reply w w
Acts-refused s q reply w keeps is =
    Acts-decided s (asked_of q) reply w keeps (asked_of-below q) (subst (λ (a : Asked). Decides s a (stays reply)) is refl)

-- A question that was answered from the state, or for which memory was wanting.
pub Acts-asked : (s : State) (q : Framed) (about : Question) (answered : Result Reply Memory) (given : Option Reply) (w : World)
    → Keeps w.library s → question about ≡ asked_of q → given ≡ result_ok answered
    → IfOk answered (λ reply. reply ≡ question_reply s about) → Acts s (asked_of q) (reply_given given) w w
Acts-asked s q about answered given w keeps asks is answers =
    subst (λ (o : Option Reply). Acts s (asked_of q) (reply_given o) w w) (sym is) (by_case answered answers)
  where
    by_case : (answered : Result Reply Memory) → IfOk answered (λ reply. reply ≡ question_reply s about)
        → Acts s (asked_of q) (reply_given (result_ok answered)) w w
    by_case (Ok reply) answers =
        Acts-decided s (asked_of q) reply w keeps (asked_of-below q)
        (subst (λ (a : Asked). Decides s a (stays reply)) asks (ap stays answers))
    by_case (Err e) answers = Acts-unread s (asked_of q) w keeps

-- A change of a fresh token that breaks its form.
pub Acts-malformed : (s : State) (token mark : List ℕ) (wanted : Wanted) (reply : Reply) (w : World) → Keeps w.library s
    → kept_under token s.replies ≡ None → RefusesBelow (change token mark wanted) → malformed reply ≡ wanted
    → Acts s (change token mark wanted) reply w w
Acts-malformed s token mark wanted reply w keeps fresh below is =
    Acts-decided s (change token mark wanted) reply w keeps below
    (subst (λ (wants : Wanted). Decides s (change token mark wants) (stays reply)) is (malformed_exit s token mark reply fresh))

-- ---- the methods that a reply names

-- those of what is refused
pub allows_refused : (q : Framed) (reply : Reply) (methods : List (List ℕ)) → refused reply ≡ asked_of q → methods ≡ allows_of q
    → methods ≡ allows_in q reply
allows_refused q reply methods is named = named ∙ sym (allows_in-refused q reply (sym is))

-- those of a question: none
pub allows_asked : (q : Framed) (about : Question) (given : Option Reply) → question about ≡ asked_of q
    → allowed_in given [] ≡ allows_in q (reply_given given)
allows_asked q about (Some reply) is = sym (allows_in-question q about reply (sym is))
allows_asked q about None is = sym (allows_in-memory q)

-- those of a change: none
pub allows_changed : (q : Framed) (token mark : List ℕ) (wanted : Wanted) (given : Option Reply) → change token mark wanted ≡ asked_of q
    → allowed_in given [] ≡ allows_in q (reply_given given)
allows_changed q token mark wanted (Some reply) is = sym (allows_in-change q token mark wanted reply (sym is))
allows_changed q token mark wanted None is = sym (allows_in-memory q)

-- ---- what a turn does

-- A request was answered, and its reply was written, whole or in part.
pub TurnsOn-written : (s : State) (q : Framed) (reply : Reply) (shuts : Bool) (written : Result (Unit {0}) Outside) (turn : Turn)
    (sink0 sink1 : SinkView) (w0 w1 : World) → turn ≡ turn_of shuts written → shuts ≡ closes q.head → Acts s (asked_of q) reply w0 w1
    → WritesAll sink0 sink1 (spelled_to q reply) written → TurnsOn turn s q sink0 sink1 w0 w1
TurnsOn-written s q reply shuts written turn sink0 sink1 w0 w1 is same acts writes =
    subst (λ (t : Turn). TurnsOn t s q sink0 sink1 w0 w1) (sym is) (by_case shuts written same writes)
  where
    by_case : (shuts : Bool) (written : Result (Unit {0}) Outside) → shuts ≡ closes q.head → WritesAll sink0 sink1 (spelled_to q reply) written
        → TurnsOn (turn_of shuts written) s q sink0 sink1 w0 w1
    by_case false (Ok done) same writes = (sym same, record { reply = reply; acts = acts; written = writes.whole })
    by_case true (Ok done) same writes = (sym same, record { reply = reply; acts = acts; written = writes.whole })
    by_case shuts (Err outside.Failed) same writes = record { reply = reply; acts = acts; written = writes.part }
    by_case shuts (Err outside.Memory) same writes = record { reply = reply; acts = acts; written = writes.part }
