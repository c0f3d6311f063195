-- Which requests are passed, turn by turn, and how that ends, whatever the library holds.
use Rattle.std.proofs.Common.{◌≡◌, ◌⊎◌, inl, inr, ℕ, ◌+◌, suc, zero, Bool, true, false, List, [], ◌∷◌, ◌++◌, length, Option, Result, Ok, Err, refl, sym, ap, ◌∙◌, subst, arith, length-append}
use Rattle.std.specs.List.{AllByRecursion}
use Rattle.std.proofs.KnownBytes.{Consumes-nil, Consumes-trans}
use Rattle.httparse.specs.Grammar.{RequestHead}
use Rattle.lib_base.specs.declared.outcomes.Outside.{Outside}
use Rattle.lib_base.specs.declared.outcomes.Outside.TheVariants as outside
use Rattle.lib_base.specs.Sources.{SourceView}
use Rattle.lib_base.specs.Writes.{SinkView}
use Rattle.http_model.specs.declared.refusals.FramingRefusal.{FramingRefusal}
use Rattle.http_model.specs.declared.refusals.FramingRefusal.TheVariants.{Frame}
use Rattle.http_model.specs.Refusals.{framing_refusal}
use Rattle.http_model.specs.Requests.{Framed, IsUnframeable, SoFar, closes, ended, unframeable}
use Rattle.http_model.proofs.RunLaws.{AreRequests-from, SoFar-ended, SoFar-passes, SoFar-reads, SoFar-refused, SoFar-start}
use Rattle.http_inbox.specs.declared.requests.Next.TheVariants as next
use Rattle.http_inbox.specs.declared.requests.Request.{Request}
use Rattle.http_inbox.specs.Nexts.{ReadsNext, behind}
use Rattle.http_inbox.proofs.CoversLaws.{Covers-closed, Covers-ended, Covers-front, Covers-refused, Covers-turns}
use Rattle.library_http.specs.declared.serving.How.{How}
use Rattle.library_http.specs.declared.serving.How.TheVariants as how
use Rattle.library_http.specs.declared.serving.Turn.{Turn}
use Rattle.library_http.specs.declared.serving.Turn.TheVariants.{Answered, Closed, Stopped}
use Rattle.library_http.specs.Framings.{AllStay, FramesAs, IsFramed}
use Rattle.library_http.specs.Turns.{ClosesAs, Finds, FindsAtLimit, FindsNone, Passed, RefusesBy, TakesFinding, TurnFinds, turn_of}
use Rattle.library_http.proofs.Turning.{found}

-- ---- what a turn finds

-- A turn closes as the request does that it answered.
pub ClosesAs-written : (shuts : Bool) (written : Result (Unit {0}) Outside) (turn : Turn) (head : RequestHead) → turn ≡ turn_of shuts written
    → shuts ≡ closes head → ClosesAs turn head
ClosesAs-written shuts written turn head is same = subst (λ (t : Turn). ClosesAs t head) (sym is) (by_case shuts written same)
  where
    by_case : (shuts : Bool) (written : Result (Unit {0}) Outside) → shuts ≡ closes head → ClosesAs (turn_of shuts written) head
    by_case false (Ok done) same = sym same
    by_case true (Ok done) same = sym same
    by_case shuts (Err outside.Failed) same = tt
    by_case shuts (Err outside.Memory) same = tt

-- A request was read, and then answered.
pub TurnFinds-framed : (turn : Turn) (held inbox held_now : List ℕ) (request : Request) (source0 source1 : SourceView)
    → (reads : ReadsNext source0 source1 held inbox (next.Framed request)) → held_now ≡ behind inbox request → ClosesAs turn reads.found.head
    → TurnFinds turn held held_now source0 source1
TurnFinds-framed Answered held inbox held_now request source0 source1 reads passed stays =
    (found held inbox held_now request source0 source1 reads passed, stays)
TurnFinds-framed Closed held inbox held_now request source0 source1 reads passed shuts =
    (found held inbox held_now request source0 source1 reads passed, shuts)
TurnFinds-framed (Stopped how.SinkFault) held inbox held_now request source0 source1 reads passed any =
    record { taken = reads.taken; content = reads.content; found = tt }
TurnFinds-framed (Stopped how.Memory) held inbox held_now request source0 source1 reads passed any =
    record { taken = reads.taken; content = reads.content; found = tt }
TurnFinds-framed (Stopped how.Ended) held inbox held_now request source0 source1 reads passed none = absurd none
TurnFinds-framed (Stopped how.Unframeable) held inbox held_now request source0 source1 reads passed none = absurd none
TurnFinds-framed (Stopped how.Turns) held inbox held_now request source0 source1 reads passed none = absurd none
TurnFinds-framed (Stopped how.SourceFault) held inbox held_now request source0 source1 reads passed none = absurd none

-- What can't be framed was refused.
pub TakesFinding-refused : (end : How) (held inbox : List ℕ) (cause : FramingRefusal) (source0 source1 : SourceView) (sink0 sink1 : SinkView)
    → ReadsNext source0 source1 held inbox (next.Refused cause) → RefusesBy end cause sink0 sink1
    → TakesFinding held source0 source1 (FindsNone end)
TakesFinding-refused how.Unframeable held inbox cause source0 source1 sink0 sink1 reads refuses =
    record { taken = reads.taken; content = reads.content; found = (cause, reads.found) }
TakesFinding-refused how.SinkFault held inbox cause source0 source1 sink0 sink1 reads refuses =
    record { taken = reads.taken; content = reads.content; found = tt }
TakesFinding-refused how.Memory held inbox cause source0 source1 sink0 sink1 reads refuses =
    record { taken = reads.taken; content = reads.content; found = tt }
TakesFinding-refused how.Ended held inbox cause source0 source1 sink0 sink1 reads none = absurd none
TakesFinding-refused how.Turns held inbox cause source0 source1 sink0 sink1 reads none = absurd none
TakesFinding-refused how.SourceFault held inbox cause source0 source1 sink0 sink1 reads none = absurd none

-- ---- turn by turn

-- Nothing was passed.
pub Passed-none : (most : ℕ) (source : SourceView) → Passed most most 0 [] source source
Passed-none most source = record {
  taken = [];
  content = Consumes-nil source.left;
  requests = [];
  counted = refl;
  stay = tt;
  so_far = SoFar-start most [];
}

-- one more that stays
stay_more : (requests : List Framed) (q : Framed) → AllStay requests → closes q.head ≡ false → AllStay (requests ++ q ∷ [])
stay_more [] q all stays = (stays, tt)
stay_more (first ∷ requests) q all stays = (all.0, stay_more requests q all.1 stays)

-- one more is counted
counted_more : (answered : ℕ) (requests : List Framed) (q : Framed) → answered ≡ length requests → answered + 1 ≡ length (requests ++ q ∷ [])
counted_more answered requests q counted =
    let longer : length (requests ++ q ∷ []) ≡ length requests + 1 = length-append requests (q ∷ []) in
    omega (arith, counted, longer)

-- A request was passed that stays.
pub Passed-turn : (most more answered : ℕ) (held held_now : List ℕ) (source0 source1 source2 : SourceView)
    → Passed most (suc more) answered held source0 source1 → (finds : Finds held held_now source1 source2) → closes finds.framed.head ≡ false
    → Passed most more (answered + 1) held_now source0 source2
Passed-turn most more answered held held_now source0 source1 source2 passed finds stays = record {
  taken = passed.taken ++ finds.taken;
  content = Consumes-trans source0.left source1.left source2.left passed.taken finds.taken passed.content finds.content;
  requests = passed.requests ++ finds.framed ∷ [];
  counted = counted_more answered passed.requests finds.framed passed.counted;
  stay = stay_more passed.requests finds.framed passed.stay stays;
  so_far = SoFar-passes most more (passed.taken ++ finds.taken) (held ++ finds.taken) held_now passed.requests finds.framed
      (SoFar-reads most (suc more) passed.taken held finds.taken passed.requests passed.so_far) finds.frames stays;
}

-- One that closes ends the session.
pub Passed-closed : (most more answered : ℕ) (held held_now : List ℕ) (source0 source1 source2 : SourceView)
    → Passed most (suc more) answered held source0 source1 → (finds : Finds held held_now source1 source2) → closes finds.framed.head ≡ true
    → IsFramed how.Ended most (answered + 1) source0 source2
Passed-closed most more answered held held_now source0 source1 source2 passed finds shuts = record {
  taken = passed.taken ++ finds.taken;
  content = Consumes-trans source0.left source1.left source2.left passed.taken finds.taken passed.content finds.content;
  requests = passed.requests ++ finds.framed ∷ [];
  counted = counted_more answered passed.requests finds.framed passed.counted;
  ends = Covers-closed source2.left most more (passed.taken ++ finds.taken) (held ++ finds.taken) held_now passed.requests finds.framed
      (SoFar-reads most (suc more) passed.taken held finds.taken passed.requests passed.so_far) finds.frames shuts;
}

-- ---- the ends

-- no byte is left of what was taken
none_left : (most more : ℕ) (taken bytes : List ℕ) (requests : List Framed) → bytes ≡ [] → SoFar most more taken bytes requests
    → SoFar most more taken [] requests
none_left most more taken bytes requests none so_far = subst (λ (b : List ℕ). SoFar most more taken b requests) none so_far

-- what was passed, where a turn stopped so
stops_as : (end : How) (left : Option (List ℕ)) (most more : ℕ) (taken bytes : List ℕ) (requests : List Framed)
    → SoFar most (suc more) taken bytes requests → AllStay requests → FindsNone end left bytes → FramesAs end most left taken requests
stops_as how.Ended left most more taken bytes requests so_far stay none =
    Covers-ended left most (suc more) taken requests none.1 (none_left most (suc more) taken bytes requests none.0 so_far)
stops_as how.Unframeable left most more taken bytes requests so_far stay (cause, refused) =
    (cause, Covers-refused left most more taken bytes requests cause so_far refused)
stops_as how.Turns left most more taken bytes requests so_far stay none = absurd none
stops_as how.SourceFault left most more taken bytes requests so_far stay (inl none) = record {
  end = ended;
  are = AreRequests-from most taken requests ended
      (SoFar-ended most (suc more) taken requests (none_left most (suc more) taken bytes requests none so_far));
  stay = stay;
  cut = inl refl;
}
stops_as how.SourceFault left most more taken bytes requests so_far stay (inr is) = record {
  end = unframeable (framing_refusal Frame);
  are = AreRequests-from most taken requests (unframeable (framing_refusal Frame))
      (SoFar-refused most more taken bytes requests Frame so_far is);
  stay = stay;
  cut = inr refl;
}
stops_as how.SinkFault left most more taken bytes requests so_far stay any = Covers-front left most (suc more) taken bytes requests so_far
stops_as how.Memory left most more taken bytes requests so_far stay any = Covers-front left most (suc more) taken bytes requests so_far

-- A turn stopped the session.
pub Passed-stopped : (end : How) (most more answered : ℕ) (held : List ℕ) (source0 source1 source2 : SourceView)
    → Passed most (suc more) answered held source0 source1 → TakesFinding held source1 source2 (FindsNone end)
    → IsFramed end most answered source0 source2
Passed-stopped end most more answered held source0 source1 source2 passed takes = record {
  taken = passed.taken ++ takes.taken;
  content = Consumes-trans source0.left source1.left source2.left passed.taken takes.taken passed.content takes.content;
  requests = passed.requests;
  counted = passed.counted;
  ends = stops_as end source2.left most more (passed.taken ++ takes.taken) (held ++ takes.taken) passed.requests
      (SoFar-reads most (suc more) passed.taken held takes.taken passed.requests passed.so_far) passed.stay takes.found;
}

-- what was passed, where as many were answered as may be
limit_as : (end : How) (left : Option (List ℕ)) (most : ℕ) (taken bytes : List ℕ) (requests : List Framed)
    → SoFar most zero taken bytes requests → AllStay requests → FindsAtLimit end left bytes → FramesAs end most left taken requests
limit_as how.Ended left most taken bytes requests so_far stay none =
    Covers-ended left most zero taken requests none.1 (none_left most zero taken bytes requests none.0 so_far)
limit_as how.Turns left most taken bytes requests so_far stay some = Covers-turns left most taken bytes requests some so_far
limit_as how.SourceFault left most taken bytes requests so_far stay none = record {
  end = ended;
  are = AreRequests-from most taken requests ended
      (SoFar-ended most zero taken requests (none_left most zero taken bytes requests none so_far));
  stay = stay;
  cut = inl refl;
}
limit_as how.Unframeable left most taken bytes requests so_far stay none = absurd none
limit_as how.SinkFault left most taken bytes requests so_far stay none = absurd none
limit_as how.Memory left most taken bytes requests so_far stay none = absurd none

-- As many were answered as may be, and one byte more was looked for.
pub Passed-limit : (end : How) (most answered : ℕ) (held : List ℕ) (source0 source1 source2 : SourceView)
    → Passed most zero answered held source0 source1 → TakesFinding held source1 source2 (FindsAtLimit end)
    → IsFramed end most answered source0 source2
Passed-limit end most answered held source0 source1 source2 passed takes = record {
  taken = passed.taken ++ takes.taken;
  content = Consumes-trans source0.left source1.left source2.left passed.taken takes.taken passed.content takes.content;
  requests = passed.requests;
  counted = passed.counted;
  ends = limit_as end source2.left most (passed.taken ++ takes.taken) (held ++ takes.taken) passed.requests
      (SoFar-reads most zero passed.taken held takes.taken passed.requests passed.so_far) passed.stay takes.found;
}

-- No memory was found to begin.
pub IsFramed-unread : (most : ℕ) (source : SourceView) → IsFramed how.Memory most 0 source source
IsFramed-unread most source = record {
  taken = [];
  content = Consumes-nil source.left;
  requests = [];
  counted = refl;
  ends = inr (λ more. tt);
}
