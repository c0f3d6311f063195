-- What serving does, one turn in front of others.
use Rattle.std.proofs.Common.{◌≡◌, ◌≢◌, ◌⊎◌, inl, inr, ℕ, ◌+◌, suc, true, List, [], ◌∷◌, ◌++◌, refl, sym, ap, ◌∙◌, subst, append_assoc, append-nil, arith}
use Rattle.std.specs.Io.KnownBytes.{Appends, Consumes, IsAtEnd}
use Rattle.std.proofs.KnownBytes.{Appends-nil, Consumes-trans}
use Rattle.lib_base.specs.Sources.{SourceView}
use Rattle.lib_base.specs.Writes.{AppendsPart, SinkView}
use Rattle.library_model.specs.declared.messages.Reply.{Reply}
use Rattle.library_model.specs.Machine.{AnswersBy, Way, as_decided, keeper_failed, vault_failed, without_memory}
use Rattle.library_model.specs.State.{State}
use Rattle.library_model.proofs.Statuses.{Decides-IsBelow}
use Rattle.http_model.specs.Asking.{asked_of}
use Rattle.http_model.specs.Exchanges.{exchange, answered_all, spelled_to, ending}
use Rattle.http_model.specs.Requests.{AreRequests, End, Framed, Frames, IsUnframeable, closes, ended, unframeable}
use Rattle.http_model.specs.declared.refusals.FramingRefusal.{FramingRefusal}
use Rattle.http_model.specs.declared.refusals.FramingRefusal.TheVariants.{Frame}
use Rattle.http_model.specs.Refusals.{framing_refusal}
use Rattle.http_model.proofs.AskingStatuses.{asked_of-below}
use Rattle.library_http.proofs.Fronts.{AreRequests-closing, AreRequests-refused, AreRequests-none, AreRequests-turns, IsFront-one}
use Rattle.http_inbox.specs.Inboxes.{Covers}
use Rattle.http_inbox.proofs.CoversLaws.{Covers-weaker}
use Rattle.catalogue_core.specs.Kept.{Keeps}
use Rattle.library_http.specs.declared.serving.How.{How}
use Rattle.library_http.specs.declared.serving.How.TheVariants.{Ended, Turns, Unframeable, SourceFault, SinkFault, Memory}
use Rattle.library_http.specs.Acts.{Acts}
use Rattle.library_http.specs.Sessions.{BreaksOff, BreaksOffAtEnd, CutShort, EndsAs, Serves, Session, damaged_status}
use Rattle.library_http.specs.Turns.{Finds, GoesOn, PartlyReplied, RefusesBy, Replied, SoFar, StopsIn}
use Rattle.library_http.specs.World.{World}
use Rattle.library_http.proofs.Ending.{EndsAs-cons, Precedes}
use Rattle.library_http.proofs.Goings.{Appends-part_only}
use Rattle.library_http.proofs.Making.{Made-none, Made-cons}

-- No reply tells of a damaged file.
undamaged : (s : State) (q : Framed) (reply : Reply) (w0 w1 : World) → Keeps w0.library s → Acts s (asked_of q) reply w0 w1
    → reply.status ≢ damaged_status
undamaged s q reply w0 w1 keeps acts = by_way acts.answers.way acts.answers.answers
  where
    by_way : (way : Way) → AnswersBy way s (asked_of q) reply acts.next → reply.status ≢ damaged_status
    by_way (as_decided verdict) answers is =
        let below = Decides-IsBelow s (asked_of q) verdict keeps.valid (asked_of-below q) answers.0 in
        let said = ap (λ (r : Reply). r.status) answers.1 in
        absurd (omega (arith, below, said, is))
    by_way without_memory answers is = let said = ap (λ (r : Reply). r.status) answers.0 in absurd (omega (arith, said, is))
    by_way (vault_failed verdict) answers is = let said = ap (λ (r : Reply). r.status) answers.3 in absurd (omega (arith, said, is))
    by_way (keeper_failed verdict) answers is = let said = ap (λ (r : Reply). r.status) answers.2 in absurd (omega (arith, said, is))

-- ---- serving that goes on

-- what was found begins what was held and taken, and what is held now and taken then follows it
found_first : (held held_now later : List ℕ) (source0 source1 : SourceView) (finds : Finds held held_now source0 source1)
    → Precedes (held ++ (finds.taken ++ later)) (held_now ++ later) finds.framed
found_first held held_now later source0 source1 finds more =
    subst (λ (bytes : List ℕ). Frames bytes finds.framed ((held_now ++ later) ++ more)) joined
    (subst (Frames ((held ++ finds.taken) ++ (later ++ more)) finds.framed) (sym (append_assoc held_now later more))
    (finds.frames (later ++ more)))
  where
    joined : (held ++ finds.taken) ++ (later ++ more) ≡ (held ++ (finds.taken ++ later)) ++ more
    joined = simp append_assoc

-- A request that stays was answered and replied to, and then serving ended so: so did serving with it.
pub Serves-cons : (s : State) (most : ℕ) (how : How) (answered : ℕ) (held held_now : List ℕ) (source0 source1 source2 : SourceView)
    (sink0 sink1 sink2 : SinkView) (w0 w1 w2 : World) → Keeps w0.library s
    → (goes : GoesOn s held held_now source0 source1 sink0 sink1 w0 w1)
    → Serves held_now most goes.replied.acts.next how answered source1 source2 sink1 sink2 w1 w2
    → Serves held (suc most) s how (suc answered) source0 source2 sink0 sink2 w0 w2
Serves-cons s most how answered held held_now source0 source1 source2 sink0 sink1 sink2 w0 w1 w2 keeps goes serves =
    let finds = goes.finds in
    let q = finds.framed in
    let reply = goes.replied.reply in
    record {
      taken = finds.taken ++ serves.taken;
      content = Consumes-trans source0.left source1.left source2.left finds.taken serves.taken finds.content serves.content;
      exchanges = exchange q reply ∷ serves.exchanges;
      made = Made-cons s (asked_of q) reply (answered_all serves.exchanges) w0 w1 w2 keeps goes.replied.acts serves.made;
      undamaged = (undamaged s q reply w0 w1 keeps goes.replied.acts, serves.undamaged);
      ends = EndsAs-cons how most answered source2.left (held ++ (finds.taken ++ serves.taken)) (held_now ++ serves.taken) q reply
          serves.exchanges sink0.written sink1.written sink2.written
          (found_first held held_now serves.taken source0 source1 finds) goes.stays goes.replied.written serves.ends;
    }

-- Nothing was served.
pub SoFar-none : (most : ℕ) (start : State) (source : SourceView) (sink : SinkView) (w : World) → Keeps w.library start
    → SoFar most most start 0 [] source source sink sink w w
SoFar-none most start source sink w keeps = record {
  state = start;
  keeps = keeps;
  goes = λ end count source_end sink_end at_end serves.
      subst (λ (n : ℕ). Session most start end n source source_end sink sink_end w at_end) (counted count) serves;
} where
  counted : (count : ℕ) → count ≡ 0 + count
  counted count = omega arith

-- One turn more.
pub SoFar-turn : (most more : ℕ) (start : State) (answered : ℕ) (held held_now : List ℕ) (source0 source1 source2 : SourceView)
    (sink0 sink1 sink2 : SinkView) (w0 w1 w2 : World) → (so_far : SoFar most (suc more) start answered held source0 source1 sink0 sink1 w0 w1)
    → GoesOn so_far.state held held_now source1 source2 sink1 sink2 w1 w2
    → SoFar most more start (answered + 1) held_now source0 source2 sink0 sink2 w0 w2
SoFar-turn most more start answered held held_now source0 source1 source2 sink0 sink1 sink2 w0 w1 w2 so_far goes = record {
  state = goes.replied.acts.next;
  keeps = goes.replied.acts.leads.keeps;
  goes = λ end count source_end sink_end at_end serves.
      subst (λ (n : ℕ). Session most start end n source0 source_end sink0 sink_end w0 at_end) (counted count)
      (so_far.goes end (suc count) source_end sink_end at_end
      (Serves-cons so_far.state more end count held held_now source1 source2 source_end sink1 sink2 sink_end w1 w2 at_end
      so_far.keeps goes serves));
} where
  counted : (count : ℕ) → answered + suc count ≡ answered + 1 + count
  counted count = omega arith

-- Serving the rest ended so.
pub SoFar-ends : (most more : ℕ) (start : State) (answered count all : ℕ) (how : How) (held : List ℕ) (source0 source1 source2 : SourceView)
    (sink0 sink1 sink2 : SinkView) (w0 w1 w2 : World) → (so_far : SoFar most more start answered held source0 source1 sink0 sink1 w0 w1)
    → Serves held more so_far.state how count source1 source2 sink1 sink2 w1 w2 → all ≡ answered + count
    → Session most start how all source0 source2 sink0 sink2 w0 w2
SoFar-ends most more start answered count all how held source0 source1 source2 sink0 sink1 sink2 w0 w1 w2 so_far serves is =
    subst (λ (n : ℕ). Session most start how n source0 source2 sink0 sink2 w0 w2) (sym is)
    (so_far.goes how count source2 sink2 w2 serves)

-- ---- serving that ends with a request

-- A request that closes was answered and replied to.
pub Serves-closed : (s : State) (more : ℕ) (held held_now : List ℕ) (source0 source1 : SourceView) (sink0 sink1 : SinkView) (w0 w1 : World)
    → Keeps w0.library s → (finds : Finds held held_now source0 source1) → closes finds.framed.head ≡ true
    → Replied s finds.framed sink0 sink1 w0 w1 → Serves held (suc more) s Ended 1 source0 source1 sink0 sink1 w0 w1
Serves-closed s more held held_now source0 source1 sink0 sink1 w0 w1 keeps finds shuts replied =
    let q = finds.framed in
    record {
      taken = finds.taken;
      content = finds.content;
      exchanges = exchange q replied.reply ∷ [];
      made = Made-cons s (asked_of q) replied.reply [] w0 w1 w1 keeps replied.acts
          (Made-none replied.acts.next w1 replied.acts.leads.keeps);
      undamaged = (undamaged s q replied.reply w0 w1 keeps replied.acts, tt);
      ends = record {
        requests = inr (λ rest. AreRequests-closing more ((held ++ finds.taken) ++ rest) (held_now ++ rest) q (finds.frames rest) shuts);
        counted = refl;
        written = subst (Appends sink0.written sink1.written) (sym (append-nil (spelled_to q replied.reply ++ []) ∙ append-nil (spelled_to q replied.reply)))
            replied.written;
      };
    }

-- The request was answered, and a part of its reply was written.
pub Serves-broke : (s : State) (more : ℕ) (how : How) (held held_now : List ℕ) (source0 source1 : SourceView) (sink0 sink1 : SinkView)
    (w0 w1 : World) → Keeps w0.library s → (finds : Finds held held_now source0 source1)
    → StopsIn how s finds.framed sink0 sink1 w0 w1 → Serves held (suc more) s how 0 source0 source1 sink0 sink1 w0 w1
Serves-broke s more how held held_now source0 source1 sink0 sink1 w0 w1 keeps finds stops = by_how how stops
  where
    q : Framed
    q = finds.framed

    serves : (how : How) (partly : PartlyReplied s q sink0 sink1 w0 w1)
        → (BreaksOff (suc more) 0 source1.left (held ++ finds.taken) (exchange q partly.reply ∷ []) sink0.written sink1.written
        → EndsAs how (suc more) 0 source1.left (held ++ finds.taken) (exchange q partly.reply ∷ []) sink0.written sink1.written)
        → Serves held (suc more) s how 0 source0 source1 sink0 sink1 w0 w1
    serves how partly ends = record {
      taken = finds.taken;
      content = finds.content;
      exchanges = exchange q partly.reply ∷ [];
      made = Made-cons s (asked_of q) partly.reply [] w0 w1 w1 keeps partly.acts (Made-none partly.acts.next w1 partly.acts.leads.keeps);
      undamaged = (undamaged s q partly.reply w0 w1 keeps partly.acts, tt);
      ends = ends (record {
        whole = [];
        last = exchange q partly.reply;
        are = refl;
        requests = inr (λ rest. IsFront-one more ((held ++ finds.taken) ++ rest) (held_now ++ rest) q (finds.frames rest));
        counted = refl;
        written = Appends-part_only sink0.written sink0.written sink1.written [] (spelled_to q partly.reply) (Appends-nil sink0.written) partly.written;
      });
    }

    by_how : (how : How) → StopsIn how s q sink0 sink1 w0 w1 → Serves held (suc more) s how 0 source0 source1 sink0 sink1 w0 w1
    by_how SinkFault partly = serves SinkFault partly (λ breaks. inl breaks)
    by_how Memory partly = serves Memory partly (λ breaks. inl breaks)
    by_how Ended partly = absurd partly
    by_how Turns partly = absurd partly
    by_how Unframeable partly = absurd partly
    by_how SourceFault partly = absurd partly

-- ---- serving that ends where no request is

-- Serving that made nothing.
serves_none : (s : State) (most : ℕ) (how : How) (held taken : List ℕ) (source0 source1 : SourceView) (sink0 sink1 : SinkView) (w : World)
    → Keeps w.library s → Consumes source0.left source1.left taken
    → EndsAs how most 0 source1.left (held ++ taken) [] sink0.written sink1.written
    → Serves held most s how 0 source0 source1 sink0 sink1 w w
serves_none s most how held taken source0 source1 sink0 sink1 w keeps content ends = record {
  taken = taken;
  content = content;
  exchanges = [];
  made = Made-none s w keeps;
  undamaged = tt;
  ends = ends;
}

-- No byte is left.
pub Serves-ended : (s : State) (most : ℕ) (held taken : List ℕ) (source0 source1 : SourceView) (sink : SinkView) (w : World)
    → Keeps w.library s → Consumes source0.left source1.left taken → held ++ taken ≡ [] → IsAtEnd source1.left
    → Serves held most s Ended 0 source0 source1 sink sink w w
Serves-ended s most held taken source0 source1 sink w keeps content none at_end =
    serves_none s most Ended held taken source0 source1 sink sink w keeps content (record {
      requests = inl (at_end, AreRequests-none most (held ++ taken) none);
      counted = refl;
      written = Appends-nil sink.written;
    })

-- What is left can't be framed, and its refusal was written, whole or in part.
pub Serves-refused : (s : State) (more : ℕ) (how : How) (refusal : FramingRefusal) (held taken : List ℕ) (source0 source1 : SourceView)
    (sink0 sink1 : SinkView) (w : World) → Keeps w.library s → Consumes source0.left source1.left taken
    → Covers source1.left (held ++ taken) (λ bytes. IsUnframeable bytes refusal) → RefusesBy how refusal sink0 sink1
    → Serves held (suc more) s how 0 source0 source1 sink0 sink1 w w
Serves-refused s more how refusal held taken source0 source1 sink0 sink1 w keeps content unframed refuses =
    serves_none s (suc more) how held taken source0 source1 sink0 sink1 w keeps content (by_how how refuses)
  where
    requests : Covers source1.left (held ++ taken) (λ bytes. AreRequests (suc more) bytes [] (unframeable (framing_refusal refusal)))
    requests = Covers-weaker source1.left (held ++ taken) (λ bytes. IsUnframeable bytes refusal)
        (λ bytes. AreRequests (suc more) bytes [] (unframeable (framing_refusal refusal)))
        (λ bytes is. AreRequests-refused more bytes refusal is) unframed

    breaks : AppendsPart sink0.written sink1.written (ending (unframeable (framing_refusal refusal)))
        → BreaksOffAtEnd (suc more) 0 source1.left (held ++ taken) [] sink0.written sink1.written
    breaks part = record {
      cause = refusal;
      requests = requests;
      counted = refl;
      written = Appends-part_only sink0.written sink0.written sink1.written [] (ending (unframeable (framing_refusal refusal))) (Appends-nil sink0.written) part;
    }

    by_how : (how : How) → RefusesBy how refusal sink0 sink1
        → EndsAs how (suc more) 0 source1.left (held ++ taken) [] sink0.written sink1.written
    by_how Unframeable written = (refusal, record { requests = requests; counted = refl; written = written })
    by_how SinkFault part = inr (breaks part)
    by_how Memory part = inr (inl (breaks part))
    by_how Ended none = absurd none
    by_how Turns none = absurd none
    by_how SourceFault none = absurd none

-- The source failed where no byte was left, or none that can be framed as they are.
pub Serves-fault : (s : State) (more : ℕ) (held taken : List ℕ) (source0 source1 : SourceView) (sink : SinkView) (w : World)
    → Keeps w.library s → Consumes source0.left source1.left taken → (held ++ taken ≡ []) ⊎ IsUnframeable (held ++ taken) Frame
    → Serves held (suc more) s SourceFault 0 source0 source1 sink sink w w
Serves-fault s more held taken source0 source1 sink w keeps content cut =
    serves_none s (suc more) SourceFault held taken source0 source1 sink sink w keeps content (by_case cut)
  where
    cut_at : (end : End) → (end ≡ ended) ⊎ (end ≡ unframeable (framing_refusal Frame)) → AreRequests (suc more) (held ++ taken) [] end
        → CutShort (suc more) 0 (held ++ taken) [] sink.written sink.written
    cut_at end cuts are = record {
      requests = record { end = end; are = are; stay = tt; cut = cuts };
      counted = refl;
      written = Appends-nil sink.written;
    }

    by_case : (held ++ taken ≡ []) ⊎ IsUnframeable (held ++ taken) Frame → CutShort (suc more) 0 (held ++ taken) [] sink.written sink.written
    by_case (inl none) = cut_at ended (inl refl) (AreRequests-none (suc more) (held ++ taken) none)
    by_case (inr is) = cut_at (unframeable (framing_refusal Frame)) (inr refl) (AreRequests-refused more (held ++ taken) Frame is)

-- No memory was found to read on.
pub Serves-unread : (s : State) (most : ℕ) (held taken : List ℕ) (source0 source1 : SourceView) (sink : SinkView) (w : World)
    → Keeps w.library s → Consumes source0.left source1.left taken → Serves held most s Memory 0 source0 source1 sink sink w w
Serves-unread s most held taken source0 source1 sink w keeps content =
    serves_none s most Memory held taken source0 source1 sink sink w keeps content (inr (inr (record {
      requests = inr (λ rest. tt);
      counted = refl;
      written = Appends-nil sink.written;
    })))

-- ---- where as many requests were answered as may be

-- A byte more is there.
pub Serves-turns : (s : State) (held taken : List ℕ) (source0 source1 : SourceView) (sink : SinkView) (w : World)
    → Keeps w.library s → Consumes source0.left source1.left taken → held ++ taken ≢ []
    → Serves held 0 s Turns 0 source0 source1 sink sink w w
Serves-turns s held taken source0 source1 sink w keeps content some =
    serves_none s 0 Turns held taken source0 source1 sink sink w keeps content (record {
      requests = inr (λ rest. AreRequests-turns ((held ++ taken) ++ rest) (some_more (held ++ taken) rest some));
      counted = refl;
      written = Appends-nil sink.written;
    })
  where
    some_more : (bytes rest : List ℕ) → bytes ≢ [] → bytes ++ rest ≢ []
    some_more [] rest some none = some refl
    some_more (b ∷ bytes) rest some none = cc none

-- The source failed where no byte was left.
pub Serves-fault_behind : (s : State) (held taken : List ℕ) (source0 source1 : SourceView) (sink : SinkView) (w : World)
    → Keeps w.library s → Consumes source0.left source1.left taken → held ++ taken ≡ []
    → Serves held 0 s SourceFault 0 source0 source1 sink sink w w
Serves-fault_behind s held taken source0 source1 sink w keeps content none =
    serves_none s 0 SourceFault held taken source0 source1 sink sink w keeps content (record {
      requests = record { end = ended; are = AreRequests-none 0 (held ++ taken) none; stay = tt; cut = inl refl };
      counted = refl;
      written = Appends-nil sink.written;
    })
