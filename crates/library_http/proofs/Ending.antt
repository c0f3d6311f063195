-- How a session ends, one request in front of others.
use Rattle.std.proofs.Common.{◌≡◌, inl, inr, ℕ, suc, false, Option, List, [], ◌∷◌, ◌++◌, sym, ap, subst, append_assoc, append-nil}
use Rattle.std.specs.Io.KnownBytes.{Appends}
use Rattle.std.proofs.KnownBytes.{Appends-trans}
use Rattle.library_model.specs.declared.messages.Reply.{Reply}
use Rattle.http_model.specs.Exchanges.{Exchange, exchange, requests_of, spelled_of, spelled_to, spelled_all, ending, output}
use Rattle.http_model.specs.Requests.{AreRequests, End, Framed, Frames, IsFront, closes, ended, turns, unframeable}
use Rattle.http_model.specs.Refusals.{framing_refusal}
use Rattle.library_http.proofs.Fronts.{AreRequests-cons, IsFront-cons}
use Rattle.http_inbox.specs.Inboxes.{Covers}
use Rattle.http_inbox.proofs.CoversLaws.{Covers-all}
use Rattle.library_http.specs.declared.serving.How.{How}
use Rattle.library_http.specs.declared.serving.How.TheVariants.{Ended, Turns, Unframeable, SourceFault, SinkFault, Memory}
use Rattle.library_http.specs.Sessions.{BreaksOff, BreaksOffAtEnd, CutShort, EndsAs, Unread, Whole}
use Rattle.library_http.proofs.Goings.{Appends-part}

-- ---- bytes however they go on

-- A request begins bytes, and others follow it, however both go on.
abbrev pub Precedes : (input behind : List ℕ) → Framed → Type 0
Precedes input behind q = (more : List ℕ) → Frames (input ++ more) q (behind ++ more)

-- so it is of the bytes as they are
frames_now : (input behind : List ℕ) (q : Framed) → Precedes input behind q → Frames input q behind
frames_now input behind q precedes =
    subst (λ (bytes : List ℕ). Frames bytes q behind) (append-nil input)
    (subst (Frames (input ++ []) q) (append-nil behind) (precedes []))

-- ---- one request in front

-- All the requests behind one that stays are all with it.
requests_cons : (most : ℕ) (end : End) (left : Option (List ℕ)) (input behind : List ℕ) (q : Framed) (others : List Framed)
    → Precedes input behind q → closes q.head ≡ false → Covers left behind (λ bytes. AreRequests most bytes others end)
    → Covers left input (λ bytes. AreRequests (suc most) bytes (q ∷ others) end)
requests_cons most end left input behind q others precedes stays =
    Covers-all left behind input (λ bytes. AreRequests most bytes others end) (λ bytes. AreRequests (suc most) bytes (q ∷ others) end)
    (λ more are. AreRequests-cons most (input ++ more) (behind ++ more) q others end (precedes more) stays are)

-- A front of them is one with it.
front_cons : (most : ℕ) (left : Option (List ℕ)) (input behind : List ℕ) (q : Framed) (others : List Framed)
    → Precedes input behind q → closes q.head ≡ false → Covers left behind (λ bytes. IsFront most bytes others)
    → Covers left input (λ bytes. IsFront (suc most) bytes (q ∷ others))
front_cons most left input behind q others precedes stays =
    Covers-all left behind input (λ bytes. IsFront most bytes others) (λ bytes. IsFront (suc most) bytes (q ∷ others))
    (λ more are. IsFront-cons most (input ++ more) (behind ++ more) q others (precedes more) stays are)

whole_cons : (most : ℕ) (end : End) (answered : ℕ) (left : Option (List ℕ)) (input behind : List ℕ) (q : Framed) (reply : Reply)
    (exchanges : List Exchange) (old mid new : Option (List ℕ)) → Precedes input behind q → closes q.head ≡ false
    → Appends old mid (spelled_to q reply) → Whole most end answered left behind exchanges mid new
    → Whole (suc most) end (suc answered) left input (exchange q reply ∷ exchanges) old new
whole_cons most end answered left input behind q reply exchanges old mid new precedes stays written whole = record {
  requests = requests_cons most end left input behind q (requests_of exchanges) precedes stays whole.requests;
  counted = ap suc whole.counted;
  written = subst (Appends old new) (sym (append_assoc (spelled_to q reply) (spelled_all exchanges) (ending end)))
      (Appends-trans old mid new (spelled_to q reply) (output exchanges end) written whole.written);
}

cut_cons : (most answered : ℕ) (input behind : List ℕ) (q : Framed) (reply : Reply)
    (exchanges : List Exchange) (old mid new : Option (List ℕ)) → Precedes input behind q → closes q.head ≡ false
    → Appends old mid (spelled_to q reply) → CutShort most answered behind exchanges mid new
    → CutShort (suc most) (suc answered) input (exchange q reply ∷ exchanges) old new
cut_cons most answered input behind q reply exchanges old mid new precedes stays written cut = record {
  requests = record {
    end = cut.requests.end;
    are = AreRequests-cons most input behind q (requests_of exchanges) cut.requests.end (frames_now input behind q precedes) stays
        cut.requests.are;
    stay = (stays, cut.requests.stay);
    cut = cut.requests.cut;
  };
  counted = ap suc cut.counted;
  written = Appends-trans old mid new (spelled_to q reply) (spelled_all exchanges) written cut.written;
}

breaks_cons : (most answered : ℕ) (left : Option (List ℕ)) (input behind : List ℕ) (q : Framed) (reply : Reply)
    (exchanges : List Exchange) (old mid new : Option (List ℕ)) → Precedes input behind q → closes q.head ≡ false
    → Appends old mid (spelled_to q reply) → BreaksOff most answered left behind exchanges mid new
    → BreaksOff (suc most) (suc answered) left input (exchange q reply ∷ exchanges) old new
breaks_cons most answered left input behind q reply exchanges old mid new precedes stays written breaks = record {
  whole = exchange q reply ∷ breaks.whole;
  last = breaks.last;
  are = ap (λ (es : List Exchange). exchange q reply ∷ es) breaks.are;
  requests = front_cons most left input behind q (requests_of exchanges) precedes stays breaks.requests;
  counted = ap suc breaks.counted;
  written = Appends-part old mid new (spelled_to q reply) (spelled_all breaks.whole) (spelled_of breaks.last) written breaks.written;
}

breaks_at_end_cons : (most answered : ℕ) (left : Option (List ℕ)) (input behind : List ℕ) (q : Framed) (reply : Reply)
    (exchanges : List Exchange) (old mid new : Option (List ℕ)) → Precedes input behind q → closes q.head ≡ false
    → Appends old mid (spelled_to q reply) → BreaksOffAtEnd most answered left behind exchanges mid new
    → BreaksOffAtEnd (suc most) (suc answered) left input (exchange q reply ∷ exchanges) old new
breaks_at_end_cons most answered left input behind q reply exchanges old mid new precedes stays written breaks = record {
  cause = breaks.cause;
  requests = requests_cons most (unframeable (framing_refusal breaks.cause)) left input behind q (requests_of exchanges) precedes stays breaks.requests;
  counted = ap suc breaks.counted;
  written = Appends-part old mid new (spelled_to q reply) (spelled_all exchanges) (ending (unframeable (framing_refusal breaks.cause))) written breaks.written;
}

unread_cons : (most answered : ℕ) (left : Option (List ℕ)) (input behind : List ℕ) (q : Framed) (reply : Reply)
    (exchanges : List Exchange) (old mid new : Option (List ℕ)) → Precedes input behind q → closes q.head ≡ false
    → Appends old mid (spelled_to q reply) → Unread most answered left behind exchanges mid new
    → Unread (suc most) (suc answered) left input (exchange q reply ∷ exchanges) old new
unread_cons most answered left input behind q reply exchanges old mid new precedes stays written unread = record {
  requests = front_cons most left input behind q (requests_of exchanges) precedes stays unread.requests;
  counted = ap suc unread.counted;
  written = Appends-trans old mid new (spelled_to q reply) (spelled_all exchanges) written unread.written;
}

-- A request that stays was answered and replied to, and serving the rest ended so: so did serving it with the rest.
pub EndsAs-cons : (how : How) (most answered : ℕ) (left : Option (List ℕ)) (input behind : List ℕ) (q : Framed) (reply : Reply)
    (exchanges : List Exchange) (old mid new : Option (List ℕ)) → Precedes input behind q → closes q.head ≡ false
    → Appends old mid (spelled_to q reply) → EndsAs how most answered left behind exchanges mid new
    → EndsAs how (suc most) (suc answered) left input (exchange q reply ∷ exchanges) old new
EndsAs-cons Ended most answered left input behind q reply exchanges old mid new precedes stays written ends =
    whole_cons most ended answered left input behind q reply exchanges old mid new precedes stays written ends
EndsAs-cons Turns most answered left input behind q reply exchanges old mid new precedes stays written ends =
    whole_cons most turns answered left input behind q reply exchanges old mid new precedes stays written ends
EndsAs-cons Unframeable most answered left input behind q reply exchanges old mid new precedes stays written ends =
    (ends.0, whole_cons most (unframeable (framing_refusal ends.0)) answered left input behind q reply exchanges old mid new precedes stays written ends.1)
EndsAs-cons SourceFault most answered left input behind q reply exchanges old mid new precedes stays written ends =
    cut_cons most answered input behind q reply exchanges old mid new precedes stays written ends
EndsAs-cons SinkFault most answered left input behind q reply exchanges old mid new precedes stays written (inl ends) =
    inl (breaks_cons most answered left input behind q reply exchanges old mid new precedes stays written ends)
EndsAs-cons SinkFault most answered left input behind q reply exchanges old mid new precedes stays written (inr ends) =
    inr (breaks_at_end_cons most answered left input behind q reply exchanges old mid new precedes stays written ends)
EndsAs-cons Memory most answered left input behind q reply exchanges old mid new precedes stays written (inl ends) =
    inl (breaks_cons most answered left input behind q reply exchanges old mid new precedes stays written ends)
EndsAs-cons Memory most answered left input behind q reply exchanges old mid new precedes stays written (inr (inl ends)) =
    inr (inl (breaks_at_end_cons most answered left input behind q reply exchanges old mid new precedes stays written ends))
EndsAs-cons Memory most answered left input behind q reply exchanges old mid new precedes stays written (inr (inr ends)) =
    inr (inr (unread_cons most answered left input behind q reply exchanges old mid new precedes stays written ends))
