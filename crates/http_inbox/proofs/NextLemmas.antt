-- What is found behind a head, and of the next request.
use Rattle.std.proofs.Common.{◌≡◌, ◌≢◌, ◌≤◌, ◌<◌, ◌⊎◌, ℕ, suc, zero, ◌+◌, inl, inr, Option, List, [], ◌∷◌, ◌++◌, length, take, drop, refl, sym, ap, ◌∙◌, subst, arith, append_assoc, append-nil, length-append, length-take, drop-drop}
use Rattle.std.proofs.KnownBytes.{Consumes-nil, Consumes-trans}
use Rattle.httparse.specs.Grammar.{RequestHead}
use Rattle.lib_base.specs.Faults.{Rose}
use Rattle.lib_base.specs.Sources.{SourceView}
use Rattle.http_model.specs.declared.refusals.FramingRefusal.{FramingRefusal}
use Rattle.http_model.specs.declared.refusals.FramingRefusal.TheVariants.{Frame}
use Rattle.http_model.specs.Requests.{HeadAt, HasNoHead, refused, long, extent, IsRefused, IsCut, IsUnframeable}
use Rattle.http_model.proofs.RequestLaws.{HeadAt-append, IsRefused-append}
use Rattle.http_inbox.specs.declared.heads.Heading.{Heading}
use Rattle.http_inbox.specs.declared.inbox.HeadRead.{HeadRead}
use Rattle.http_inbox.specs.declared.inbox.HeadRead.TheVariants as found_head
use Rattle.http_inbox.specs.declared.bodies.BodyRead.TheVariants as found_body
use Rattle.http_inbox.specs.declared.requests.Next.{Next}
use Rattle.http_inbox.specs.declared.requests.Next.TheVariants.{Framed, Refused, Fault, Memory}
use Rattle.http_inbox.specs.Bodies.{ReadsBody}
use Rattle.http_inbox.specs.Heads.{IsHeadingOf}
use Rattle.http_inbox.specs.Inboxes.{Covers, Draws, ReadsHead}
use Rattle.http_inbox.specs.Nexts.{BeginsWith, FindsNext, ReadsNext}

-- ---- a body

-- What is held, then a piece of the body and what follows, is the body and then the rest of what is held.
body_first : (held piece more : List ℕ) (size : ℕ) → length (take size held ++ piece) ≡ size
    → held ++ (piece ++ more) ≡ (take size held ++ piece) ++ (drop size held ++ more)
body_first held [] more zero all = refl
body_first held (b ∷ piece) more zero all = absurd (omega (arith, all))
body_first [] piece more (suc n) all = refl
body_first (b ∷ held) piece more (suc n) all =
    ap (λ (l : List ℕ). b ∷ l) (body_first held piece more n (omega (arith, all)))

-- A piece that leaves the body short is behind all of what is held.
all_short : (held piece : List ℕ) (size : ℕ) → length (take size held ++ piece) < size → length (held ++ piece) < size
all_short held piece size short =
    omega (arith, short, length-append (take size held) piece, length-append held piece, length-take size held)

-- The body is all there.
body_framed : (held piece : List ℕ) (heading : Heading) (head : RequestHead) (size : ℕ) (body : List ℕ)
    → IsHeadingOf held heading head → extent head ≡ long size → body ≡ take size (drop heading.len held) ++ piece
    → length (take size (drop heading.len held) ++ piece) ≡ size
    → BeginsWith (held ++ piece) held (record { heading = heading; body = body })
body_framed held piece heading head size body lies sized is all =
    let sizes : length body ≡ size = ap length is ∙ all in
    let split : (more : List ℕ) → drop heading.len held ++ (piece ++ more) ≡ body ++ (drop (heading.len + length body) held ++ more) =
    λ more.
    body_first (drop heading.len held) piece more size all
    ∙ ap (λ (l : List ℕ). l ++ (drop size (drop heading.len held) ++ more)) (sym is)
    ∙ ap (λ (l : List ℕ). body ++ (l ++ more)) (drop-drop size heading.len held ∙ ap (λ (n : ℕ). drop (heading.len + n) held) (sym sizes)) in
    record {
      head = head;
      lies = lies;
      frames = λ more. record {
        head = subst (λ (bytes : List ℕ). HeadAt bytes head (body ++ (drop (heading.len + length body) held ++ more)))
            (sym (append_assoc held piece more))
            (subst (HeadAt (held ++ (piece ++ more)) head) (split more)
            (HeadAt-append held head (drop heading.len held) (piece ++ more) lies.at));
        body = sized ∙ ap long (sym sizes);
      };
    }

-- The body passes the end of what is there.
body_short : (held piece : List ℕ) (heading : Heading) (head : RequestHead) (size : ℕ)
    → IsHeadingOf held heading head → extent head ≡ long size
    → length (take size (drop heading.len held) ++ piece) < size → IsUnframeable (held ++ piece) Frame
body_short held piece heading head size lies sized short =
    let cut : IsCut (held ++ piece) = record {
      head = head;
      rest = drop heading.len held ++ piece;
      at = HeadAt-append held head (drop heading.len held) piece lies.at;
      size = size;
      sized = sized;
      passes = all_short (drop heading.len held) piece size short;
    } in
    inr (inr (cut, refl))

-- Where reading found the body, the request is framed.
pub next_whole : (old new : SourceView) (held rest : List ℕ) (heading : Heading) (head : RequestHead) (size : ℕ) (body : List ℕ)
    → IsHeadingOf held heading head → extent head ≡ long size → rest ≡ drop heading.len held
    → ReadsBody old new (take size rest) size (found_body.Whole body)
    → ReadsNext old new held held (Framed (record { heading = heading; body = body }))
next_whole old new held rest heading head size body lies sized is reads =
    let whole = subst (λ (l : List ℕ). (body ≡ take size l ++ reads.piece) × (length (take size l ++ reads.piece) ≡ size)) is reads.found in
    record {
      taken = reads.piece;
      content = reads.content;
      found = body_framed held reads.piece heading head size body lies sized whole.0 whole.1;
      faults = record { later = reads.faults.later; cause = λ e. absurd (cc e) };
    }

-- Where it found the source's end, none is.
pub next_cut : (old new : SourceView) (held rest : List ℕ) (heading : Heading) (head : RequestHead) (size : ℕ)
    → IsHeadingOf held heading head → extent head ≡ long size → rest ≡ drop heading.len held
    → ReadsBody old new (take size rest) size found_body.Cut → ReadsNext old new held held (Refused Frame)
next_cut old new held rest heading head size lies sized is reads =
    let short = subst (λ (l : List ℕ). length (take size l ++ reads.piece) < size) is reads.found.1 in
    record {
      taken = reads.piece;
      content = reads.content;
      found = inl (reads.found.0, body_short held reads.piece heading head size lies sized short);
      faults = record { later = reads.faults.later; cause = λ e. absurd (cc e) };
    }

-- Where a read failed, what was taken has no whole body.
pub next_broken : (old new : SourceView) (held rest : List ℕ) (heading : Heading) (head : RequestHead) (size : ℕ)
    → IsHeadingOf held heading head → extent head ≡ long size → rest ≡ drop heading.len held
    → ReadsBody old new (take size rest) size found_body.Fault → ReadsNext old new held held Fault
next_broken old new held rest heading head size lies sized is reads =
    let short = subst (λ (l : List ℕ). length (take size l ++ reads.piece) < size) is reads.found in
    record {
      taken = reads.piece;
      content = reads.content;
      found = inr (body_short held reads.piece heading head size lies sized short);
      faults = record { later = reads.faults.later; cause = λ e. reads.faults.cause refl };
    }

-- Where the memory for the body is not to be had, all that was taken is held.
pub next_wanting : (old new : SourceView) (there held : List ℕ) (size : ℕ)
    → ReadsBody old new there size found_body.Memory → ReadsNext old new held held Memory
next_wanting old new there held size reads = record {
  taken = reads.piece;
  content = reads.content;
  found = ap (λ (l : List ℕ). held ++ l) (reads.untouched refl) ∙ append-nil held;
  faults = record { later = reads.faults.later; cause = λ e. absurd (cc e) };
}

-- What a head refuses is refused however it goes on.
pub next_refused : (v : SourceView) (held : List ℕ) (heading : Heading) (head : RequestHead) (cause : FramingRefusal)
    → IsHeadingOf held heading head → refused cause ≡ extent head → ReadsNext v v held held (Refused cause)
next_refused v held heading head cause lies is = record {
  taken = [];
  content = Consumes-nil v.left;
  found = inr (λ more. inr (inl (subst (λ (bytes : List ℕ). IsRefused (bytes ++ more) cause) (sym (append-nil held))
      (IsRefused-append held more cause
      (record { head = head; rest = drop heading.len held; at = lies.at; refuses = sym is })))));
  faults = record { later = omega arith; cause = λ is. absurd (cc is) };
}

-- ---- a head

-- what is found of the bytes that were taken in all
found_of_all : (left : Option (List ℕ)) (before piece taken now bytes : List ℕ) (next : Next) → now ≡ before ++ piece
    → FindsNext left (now ++ taken) bytes next → FindsNext left (before ++ (piece ++ taken)) bytes next
found_of_all left before piece taken now bytes next kept found =
    subst (λ (all : List ℕ). FindsNext left all bytes next)
    (ap (λ (l : List ℕ). l ++ taken) kept ∙ append_assoc before piece taken) found

-- What follows a head that was drawn.
pub next_drawn : (old mid new : SourceView) (before now : List ℕ) (next : Next) → Draws old mid before now
    → old.faults ≤ mid.faults → ReadsNext mid new now now next → ReadsNext old new before now next
next_drawn old mid new before now next drew later reads = record {
  taken = drew.piece ++ reads.taken;
  content = Consumes-trans old.left mid.left new.left drew.piece reads.taken drew.content reads.content;
  found = found_of_all new.left before drew.piece reads.taken now now next drew.kept reads.found;
  faults = record {
    later = omega (arith, later, reads.faults.later);
    cause = λ is. rose old.faults mid.faults new.faults later (reads.faults.cause is);
  };
}
  where
    rose : (i j k : ℕ) → i ≤ j → Rose j k → Rose i k
    rose i j k less is = omega (arith, less, is)

-- what was found without a head, of what was drawn
without_head : (old new : SourceView) (before now : List ℕ) (end : HeadRead) (next : Next)
    → ReadsHead old new before now end → FindsNext new.left now now next → (next ≡ Fault → end ≡ found_head.Fault)
    → ReadsNext old new before now next
without_head old new before now end next reads found same = record {
  taken = reads.draws.piece;
  content = reads.draws.content;
  found = subst (λ (all : List ℕ). FindsNext new.left all now next) reads.draws.kept found;
  faults = record { later = reads.faults.later; cause = λ is. reads.faults.cause (same is) };
}

-- No head was found.
pub next_no_head : (old new : SourceView) (before now : List ℕ)
    → ReadsHead old new before now found_head.NoHead → ReadsNext old new before now (Refused Frame)
next_no_head old new before now reads =
    without_head old new before now found_head.NoHead (Refused Frame) reads (covers reads.found.1) (λ is. absurd (cc is))
  where
    some : (bytes more : List ℕ) → bytes ≢ [] → bytes ++ more ≢ []
    some [] more is e = is refl
    some (b ∷ bs) more is e = cc e

    covers : Covers new.left now HasNoHead → Covers new.left now (λ b. IsUnframeable b Frame)
    covers (inl x) = inl (x.0, inl (reads.found.0, x.1, refl))
    covers (inr never) = inr (λ more. inl (some now more reads.found.0, never more, refl))

-- A read failed before there was a head.
pub next_fault : (old new : SourceView) (before now : List ℕ)
    → ReadsHead old new before now found_head.Fault → ReadsNext old new before now Fault
next_fault old new before now reads =
    without_head old new before now found_head.Fault Fault reads (none_or now reads.found) (λ is. refl)
  where
    none_or : (bytes : List ℕ) → HasNoHead bytes → (bytes ≡ []) ⊎ IsUnframeable bytes Frame
    none_or [] none = inl refl
    none_or (b ∷ bs) none = inr (inl (λ e. cc e, none, refl))
