-- What is drawn from a source piece by piece.
use Rattle.std.proofs.Common.{◌≡◌, ◌≢◌, ◌≤◌, ◌<◌, ℕ, ◌+◌, inl, inr, Some, None, Ok, Err, List, [], ◌∷◌, ◌++◌, length, take, drop, refl, sym, ap, ◌∙◌, subst, arith, append_assoc, append-nil, length-append, length-take, length-drop}
use Rattle.std.proofs.Math.Seq.{take-add}
use Rattle.std.specs.Io.KnownBytes.{IsAtEnd}
use Rattle.std.proofs.KnownBytes.{Consumes-nil, Consumes-kept, Consumes-trans}
use Rattle.lib_base.specs.Faults.{Rose}
use Rattle.lib_base.specs.Sources.{SourceView, Reads}
use Rattle.http_model.specs.Requests.{HasNoHead, head_limit}
use Rattle.http_inbox.specs.declared.inbox.HeadRead.{HeadRead}
use Rattle.http_inbox.specs.declared.inbox.HeadRead.TheVariants.{Fault}
use Rattle.http_inbox.specs.Inboxes.{Draws, DrawsPiece, Finds, FindsAtEnd, TriesHead, ReadsHead}

-- Nothing was drawn.
pub Draws-none : (v : SourceView) (bytes : List ℕ) → Draws v v bytes bytes
Draws-none v bytes = record { piece = []; kept = sym (append-nil bytes); content = Consumes-nil v.left }

-- One piece after another is one.
pub Draws-then : (a b c : SourceView) (x y z : List ℕ) → Draws a b x y → Draws b c y z → Draws a c x z
Draws-then a b c x y z p q = record {
  piece = p.piece ++ q.piece;
  kept = q.kept ∙ ap (λ (l : List ℕ). l ++ q.piece) p.kept ∙ append_assoc x p.piece q.piece;
  content = Consumes-trans a.left b.left c.left p.piece q.piece p.content q.content;
}

-- What was read to behind the first `done` bytes.
pub drew_piece : {E : Type 0} (old new : SourceView) (room next : List ℕ) (done n : ℕ) → length next ≡ length room
    → done ≤ length room → length room ≡ head_limit → take done next ≡ take done room
    → Reads {E = E} old new (drop done next) (Ok n) → DrawsPiece {E = E} old new (take done room) (take (done + n) next) (Ok n)
drew_piece old new room next done n same within full front reads =
    let most : n ≤ length (drop done next) = reads.within.0 in
    let before : length (take done room) ≡ done = omega (arith, length-take done room, within) in
    let now : length (take (done + n) next) ≡ done + n =
    omega (arith, length-take (done + n) next, length-drop done next, most, same, within) in
    record {
      draws = record {
        piece = take n (drop done next);
        kept = take-add done n next ∙ ap (λ (l : List ℕ). l ++ take n (drop done next)) front;
        content = reads.content.0;
      };
      count = omega (arith, before, now);
      at_end = λ none less. reads.content.1 none (omega (arith, before, less, length-drop done next, same, full));
      short = omega (arith, now, most, length-drop done next, same, full, within);
      faults = record { later = reads.faults.later; cause = λ is. reads.faults.cause is };
    }

-- A read that failed drew nothing.
pub drew_none : {E : Type 0} (old new : SourceView) (room next : List ℕ) (done : ℕ) (e : E) → done ≤ length room
    → length room ≡ head_limit → take done next ≡ take done room
    → Reads {E = E} old new (drop done next) (Err e) → DrawsPiece {E = E} old new (take done room) (take done next) (Err e)
drew_none old new room next done e within full front reads = record {
  draws = record {
    piece = [];
    kept = front ∙ sym (append-nil (take done room));
    content = Consumes-kept old.left old.left new.left [] (Consumes-nil old.left) reads.content;
  };
  count = front;
  at_end = tt;
  short = omega (arith, ap length front, length-take done room, within, full);
  faults = record { later = reads.faults.later; cause = λ is. reads.faults.cause is };
}

-- ---- a try

-- the head is there, or never will be
pub tried_at_once : (v : SourceView) (bytes : List ℕ) (end : HeadRead) → Finds v.left bytes end → (end ≢ Fault)
    → length bytes ≤ head_limit → TriesHead v v bytes bytes (Some end)
tried_at_once v bytes end found other short = record {
  draws = Draws-none v bytes;
  found = found;
  short = short;
  faults = record { later = omega arith; cause = λ is. absurd (other (cc is)) };
}

-- The source is at its end.
pub tried_at_end : {E : Type 0} (old new : SourceView) (before now : List ℕ) (end : HeadRead)
    → DrawsPiece {E = E} old new before now (Ok 0) → HasNoHead before → length before < head_limit
    → FindsAtEnd now end → TriesHead old new before now (Some end)
tried_at_end old new before now end drew none less finds = record {
  draws = drew.draws;
  found = found finds;
  short = drew.short;
  faults = record { later = drew.faults.later; cause = λ is. absurd (other finds (cc is)) };
}
  where
    other : FindsAtEnd now end → end ≢ Fault
    other (inl x) is = cc (x.0, is)
    other (inr x) is = cc (x.0, is)

    ends : IsAtEnd new.left
    ends = drew.at_end refl less

    nothing : (l : List ℕ) → length l ≡ 0 → l ≡ []
    nothing [] is = refl
    nothing (b ∷ bs) is = absurd (omega (arith, is))

    stays : now ≡ before
    stays =
        drew.draws.kept
        ∙ ap (λ (l : List ℕ). before ++ l)
        (nothing drew.draws.piece (omega (arith, drew.count, ap length drew.draws.kept, length-append before drew.draws.piece)))
        ∙ append-nil before

    found : FindsAtEnd now end → Finds new.left now end
    found (inl x) = subst (Finds new.left now) (sym x.0) (x.1, ends)
    found (inr x) = subst (Finds new.left now) (sym x.0) (x.1, inl (ends, subst HasNoHead (sym stays) none))

-- Bytes came.
pub tried_on : {E : Type 0} (old new : SourceView) (before now : List ℕ) (n : ℕ)
    → DrawsPiece {E = E} old new before now (Ok n) → n ≢ 0 → TriesHead old new before now None
tried_on old new before now n drew some = record {
  draws = drew.draws;
  found = omega (arith, drew.count, some);
  short = drew.short;
  faults = record { later = drew.faults.later; cause = λ is. absurd (cc is) };
}

-- The read failed.
pub tried_in_vain : {E : Type 0} (old new : SourceView) (before now : List ℕ) (e : E)
    → DrawsPiece {E = E} old new before now (Err e) → HasNoHead before → TriesHead old new before now (Some Fault)
tried_in_vain old new before now e drew none = record {
  draws = drew.draws;
  found = subst HasNoHead (sym drew.count) none;
  short = drew.short;
  faults = record { later = drew.faults.later; cause = λ is. drew.faults.cause refl };
}

-- ---- all tries

-- What the last try found, reading found.
pub read_found : (a b c : SourceView) (x y z : List ℕ) (end : HeadRead) → Draws a b x y → a.faults ≤ b.faults
    → TriesHead b c y z (Some end) → ReadsHead a c x z end
read_found a b c x y z end drew later tried = record {
  draws = Draws-then a b c x y z drew tried.draws;
  found = tried.found;
  faults = record {
    later = omega (arith, later, tried.faults.later);
    cause = λ is. rose a.faults b.faults c.faults later (tried.faults.cause (ap Some is));
  };
}
  where
    rose : (i j k : ℕ) → i ≤ j → Rose j k → Rose i k
    rose i j k less is = omega (arith, less, is)
