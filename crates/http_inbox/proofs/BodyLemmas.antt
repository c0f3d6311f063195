-- What was there of a body, and what was drawn behind it.
use Rattle.std.proofs.Common.{◌≡◌, ◌≤◌, ℕ, ◌+◌, List, [], ◌++◌, length, take, drop, sym, ap, ◌∙◌, subst, arith, append-nil, length-append, length-take, length-drop, take-add}
use Rattle.std.proofs.Math.Seq.{take-append_seam}
use Rattle.std.proofs.KnownBytes.{Consumes-nil}
use Rattle.lib_base.specs.Sources.{SourceView}
use Rattle.lib_base.specs.declared.sources.ReadEnd.{ReadEnd}
use Rattle.http_inbox.specs.Filling.{Fills}
use Rattle.http_inbox.specs.declared.bodies.BodyRead.TheVariants.{Whole}
use Rattle.http_inbox.specs.Bodies.{DrawsUpTo, ReadsBody}

-- What was filled behind bytes was drawn to there.
filled : (old new : SourceView) (before zeros into : List ℕ) (count : ℕ) (end : ReadEnd)
    → length into ≡ length (before ++ zeros) → take (length before) into ≡ before
    → Fills old new (drop (length before) into) count end
    → DrawsUpTo old new before (take (length before + count) into) (length before + length zeros) end
filled old new before zeros into count end same front fills =
    let within : count ≤ length (drop (length before) into) = fills.within in
    let room : length (drop (length before) into) ≡ length zeros =
    omega (arith, length-drop (length before) into, same, length-append before zeros) in
    let now : length (take (length before + count) into) ≡ length before + count =
    omega (arith, length-take (length before + count) into, within, room, same, length-append before zeros) in
    record {
      draws = record {
        piece = take count (drop (length before) into);
        kept = take-add (length before) count into ∙ ap (λ (l : List ℕ). l ++ take count (drop (length before) into)) front;
        content = fills.content;
      };
      at_end = fills.at_end;
      short = λ is. let few = fills.short is in omega (arith, now, few, room);
      full = λ is. let all = fills.full is in omega (arith, now, all, room);
      cut = λ is. let few = fills.cut is in omega (arith, now, few, room);
      faults = record { later = fills.faults.later; cause = fills.faults.cause };
    }

-- The same of what was cut behind that.
pub drew_filled : (old new : SourceView) (before zeros mid into now : List ℕ) (done count : ℕ) (end : ReadEnd)
    → done ≡ length before → mid ≡ before ++ zeros → length into ≡ length mid → take done into ≡ take done mid
    → Fills old new (drop done into) count end → now ≡ take (done + count) into
    → DrawsUpTo old new before now (length before + length zeros) end
drew_filled old new before zeros mid into now done count end is appended same front fills cut =
    subst (λ (l : List ℕ). DrawsUpTo old new before l (length before + length zeros) end)
    (sym (cut ∙ ap (λ (n : ℕ). take (n + count) into) is))
    (filled old new before zeros into count end (same ∙ ap length appended)
    (ap (λ (n : ℕ). take n into) (sym is) ∙ front ∙ ap (λ (n : ℕ). take n mid) is ∙ ap (take (length before)) appended
    ∙ take-append_seam before zeros)
    (subst (λ (n : ℕ). Fills old new (drop n into) count end) is fills))

-- All of the body was there.
pub body_there : (v : SourceView) (body : List ℕ) (size : ℕ) → length body ≤ size → size ≤ length body
    → ReadsBody v v body size (Whole body)
body_there v body size within whole =
    let all : length body ≡ size = omega (arith, within, whole) in
    record {
      piece = [];
      content = Consumes-nil v.left;
      found = (sym (append-nil body), ap length (append-nil body) ∙ all);
      untouched = λ is. absurd (cc is);
      faults = record { later = omega arith; cause = λ is. absurd (cc is) };
    }
