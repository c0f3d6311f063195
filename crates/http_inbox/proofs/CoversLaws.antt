-- What is so of the bytes that were taken, however they go on or at the source's end.
use Rattle.std.proofs.Common.{◌≡◌, ◌≢◌, ℕ, suc, zero, true, inl, inr, Option, None, Some, List, [], ◌∷◌, ◌++◌, sym, subst, append-nil}
use Rattle.std.specs.Io.KnownBytes.{Consumes, IsAtEnd}
use Rattle.http_model.specs.declared.refusals.FramingRefusal.{FramingRefusal}
use Rattle.http_model.specs.Refusals.{framing_refusal}
use Rattle.http_model.specs.Requests.{AreRequests, Framed, Frames, IsFront, IsUnframeable, SoFar, closes, ended, turns, unframeable}
use Rattle.http_model.proofs.RunLaws.{AreRequests-from, SoFar-closed, SoFar-ended, SoFar-front, SoFar-refused_on, SoFar-turns}
use Rattle.http_inbox.specs.Inboxes.{Covers}

-- ---- any property

-- What follows from what is so.
pub Covers-weaker : (left : Option (List ℕ)) (taken : List ℕ) (P Q : List ℕ → Type 0) → ((bytes : List ℕ) → P bytes → Q bytes)
    → Covers left taken P → Covers left taken Q
Covers-weaker left taken P Q weaker (inl x) = inl (x.0, weaker taken x.1)
Covers-weaker left taken P Q weaker (inr x) = inr (λ more. weaker (taken ++ more) (x more))

-- What is so of the last bytes that were taken gives what is so of all of them.
pub Covers-all : (left : Option (List ℕ)) (last taken : List ℕ) (P Q : List ℕ → Type 0)
    → ((more : List ℕ) → P (last ++ more) → Q (taken ++ more)) → Covers left last P → Covers left taken Q
Covers-all left last taken P Q goes (inl x) =
    inl (x.0, subst Q (append-nil taken) (goes [] (subst P (sym (append-nil last)) x.1)))
Covers-all left last taken P Q goes (inr x) = inr (λ more. goes more (x more))

-- Of a source that tells its bytes it is so of them.
pub Covers-told : (before now : Option (List ℕ)) (input taken : List ℕ) (P : List ℕ → Type 0) → before ≡ Some input
    → Consumes before now taken → Covers now taken P → P input
Covers-told None now input taken P told taking x = absurd (cc told)
Covers-told (Some whole) None input taken P told taking x = absurd taking
Covers-told (Some whole) (Some left) input taken P told taking (inl x) =
    let is : whole ≡ input = cc told in
    subst P is (subst P (sym taking) (subst (λ (l : List ℕ). P (taken ++ l)) (sym x.0) (subst P (sym (append-nil taken)) x.1)))
Covers-told (Some whole) (Some left) input taken P told taking (inr x) =
    let is : whole ≡ input = cc told in
    subst P is (subst P (sym taking) (x left))

-- ---- how a session's requests end

-- The source is at its end, and nothing is left.
pub Covers-ended : (left : Option (List ℕ)) (most n : ℕ) (taken : List ℕ) (passed : List Framed) → IsAtEnd left
    → SoFar most n taken [] passed → Covers left taken (λ b. AreRequests most b passed ended)
Covers-ended left most n taken passed at_end x =
    inl (at_end, AreRequests-from most taken passed ended (SoFar-ended most n taken passed x))

-- A request closes.
pub Covers-closed : (left : Option (List ℕ)) (most n : ℕ) (taken bytes rest : List ℕ) (passed : List Framed) (q : Framed)
    → SoFar most (suc n) taken bytes passed → ((more : List ℕ) → Frames (bytes ++ more) q (rest ++ more)) → closes q.head ≡ true
    → Covers left taken (λ b. AreRequests most b (passed ++ q ∷ []) ended)
Covers-closed left most n taken bytes rest passed q x frames shut = inr (λ more.
    AreRequests-from most (taken ++ more) (passed ++ q ∷ []) ended (SoFar-closed most n taken bytes rest more passed q x (frames more) shut))

-- As many requests as are answered were passed, and a byte is left.
pub Covers-turns : (left : Option (List ℕ)) (most : ℕ) (taken bytes : List ℕ) (passed : List Framed) → bytes ≢ []
    → SoFar most zero taken bytes passed → Covers left taken (λ b. AreRequests most b passed turns)
Covers-turns left most taken bytes passed some x = inr (λ more.
    AreRequests-from most (taken ++ more) passed turns (SoFar-turns most taken bytes more passed x some))

-- What is left can't be framed.
pub Covers-refused : (left : Option (List ℕ)) (most n : ℕ) (taken bytes : List ℕ) (passed : List Framed) (cause : FramingRefusal)
    → SoFar most (suc n) taken bytes passed → Covers left bytes (λ b. IsUnframeable b cause)
    → Covers left taken (λ b. AreRequests most b passed (unframeable (framing_refusal cause)))
Covers-refused left most n taken bytes passed cause x refused =
    Covers-all left bytes taken (λ b. IsUnframeable b cause) (λ b. AreRequests most b passed (unframeable (framing_refusal cause)))
    (λ more none. AreRequests-from most (taken ++ more) passed (unframeable (framing_refusal cause))
    (SoFar-refused_on most n taken bytes more passed cause x none)) refused

-- The requests that were passed are the first, however the bytes go on.
pub Covers-front : (left : Option (List ℕ)) (most n : ℕ) (taken bytes : List ℕ) (passed : List Framed) → SoFar most n taken bytes passed
    → Covers left taken (λ b. IsFront most b passed)
Covers-front left most n taken bytes passed x = inr (λ more. SoFar-front most n taken bytes more passed x)
