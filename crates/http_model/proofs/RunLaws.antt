-- How the requests of an input are passed: bytes are read, a request is passed, and the input ends.
use Rattle.std.proofs.Common.{◌≡◌, ◌≢◌, ℕ, suc, zero, true, false, inl, inr, List, [], ◌∷◌, ◌++◌, refl, sym, ap, ◌∙◌, subst, append_assoc, append-nil}
use Rattle.http_model.specs.declared.refusals.FramingRefusal.{FramingRefusal}
use Rattle.http_model.specs.Refusals.{framing_refusal}
use Rattle.http_model.specs.Requests.{AreRequests, End, Frames, Framed, IsFront, IsUnframeable, RequestsOf, SoFar, closes, ended, turns, unframeable}
use Rattle.http_model.proofs.RequestLaws.{Frames-append, Frames-unique, RequestsOf-unique, StopsAt-no_request, not_both}

-- ---- one list, and one end

-- Requests that are those of the bytes are their only ones.
pub AreRequests-from : (n : ℕ) (bytes : List ℕ) (qs : List Framed) (e : End) → RequestsOf n bytes qs e → AreRequests n bytes qs e
AreRequests-from n bytes qs e x =
    record { are = x; only = λ others other y. RequestsOf-unique n bytes others qs other e y x }

-- No byte is no request, whatever the number that is answered.
pub RequestsOf-nothing : (n : ℕ) → RequestsOf n [] [] ended
RequestsOf-nothing zero = (refl, inl (refl, refl))
RequestsOf-nothing (suc n) = inl (refl, refl)

-- What can't be framed ends the requests with its refusal.
pub RequestsOf-refused : (n : ℕ) (bytes : List ℕ) (cause : FramingRefusal) → IsUnframeable bytes cause
    → RequestsOf (suc n) bytes [] (unframeable (framing_refusal cause))
RequestsOf-refused n bytes cause x = inr (cause, x, refl)

-- ---- fronts

-- A front of the bytes is one however they go on.
pub IsFront-append : (n : ℕ) (bytes more : List ℕ) (qs : List Framed) → IsFront n bytes qs → IsFront n (bytes ++ more) qs
IsFront-append n bytes more [] x = x
IsFront-append zero bytes more (q ∷ qs) x = absurd x
IsFront-append (suc n) bytes more (q ∷ qs) (rest, x, inl u) = (rest ++ more, Frames-append bytes q rest more x, inl u)
IsFront-append (suc n) bytes more (q ∷ qs) (rest, x, inr u) =
    (rest ++ more, Frames-append bytes q rest more x, inr (u.0, IsFront-append n rest more qs u.1))

-- The requests of the bytes begin with each front of them.
pub IsFront-requests : (n : ℕ) (bytes : List ℕ) (qs all : List Framed) (e : End) → IsFront n bytes qs → RequestsOf n bytes all e
    → (others : List Framed) × (all ≡ qs ++ others)
IsFront-requests n bytes [] all e x y = (all, refl)
IsFront-requests zero bytes (q ∷ qs) all e x y = absurd x
IsFront-requests (suc n) bytes (q ∷ qs) [] e x y = absurd (StopsAt-no_request bytes e q x.0 y x.1)
IsFront-requests (suc n) bytes (q ∷ qs) (p ∷ all) e (r, x, inl u) (t, y, inl v) =
    let first : (p ≡ q) × (t ≡ r) = Frames-unique bytes p q t r y x in
    let others : all ≡ qs ++ [] = v.1 ∙ sym (ap (λ (l : List Framed). l ++ []) u.1) in
    ([], λ i. first.0 i ∷ others i)
IsFront-requests (suc n) bytes (q ∷ qs) (p ∷ all) e (r, x, inl u) (t, y, inr v) = absurd (not_both bytes q p r t x y u.0 v.0)
IsFront-requests (suc n) bytes (q ∷ qs) (p ∷ all) e (r, x, inr u) (t, y, inl v) = absurd (not_both bytes p q t r y x v.0 u.0)
IsFront-requests (suc n) bytes (q ∷ qs) (p ∷ all) e (r, x, inr u) (t, y, inr v) =
    let first : (p ≡ q) × (t ≡ r) = Frames-unique bytes p q t r y x in
    let others : (l : List Framed) × (all ≡ qs ++ l) =
    IsFront-requests n r qs all e u.1 (subst (λ (b : List ℕ). RequestsOf n b all e) first.1 v.1) in
    (others.0, λ i. first.0 i ∷ others.1 i)

-- ---- what was passed

-- Nothing was passed.
pub SoFar-start : (n : ℕ) (bytes : List ℕ) → SoFar n n bytes bytes []
SoFar-start n bytes = record { on = λ more qs e x. x; front = λ more qs x. x }

-- Bytes were read.
pub SoFar-reads : (most n : ℕ) (taken left piece : List ℕ) (passed : List Framed) → SoFar most n taken left passed
    → SoFar most n (taken ++ piece) (left ++ piece) passed
SoFar-reads most n taken left piece passed x = record {
  on = λ more qs e y. subst (λ (b : List ℕ). RequestsOf most b (passed ++ qs) e) (sym (append_assoc taken piece more))
      (x.on (piece ++ more) qs e (subst (λ (b : List ℕ). RequestsOf n b qs e) (append_assoc left piece more) y));
  front = λ more qs y. subst (λ (b : List ℕ). IsFront most b (passed ++ qs)) (sym (append_assoc taken piece more))
      (x.front (piece ++ more) qs (subst (λ (b : List ℕ). IsFront n b qs) (append_assoc left piece more) y));
}

-- A request was passed that does not close.
pub SoFar-passes : (most n : ℕ) (taken left rest : List ℕ) (passed : List Framed) (q : Framed) → SoFar most (suc n) taken left passed
    → ((more : List ℕ) → Frames (left ++ more) q (rest ++ more)) → closes q.head ≡ false → SoFar most n taken rest (passed ++ q ∷ [])
SoFar-passes most n taken left rest passed q x frames stays = record {
  on = λ more qs e y. subst (λ (l : List Framed). RequestsOf most (taken ++ more) l e) (sym (append_assoc passed (q ∷ []) qs))
      (x.on more (q ∷ qs) e (rest ++ more, frames more, inr (stays, y)));
  front = λ more qs y. subst (λ (l : List Framed). IsFront most (taken ++ more) l) (sym (append_assoc passed (q ∷ []) qs))
      (x.front more (q ∷ qs) (rest ++ more, frames more, inr (stays, y)));
}

-- ---- how it ends

-- Where what is left makes no request, those that were passed are all, however the bytes go on.
pub SoFar-ends_on : (most n : ℕ) (taken left more : List ℕ) (passed : List Framed) (e : End) → SoFar most n taken left passed
    → RequestsOf n (left ++ more) [] e → RequestsOf most (taken ++ more) passed e
SoFar-ends_on most n taken left more passed e x y =
    subst (λ (l : List Framed). RequestsOf most (taken ++ more) l e) (append-nil passed) (x.on more [] e y)

-- The same of the bytes as they are.
pub SoFar-ends : (most n : ℕ) (taken left : List ℕ) (passed : List Framed) (e : End) → SoFar most n taken left passed
    → RequestsOf n left [] e → RequestsOf most taken passed e
SoFar-ends most n taken left passed e x y =
    subst (λ (b : List ℕ). RequestsOf most b passed e) (append-nil taken)
    (SoFar-ends_on most n taken left [] passed e x (subst (λ (b : List ℕ). RequestsOf n b [] e) (sym (append-nil left)) y))

-- Nothing is left.
pub SoFar-ended : (most n : ℕ) (taken : List ℕ) (passed : List Framed) → SoFar most n taken [] passed → RequestsOf most taken passed ended
SoFar-ended most n taken passed x = SoFar-ends most n taken [] passed ended x (RequestsOf-nothing n)

-- A request closes: none behind it is one, however the bytes go on.
pub SoFar-closed : (most n : ℕ) (taken left rest more : List ℕ) (passed : List Framed) (q : Framed) → SoFar most (suc n) taken left passed
    → Frames (left ++ more) q (rest ++ more) → closes q.head ≡ true → RequestsOf most (taken ++ more) (passed ++ q ∷ []) ended
SoFar-closed most n taken left rest more passed q x frames shut = x.on more (q ∷ []) ended (rest ++ more, frames, inl (shut, refl, refl))

-- As many requests as are answered were passed, and a byte is left.
pub SoFar-turns : (most : ℕ) (taken left more : List ℕ) (passed : List Framed) → SoFar most zero taken left passed → left ≢ []
    → RequestsOf most (taken ++ more) passed turns
SoFar-turns most taken left more passed x some =
    SoFar-ends_on most zero taken left more passed turns x (refl, inr (longer left some, refl))
  where
    longer : (bytes : List ℕ) → bytes ≢ [] → bytes ++ more ≢ []
    longer [] is e = is refl
    longer (b ∷ bs) is e = cc e

-- What is left can't be framed.
pub SoFar-refused : (most n : ℕ) (taken left : List ℕ) (passed : List Framed) (cause : FramingRefusal)
    → SoFar most (suc n) taken left passed → IsUnframeable left cause
    → RequestsOf most taken passed (unframeable (framing_refusal cause))
SoFar-refused most n taken left passed cause x y =
    SoFar-ends most (suc n) taken left passed (unframeable (framing_refusal cause)) x (RequestsOf-refused n left cause y)

-- It can't, however the bytes go on.
pub SoFar-refused_on : (most n : ℕ) (taken left more : List ℕ) (passed : List Framed) (cause : FramingRefusal)
    → SoFar most (suc n) taken left passed → IsUnframeable (left ++ more) cause
    → RequestsOf most (taken ++ more) passed (unframeable (framing_refusal cause))
SoFar-refused_on most n taken left more passed cause x y =
    SoFar-ends_on most (suc n) taken left more passed (unframeable (framing_refusal cause)) x
    (RequestsOf-refused n (left ++ more) cause y)

-- ---- the front that was passed

-- The bytes begin with the requests that were passed, however they go on.
pub SoFar-front : (most n : ℕ) (taken left more : List ℕ) (passed : List Framed) → SoFar most n taken left passed
    → IsFront most (taken ++ more) passed
SoFar-front most n taken left more passed x =
    subst (λ (l : List Framed). IsFront most (taken ++ more) l) (append-nil passed) (x.front more [] tt)
