-- Bytes have one list of requests, and what frames the front of an input frames it however the input goes on.
use Rattle.std.proofs.Common.{◌≡◌, ◌≢◌, ◌≤◌, ◌<◌, ℕ, suc, zero, ◌+◌, true, false, inl, inr, List, [], ◌∷◌, ◌++◌, length, take, drop, refl, sym, ap, ◌∙◌, subst, arith, append_assoc, length-append}
use Rattle.std.proofs.Math.Seq.{take-append_seam}
use Rattle.std.proofs.lemmas.List.{take-append-drop, take-append-le}
use Rattle.httparse.specs.Grammar.{RequestHead, print_request}
use Rattle.httparse.proofs.GrammarLemmas.{request_unique, ReadsRequest-append}
use Rattle.http_model.specs.declared.refusals.FramingRefusal.{FramingRefusal}
use Rattle.http_model.specs.Refusals.{framing_refusal}
use Rattle.http_model.specs.Requests.{Framed, HeadAt, HasNoHead, refused, long, extent, Frames, IsRefused, IsCut, IsUnframeable, closes, End, unframeable, LeavesAt, StopsAt, RequestsOf, head_limit}
use Rattle.http_model.proofs.Readings.{append-split, ReadsRequest-shorter}

-- ---- heads

-- One head begins the bytes, and leaves one rest.
pub HeadAt-unique : (bytes : List ℕ) (h k : RequestHead) (r t : List ℕ) → HeadAt bytes h r → HeadAt bytes k t → (h ≡ k) × (r ≡ t)
HeadAt-unique bytes h k r t x y = request_unique bytes h k r t x.reads y.reads

-- A head begins the bytes however they go on.
pub HeadAt-append : (bytes : List ℕ) (h : RequestHead) (rest more : List ℕ) → HeadAt bytes h rest → HeadAt (bytes ++ more) h (rest ++ more)
HeadAt-append bytes h rest more x =
    record { reads = ReadsRequest-append bytes h rest more x.reads; short = x.short; few = x.few }

-- A front that is no longer than a list's own front is its front.
front_of : (bytes more front rest : List ℕ) → bytes ++ more ≡ front ++ rest → length front ≤ length bytes
    → bytes ≡ front ++ drop (length front) bytes
front_of bytes more front rest same fits =
    let taken : take (length front) bytes ≡ front =
    sym (take-append-le (length front) bytes more fits) ∙ ap (take (length front)) same ∙ take-append_seam front rest in
    sym (take-append-drop (length front) bytes) ∙ ap (λ bs. bs ++ drop (length front) bytes) taken

-- A head reads only its own bytes, so it begins what holds these.
pub HeadAt-cut : (bytes more : List ℕ) (h : RequestHead) (rest : List ℕ) → HeadAt (bytes ++ more) h rest
    → length (print_request h) ≤ length bytes → HeadAt bytes h (drop (length (print_request h)) bytes)
HeadAt-cut bytes more h rest x fits = record {
  reads = (x.reads.0, front_of bytes more (print_request h) rest x.reads.1 fits);
  short = x.short;
  few = x.few;
}

-- Where no head begins as many bytes as a head may have, none begins any list that goes on from them.
pub HasNoHead-full : (bytes more : List ℕ) → head_limit ≤ length bytes → HasNoHead bytes → HasNoHead (bytes ++ more)
HasNoHead-full bytes more full none h rest x =
    let short = x.short in
    none h (drop (length (print_request h)) bytes) (HeadAt-cut bytes more h rest x (omega (arith, short, full)))

-- A head that begins a longer list and not its front is longer than that front.
pub HeadAt-longer : (bytes more : List ℕ) (h : RequestHead) (rest : List ℕ) → HasNoHead bytes → HeadAt (bytes ++ more) h rest
    → length bytes < length (print_request h)
HeadAt-longer bytes more h rest none x =
    let cut : ¬ (length (print_request h) ≤ length bytes) =
    λ fits. none h (drop (length (print_request h)) bytes) (HeadAt-cut bytes more h rest x fits) in
    omega (arith, cut)

-- ---- requests

-- The size of a body is one number.
long-same : (m n : ℕ) → long m ≡ long n → m ≡ n
long-same m n is = cc is

-- Bytes begin with one request, and go on with one rest.
pub Frames-unique : (bytes : List ℕ) (q p : Framed) (r t : List ℕ) → Frames bytes q r → Frames bytes p t → (q ≡ p) × (r ≡ t)
Frames-unique bytes q p r t x y =
    let heads : (q.head ≡ p.head) × (q.body ++ r ≡ p.body ++ t) =
    HeadAt-unique bytes q.head p.head (q.body ++ r) (p.body ++ t) x.head y.head in
    let sizes : length q.body ≡ length p.body = long-same _ _ (sym x.body ∙ ap extent heads.0 ∙ y.body) in
    let bodies = append-split q.body p.body r t sizes heads.1 in
    (λ i. record { head = heads.0 i; body = bodies.0 i }, bodies.1)

-- What frames the front of an input frames it however the input goes on.
pub Frames-append : (bytes : List ℕ) (q : Framed) (rest more : List ℕ) → Frames bytes q rest → Frames (bytes ++ more) q (rest ++ more)
Frames-append bytes q rest more x = record {
  head = subst (HeadAt (bytes ++ more) q.head) (append_assoc q.body rest more)
      (HeadAt-append bytes q.head (q.body ++ rest) more x.head);
  body = x.body;
}

-- A request has bytes.
pub Frames-shorter : (bytes : List ℕ) (q : Framed) (rest : List ℕ) → Frames bytes q rest → length rest < length bytes
Frames-shorter bytes q rest x =
    let shorter = ReadsRequest-shorter bytes q.head (q.body ++ rest) x.head.reads in
    omega (arith, shorter, length-append q.body rest)

-- No request begins no bytes.
pub Frames-some : (bytes : List ℕ) (q : Framed) (rest : List ℕ) → Frames bytes q rest → bytes ≢ []
Frames-some bytes q rest x none =
    let shorter = Frames-shorter bytes q rest x in
    absurd (omega (arith, shorter, ap length none))

-- ---- what can't be framed

-- What can be framed is not refused.
pub Frames-framed : (bytes : List ℕ) (q : Framed) (rest : List ℕ) (cause : FramingRefusal) → Frames bytes q rest → ¬ IsUnframeable bytes cause
Frames-framed bytes q rest cause x (inl no_head) = no_head.1 q.head (q.body ++ rest) x.head
Frames-framed bytes q rest cause x (inr (inl refuses)) =
    let heads = HeadAt-unique bytes q.head refuses.head (q.body ++ rest) refuses.rest x.head refuses.at in
    let is : long (length q.body) ≡ refused cause = sym x.body ∙ ap extent heads.0 ∙ refuses.refuses in
    cc is
Frames-framed bytes q rest cause x (inr (inr cut)) =
    let heads = HeadAt-unique bytes q.head cut.0.head (q.body ++ rest) cut.0.rest x.head cut.0.at in
    let sizes : length q.body ≡ cut.0.size = long-same _ _ (sym x.body ∙ ap extent heads.0 ∙ cut.0.sized) in
    let passes = cut.0.passes in
    absurd (omega (arith, sizes, passes, ap length heads.1, length-append q.body rest))

-- No bytes are not refused.
pub IsUnframeable-some : (bytes : List ℕ) (cause : FramingRefusal) → IsUnframeable bytes cause → bytes ≢ []
IsUnframeable-some bytes cause (inl no_head) none = no_head.0 none
IsUnframeable-some bytes cause (inr (inl refuses)) none =
    let shorter = ReadsRequest-shorter bytes refuses.head refuses.rest refuses.at.reads in
    absurd (omega (arith, shorter, ap length none))
IsUnframeable-some bytes cause (inr (inr cut)) none =
    let shorter = ReadsRequest-shorter bytes cut.0.head cut.0.rest cut.0.at.reads in
    absurd (omega (arith, shorter, ap length none))

-- A head behind which nothing can be framed has no body that is cut.
refused-not_cut : (bytes : List ℕ) (cause : FramingRefusal) → IsRefused bytes cause → ¬ IsCut bytes
refused-not_cut bytes cause x cut =
    let heads = HeadAt-unique bytes x.head cut.head x.rest cut.rest x.at cut.at in
    let is : refused cause ≡ long cut.size = sym x.refuses ∙ ap extent heads.0 ∙ cut.sized in
    cc is

-- There is one cause.
pub IsUnframeable-unique : (bytes : List ℕ) (a b : FramingRefusal) → IsUnframeable bytes a → IsUnframeable bytes b → a ≡ b
IsUnframeable-unique bytes a b (inl x) (inl y) = x.2 ∙ sym y.2
IsUnframeable-unique bytes a b (inl x) (inr (inl y)) = absurd (x.1 y.head y.rest y.at)
IsUnframeable-unique bytes a b (inl x) (inr (inr y)) = x.2 ∙ sym y.1
IsUnframeable-unique bytes a b (inr (inl x)) (inl y) = absurd (y.1 x.head x.rest x.at)
IsUnframeable-unique bytes a b (inr (inl x)) (inr (inl y)) =
    let heads = HeadAt-unique bytes x.head y.head x.rest y.rest x.at y.at in
    let is : refused a ≡ refused b = sym x.refuses ∙ ap extent heads.0 ∙ y.refuses in
    cc is
IsUnframeable-unique bytes a b (inr (inl x)) (inr (inr y)) = absurd (refused-not_cut bytes a x y.0)
IsUnframeable-unique bytes a b (inr (inr x)) (inl y) = x.1 ∙ sym y.2
IsUnframeable-unique bytes a b (inr (inr x)) (inr (inl y)) = absurd (refused-not_cut bytes b y x.0)
IsUnframeable-unique bytes a b (inr (inr x)) (inr (inr y)) = x.1 ∙ sym y.1

-- What is refused for its head is so however it goes on.
pub IsRefused-append : (bytes more : List ℕ) (cause : FramingRefusal) → IsRefused bytes cause → IsRefused (bytes ++ more) cause
IsRefused-append bytes more cause x = record {
  head = x.head;
  rest = x.rest ++ more;
  at = HeadAt-append bytes x.head x.rest more x.at;
  refuses = x.refuses;
}

-- What is refused is so however it goes on, unless its body was cut or its head was not yet all there.
pub IsUnframeable-append : (bytes more : List ℕ) (cause : FramingRefusal) → IsUnframeable bytes cause → ¬ IsCut bytes
    → (HasNoHead bytes → HasNoHead (bytes ++ more)) → IsUnframeable (bytes ++ more) cause
IsUnframeable-append bytes more cause (inl x) whole never = inl (some bytes x.0, never x.1, x.2)
  where
    some : (bs : List ℕ) → bs ≢ [] → bs ++ more ≢ []
    some [] is e = is refl
    some (b ∷ bs) is e = cc e
IsUnframeable-append bytes more cause (inr (inl x)) whole never = inr (inl (IsRefused-append bytes more cause x))
IsUnframeable-append bytes more cause (inr (inr x)) whole never = absurd (whole x.0)

-- ---- lists of requests

LeavesAt-unique : (bytes : List ℕ) (e f : End) → LeavesAt bytes e → LeavesAt bytes f → e ≡ f
LeavesAt-unique bytes e f (inl x) (inl y) = x.1 ∙ sym y.1
LeavesAt-unique bytes e f (inl x) (inr y) = absurd (y.0 x.0)
LeavesAt-unique bytes e f (inr x) (inl y) = absurd (x.0 y.0)
LeavesAt-unique bytes e f (inr x) (inr y) = x.1 ∙ sym y.1

StopsAt-unique : (bytes : List ℕ) (e f : End) → StopsAt bytes e → StopsAt bytes f → e ≡ f
StopsAt-unique bytes e f (inl x) (inl y) = x.1 ∙ sym y.1
StopsAt-unique bytes e f (inl x) (inr y) = absurd (IsUnframeable-some bytes y.0 y.1 x.0)
StopsAt-unique bytes e f (inr x) (inl y) = absurd (IsUnframeable-some bytes x.0 x.1 y.0)
StopsAt-unique bytes e f (inr x) (inr y) = x.2 ∙ ap (λ (cause : FramingRefusal). unframeable (framing_refusal cause)) (IsUnframeable-unique bytes x.0 y.0 x.1 y.1) ∙ sym y.2

-- A request begins no bytes that stop.
pub StopsAt-no_request : (bytes : List ℕ) (e : End) (q : Framed) (rest : List ℕ) → StopsAt bytes e → ¬ Frames bytes q rest
StopsAt-no_request bytes e q rest (inl x) frames = Frames-some bytes q rest frames x.0
StopsAt-no_request bytes e q rest (inr x) frames = Frames-framed bytes q rest x.0 frames x.1

-- The request that begins the bytes closes, or it does not.
pub not_both : (bytes : List ℕ) (q p : Framed) (r t : List ℕ) → Frames bytes q r → Frames bytes p t → closes q.head ≡ true → ¬ (closes p.head ≡ false)
not_both bytes q p r t x y shut stays =
    let same = Frames-unique bytes q p r t x y in
    let is : true ≡ false = sym shut ∙ ap (λ (a : Framed). closes a.head) same.0 ∙ stays in
    cc is

-- Bytes are requests and an end in one way, for each number of requests that are answered.
pub RequestsOf-unique : (n : ℕ) (bytes : List ℕ) (qs ps : List Framed) (e f : End)
    → RequestsOf n bytes qs e → RequestsOf n bytes ps f → (qs ≡ ps) × (e ≡ f)
RequestsOf-unique zero bytes qs ps e f x y = (x.0 ∙ sym y.0, LeavesAt-unique bytes e f x.1 y.1)
RequestsOf-unique (suc n) bytes [] [] e f x y = (refl, StopsAt-unique bytes e f x y)
RequestsOf-unique (suc n) bytes [] (p ∷ ps) e f x y = absurd (StopsAt-no_request bytes e p y.0 x y.1)
RequestsOf-unique (suc n) bytes (q ∷ qs) [] e f x y = absurd (StopsAt-no_request bytes f q x.0 y x.1)
RequestsOf-unique (suc n) bytes (q ∷ qs) (p ∷ ps) e f (r, x, inl u) (t, y, inl v) =
    let first : (q ≡ p) × (r ≡ t) = Frames-unique bytes q p r t x y in
    let others : qs ≡ ps = u.1 ∙ sym v.1 in
    (λ i. first.0 i ∷ others i, u.2 ∙ sym v.2)
RequestsOf-unique (suc n) bytes (q ∷ qs) (p ∷ ps) e f (r, x, inl u) (t, y, inr v) =
    absurd (not_both bytes q p r t x y u.0 v.0)
RequestsOf-unique (suc n) bytes (q ∷ qs) (p ∷ ps) e f (r, x, inr u) (t, y, inl v) =
    absurd (not_both bytes p q t r y x v.0 u.0)
RequestsOf-unique (suc n) bytes (q ∷ qs) (p ∷ ps) e f (r, x, inr u) (t, y, inr v) =
    let first : (q ≡ p) × (r ≡ t) = Frames-unique bytes q p r t x y in
    let others : (qs ≡ ps) × (e ≡ f) =
    RequestsOf-unique n r qs ps e f u.1 (subst (λ (b : List ℕ). RequestsOf n b ps f) (sym first.1) v.1) in
    (λ i. first.0 i ∷ others.0 i, others.1)

-- The requests of a front of the bytes are a front of the requests of all of them.
pub RequestsOf-prefix : (n : ℕ) (bytes more : List ℕ) (qs ps : List Framed) (e f : End)
    → RequestsOf n bytes qs e → RequestsOf n (bytes ++ more) ps f → (others : List Framed) × (ps ≡ qs ++ others)
RequestsOf-prefix zero bytes more qs ps e f x y = ([], y.0 ∙ sym (ap (λ (l : List Framed). l ++ []) x.0))
RequestsOf-prefix (suc n) bytes more [] ps e f x y = (ps, refl)
RequestsOf-prefix (suc n) bytes more (q ∷ qs) [] e f x y =
    absurd (StopsAt-no_request (bytes ++ more) f q (x.0 ++ more) y (Frames-append bytes q x.0 more x.1))
RequestsOf-prefix (suc n) bytes more (q ∷ qs) (p ∷ ps) e f (r, x, inl u) (t, y, inl v) =
    let first : (p ≡ q) × (t ≡ r ++ more) = Frames-unique (bytes ++ more) p q t (r ++ more) y (Frames-append bytes q r more x) in
    let others : ps ≡ qs ++ [] = v.1 ∙ sym (ap (λ (l : List Framed). l ++ []) u.1) in
    ([], λ i. first.0 i ∷ others i)
RequestsOf-prefix (suc n) bytes more (q ∷ qs) (p ∷ ps) e f (r, x, inl u) (t, y, inr v) =
    absurd (not_both (bytes ++ more) q p (r ++ more) t (Frames-append bytes q r more x) y u.0 v.0)
RequestsOf-prefix (suc n) bytes more (q ∷ qs) (p ∷ ps) e f (r, x, inr u) (t, y, inl v) =
    absurd (not_both (bytes ++ more) p q t (r ++ more) y (Frames-append bytes q r more x) v.0 u.0)
RequestsOf-prefix (suc n) bytes more (q ∷ qs) (p ∷ ps) e f (r, x, inr u) (t, y, inr v) =
    let first : (p ≡ q) × (t ≡ r ++ more) = Frames-unique (bytes ++ more) p q t (r ++ more) y (Frames-append bytes q r more x) in
    let others : (l : List Framed) × (ps ≡ qs ++ l) =
    RequestsOf-prefix n r more qs ps e f u.1 (subst (λ (b : List ℕ). RequestsOf n b ps f) first.1 v.1) in
    (others.0, λ i. first.0 i ∷ others.1 i)
