-- Lemmas on outcomes.
use Rattle.std.proofs.Common.{◌≡◌, inl, inr, Result, Ok, Err, ap, sym, ◌∙◌, subst}
use Rattle.file_model.specs.Outcomes.{Gives, Is, Then, Finds}

-- what is read by one function is read by another one that is the same
pub gives_same : {X Y E : Type 0} (view : X → Y) (result : Result X E) (one other : Result Y E) → one ≡ other → Gives view result one → Gives view result other
gives_same view (Ok value) one other same gives = sym same ∙ gives
gives_same view (Err fault) one other same gives = sym same ∙ gives

-- a fact holds of at most one thing
abbrev pub HoldsOnce : {X : Type 0} → (X → Type 0) → Type 0
HoldsOnce {X = X} Holds = (one other : X) → Holds one → Holds other → one ≡ other

-- what is given is one
pub is_decides : {B E : Type 0} (given : Result B E) → HoldsOnce (Is given)
is_decides given one other h k = h ∙ sym k

-- where each of two readings has at most one outcome, both have, one after the other
pub then_decides : {A B E : Type 0} (First : Result A E → Type 0) (Next : A → Result B E → Type 0) → HoldsOnce First
    → ((value : A) → HoldsOnce (Next value)) → HoldsOnce (Then First Next)
then_decides First Next first next one other (inl (v, h, n)) (inl (w, k, m)) =
    let outcomes = first (Ok v) (Ok w) h k in
    let same : v ≡ w = cc in
    next w one other (subst (λ x. Next x one) same n) m
then_decides First Next first next one other (inl (v, h, n)) (inr (fault, k, m)) =
    let outcomes = first (Ok v) (Err fault) h k in cc
then_decides First Next first next one other (inr (fault, h, n)) (inl (w, k, m)) =
    let outcomes = first (Err fault) (Ok w) h k in cc
then_decides First Next first next one other (inr (fault, h, n)) (inr (rule, k, m)) =
    let outcomes = first (Err fault) (Err rule) h k in cc

-- where a fact holds of at most one value, what is found has at most one outcome
pub finds_decides : {A E : Type 0} (Holds : A → Type 0) (fault : E) → HoldsOnce Holds → HoldsOnce (Finds Holds fault)
finds_decides Holds fault once (Ok one) (Ok other) h k = ap Ok (once one other h k)
finds_decides Holds fault once (Ok one) (Err rule) h k = absurd (k.0 one h)
finds_decides Holds fault once (Err rule) (Ok other) h k = absurd (h.0 other k)
finds_decides Holds fault once (Err one) (Err other) h k = ap Err (h.1 ∙ sym k.1)
