-- The takes that requests take out, each once for good.
use Rattle.std.proofs.Common.{◌≡◌, ◌≢◌, ◌≤◌, ◌⊎◌, inl, inr, true≢false, ℕ, Bool, true, false, List, [], ◌∷◌, ◌++◌, refl, sym, ◌∙◌, subst, arith}
use Rattle.std.specs.List.{AllByRecursion}
use Rattle.library_model.specs.Exchanges.{Exchange, Answers}
use Rattle.library_model.specs.InOrder.{Differ}
use Rattle.library_model.specs.Machine.{has_take, taken_out}
use Rattle.library_model.specs.Stands.{IsValid}
use Rattle.library_model.specs.State.{State}
use Rattle.library_model.proofs.Imports.{AllByRecursion-both, AllByRecursion-weaker}
use Rattle.library_model.proofs.TakesOut.{StepsTakes, Answer-StepsTakes, taken_out-had, taken_out-gone, taken_out-Differ, has_take-given}
use Rattle.library_http.specs.Sessions.{AreReleased}

-- ---- facts of all of a list

all_append : {A : Type 0} (P : A → Type 0) (xs ys : List A) → AllByRecursion P xs → AllByRecursion P ys → AllByRecursion P (xs ++ ys)
all_append P [] ys p q = q
all_append P (x ∷ xs) ys p q = (p.0, all_append P xs ys p.1 q)

-- lists whose takes differ, and differ from each other's, have takes that differ
Differ-append : (xs ys : List ℕ) → Differ xs → Differ ys → AllByRecursion (λ x. AllByRecursion (λ y. y ≢ x) ys) xs → Differ (xs ++ ys)
Differ-append [] ys p q apart = q
Differ-append (x ∷ xs) ys p q apart =
    (all_append (λ (later : ℕ). later ≢ x) xs ys p.0 apart.0, Differ-append xs ys p.1 q apart.1)

-- ---- takes from a state on

-- a recording of the state has the take, or it is still to be given
abbrev pub IsKnown : State → ℕ → Type 0
IsKnown s take = (has_take take s.recordings ≡ true) ⊎ (s.next_take ≤ take)

-- a take that is known after a step was known before it
known_before : (s next : State) (take : ℕ) → StepsTakes s next → IsKnown next take → IsKnown s take
known_before s next take steps (inl has) = steps.takes take has
known_before s next take steps (inr later) =
    let rises = steps.rises in
    inr (omega (arith, rises, later))

-- What is taken out on the way was known at its start, and so is what recordings have at its end.
pub record Known (s last : State) (released : List ℕ) : Type 0 where
  pub of_released : AllByRecursion (IsKnown s) released
  pub of_last : (take : ℕ) → has_take take last.recordings ≡ true → IsKnown s take

-- Answers take out takes that were known.
pub Answers-Known : (s last : State) (exchanges : List Exchange) (released : List ℕ) → Answers s exchanges last released → Known s last released
Answers-Known s last [] released answers =
    subst (Known s last) (sym answers.1)
    (record { of_released = tt; of_last = λ take has. inl (subst (λ (t : State). has_take take t.recordings ≡ true) answers.0 has) })
Answers-Known s last (e ∷ exchanges) released (next, later, answer, answers, is) =
    let steps = Answer-StepsTakes s e.request e.reply next answer in
    let rest = Answers-Known next last exchanges later answers in
    subst (Known s last) (sym is)
    (record {
      of_released = all_append (IsKnown s) (taken_out s next) later
          (AllByRecursion-weaker (λ take. has_take take s.recordings ≡ true) (IsKnown s) (taken_out s next) (λ take has. inl has) (taken_out-had s next))
          (AllByRecursion-weaker (IsKnown next) (IsKnown s) later (λ take known. known_before s next take steps known) rest.of_released);
      of_last = λ take has. known_before s next take steps (rest.of_last take has);
    })

-- ---- released takes

-- a take that a step took out is not known after it
out_for_good : (s next : State) (take : ℕ) → IsValid s → StepsTakes s next → has_take take s.recordings ≡ true
    → has_take take next.recordings ≡ false → ¬ IsKnown next take
out_for_good s next take valid steps had gone (inl has) = true≢false (sym has ∙ gone)
out_for_good s next take valid steps had gone (inr later) =
    let below = has_take-given s take valid had in
    let rises = steps.rises in
    absurd (omega (arith, below, rises, later))

-- No take is released.
pub AreReleased-none : (last : State) → AreReleased last []
AreReleased-none last = record { differ = tt; gone = tt }

-- What one step and the answers behind it take out is taken out once for good.
pub AreReleased-cons : (s next last : State) (later : List ℕ) → IsValid s → StepsTakes s next → Known next last later
    → AreReleased last later → AreReleased last (taken_out s next ++ later)
AreReleased-cons s next last later valid steps known released =
    let unknown : AllByRecursion (λ take. ¬ IsKnown next take) (taken_out s next) =
    AllByRecursion-both (λ take. has_take take s.recordings ≡ true) (λ take. has_take take next.recordings ≡ false) (λ take. ¬ IsKnown next take)
    (taken_out s next) (λ take had gone. out_for_good s next take valid steps had gone) (taken_out-had s next) (taken_out-gone s next) in
    record {
      differ = Differ-append (taken_out s next) later (taken_out-Differ s next valid) released.differ
          (AllByRecursion-weaker (λ take. ¬ IsKnown next take) (λ take. AllByRecursion (λ other. other ≢ take) later) (taken_out s next)
          (λ take not. AllByRecursion-weaker (IsKnown next) (λ other. other ≢ take) later
          (λ other is same. not (subst (IsKnown next) same is)) known.of_released) unknown);
      gone = all_append (λ take. has_take take last.recordings ≡ false) (taken_out s next) later
          (AllByRecursion-weaker (λ take. ¬ IsKnown next take) (λ take. has_take take last.recordings ≡ false) (taken_out s next)
          (λ take not. false_of (has_take take last.recordings) (λ has. not (known.of_last take has))) unknown)
          released.gone;
    }
  where
    false_of : (b : Bool) → ¬ (b ≡ true) → b ≡ false
    false_of true not = absurd (not refl)
    false_of false not = refl
