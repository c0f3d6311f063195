-- Exchanges that go on where others ended, as those of one connection behind another's.
use Rattle.std.proofs.Common.{ℕ, List, [], ◌∷◌, ◌++◌, sym, ap, ◌∙◌, subst, append_assoc}
use Rattle.library_model.specs.Exchanges.{Answers, Exchange}
use Rattle.library_model.specs.Machine.{taken_out}
use Rattle.library_model.specs.State.{State}

-- They are answered as one list.
pub Answers-join : (s mid last : State) (xs ys : List Exchange) (before after : List ℕ) → Answers s xs mid before → Answers mid ys last after
    → Answers s (xs ++ ys) last (before ++ after)
Answers-join s mid last [] ys before after first second =
    subst (λ (t : State). Answers t ys last (before ++ after)) first.0
    (subst (λ (takes : List ℕ). Answers mid ys last (takes ++ after)) (sym first.1) second)
Answers-join s mid last (e ∷ xs) ys before after first second = (
  first.0,
  first.1 ++ after,
  first.2,
  Answers-join first.0 mid last xs ys first.1 after first.3 second,
  ap (λ (takes : List ℕ). takes ++ after) first.4 ∙ append_assoc (taken_out s first.0) first.1 after,
)
