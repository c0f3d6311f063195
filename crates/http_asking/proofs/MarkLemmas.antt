-- The parts of a mark, one after another.
use Rattle.std.proofs.Common.{◌≡◌, ℕ, List, [], ◌∷◌, ◌++◌, append_assoc}

joined : (method target name body : List ℕ)
    → method ++ (10 ∷ []) ++ target ++ (10 ∷ []) ++ name ++ (10 ∷ []) ++ body ≡ method ++ 10 ∷ target ++ 10 ∷ name ++ 10 ∷ body
joined method target name body = simp append_assoc

-- Parts that are taken in one after another, with a line feed between two, are those of the mark.
pub parts : (method target name body first second third : List ℕ) → first ≡ 10 ∷ [] → second ≡ 10 ∷ [] → third ≡ 10 ∷ []
    → method ++ first ++ target ++ second ++ name ++ third ++ body ≡ method ++ 10 ∷ target ++ 10 ∷ name ++ 10 ∷ body
parts method target name body first second third is_first is_second is_third =
    rw (is_first, is_second, is_third) (joined method target name body)
