-- Bytes that are taken piece by piece to the front of a list.
use Rattle.std.proofs.Common.{◌≡◌, ℕ, ◌+◌, Option, List, ◌++◌, take, drop, sym, ap, ◌∙◌, subst}
use Rattle.std.proofs.Math.Seq.{take-add}
use Rattle.std.specs.Io.KnownBytes.{Consumes}
use Rattle.std.proofs.KnownBytes.{Consumes-trans}

-- The first `done` were taken, and then `count` more, which stand behind them.
pub Consumes-further : (a b c : Option (List ℕ)) (old new : List ℕ) (done count : ℕ) → take done new ≡ take done old
    → Consumes a b (take done old) → Consumes b c (take count (drop done new)) → Consumes a c (take (done + count) new)
Consumes-further a b c old new done count front first next =
    subst (Consumes a c) (ap (λ xs. xs ++ take count (drop done new)) (sym front) ∙ sym (take-add done count new))
    (Consumes-trans a b c (take done old) (take count (drop done new)) first next)
