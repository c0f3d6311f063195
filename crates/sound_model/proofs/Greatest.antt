-- The greatest of energies, one after another.
use Rattle.std.proofs.Common.{◌≡◌, ◌≤◌, ◌<◌, ◌+◌, ℕ, List, [], ◌∷◌, ◌++◌, length, take, get_or, max, arith, All}
use Rattle.std.proofs.lemmas.List.{take_more}
use Rattle.std.proofs.lemmas.List.Elements.{All-head, All-tail}
use Rattle.sound_model.specs.Loudness.{greatest}

-- one energy more raises the greatest to itself, where it is greater
greatest-push : (es : List ℕ) (e : ℕ) → greatest (es ++ e ∷ []) ≡ max (greatest es) e
greatest-push [] e = omega arith
greatest-push (x ∷ es) e = let rest = greatest-push es e in omega (arith, rest)

-- so does the running greatest
pub greatest-step : (es : List ℕ) (i most next : ℕ) → i < length es → most ≡ greatest (take i es)
    → next ≡ max most (get_or es i 0) → next ≡ greatest (take (i + 1) es)
greatest-step es i most next h was is = rw (take_more es i 0 h, greatest-push, ← was) is

-- the greatest is within what bounds each
pub greatest-within : (limit : ℕ) (es : List ℕ) → All (λ e. e ≤ limit) es → greatest es ≤ limit
greatest-within limit [] all = omega arith
greatest-within limit (e ∷ es) all =
    let first = All-head (λ (e : ℕ). e ≤ limit) e es all in
    let rest = greatest-within limit es (All-tail (λ (e : ℕ). e ≤ limit) e es all) in omega (arith, first, rest)
