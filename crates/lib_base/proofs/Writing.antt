-- Pieces written one after another, and pieces copied.
use Rattle.std.proofs.Common.{◌≡◌, ℕ, ◌+◌, ◌≤◌, List, ◌++◌, take, drop, length, Option, None, Some, append_assoc, sym, ◌∙◌, ap, length-take, arith}
use Rattle.std.proofs.Math.Seq.{take-add}
use Rattle.std.proofs.lemmas.List.{take-append-drop, take_at, drop-drop}
use Rattle.std.specs.Io.KnownBytes.{Appends}

-- known bytes that grow by the first `done`, and then by `n` more, grow by the first `done + n`
pub Appends-take : (old mid new : Option (List ℕ)) (bs : List ℕ) (done n : ℕ) → Appends old mid (take done bs)
    → Appends mid new (take n (drop done bs)) → Appends old new (take (done + n) bs)
Appends-take None mid new bs done n h k = tt
Appends-take (Some xs) None new bs done n h k = absurd h
Appends-take (Some xs) (Some ys) None bs done n h k = absurd k
Appends-take (Some xs) (Some ys) (Some zs) bs done n h k = rw (take-add done n bs, k, h) (append_assoc xs (take done bs) (take n (drop done bs)))

-- what is left after n elements were copied to the front of a piece, together with them
pub take-copied : (xs front back : List ℕ) (at n : ℕ) → front ≡ take n (drop at xs) → n ≤ length (drop at xs)
    → drop at xs ≡ take n (front ++ back) ++ drop (at + n) xs
take-copied xs front back at n copied fits =
    let same : length front ≡ n = ap length copied ∙ length-take n (drop at xs) ∙ omega arith in
    rw (take_at front back n same, copied, ← drop-drop n at xs) (sym (take-append-drop n (drop at xs)))
