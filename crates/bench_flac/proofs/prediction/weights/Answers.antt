use Rattle.std.proofs.Common.{◌≡◌, ◌+◌, ◌∙◌, ℕ, ℤ, List, [], ◌∷◌, ◌++◌, length, length-append, ap, sym, subst, rules, w32, FitsSigned}
use Rattle.std.specs.List.{All}
use Rattle.std.proofs.lemmas.Int.{to_z-of_z}
use Rattle.std.proofs.lemmas.List.Elements.{All-push}
use Rattle.lib_base.specs.Sounds.{IsSample}
use Rattle.bench_flac.proofs.prediction.weights.Goals as goal

within_pushed : (xs ys : List ℤ) (x : ℤ) → ys ≡ xs ++ x ∷ [] → All (IsSample 15) xs → IsSample 15 x → All (IsSample 15) ys
within_pushed xs ys x is within here = subst (All (IsSample 15)) (sym is) (All-push (IsSample 15) xs x within here)

count_pushed : (xs ys : List ℤ) (x : ℤ) (n : ℕ) → ys ≡ xs ++ x ∷ [] → length xs ≡ n → length ys ≡ n + 1
count_pushed xs ys x n is count = ap length is ∙ length-append xs (x ∷ []) ∙ ap (λ (m : ℕ). m + 1) count

pub loop-number-preserved : goal.loop-number-preserved
loop-number-preserved c =
    let fits : FitsSigned w32 c.half.result = search rules in
    let pushed = simp to_z-of_z at c.in_ok-push.ensures.items in (
      within_pushed c.loop-number.weights.items c.push.new.self.items c.half.result pushed c.loop-number.invariant.0 c.half.ensures,
      count_pushed c.loop-number.weights.items c.push.new.self.items c.half.result c.loop-number.number-index pushed c.loop-number.invariant.1,
    )
