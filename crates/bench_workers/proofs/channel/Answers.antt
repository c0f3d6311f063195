-- A sample is pushed behind the others.
use Rattle.std.proofs.Common.{◌≡◌, ◌+◌, ◌∙◌, ℕ, ℤ, List, [], ◌∷◌, ◌++◌, length, length-append, ap, sym, subst, rules, w32, FitsSigned}
use Rattle.std.specs.List.{All}
use Rattle.std.proofs.lemmas.Int.{to_z-of_z}
use Rattle.std.proofs.lemmas.List.Elements.{All-push}
use Rattle.lib_base.specs.Sounds.{IsSample}
use Rattle.bench_workers.proofs.channel.Goals as goal

-- a list with one sample more holds samples
samples_pushed : (depth : ℕ) (xs ys : List ℤ) (x : ℤ) → ys ≡ xs ++ x ∷ [] → All (IsSample depth) xs → IsSample depth x → All (IsSample depth) ys
samples_pushed depth xs ys x is within here = subst (All (IsSample depth)) (sym is) (All-push (IsSample depth) xs x within here)

-- and is longer by one
count_pushed : (xs ys : List ℤ) (x : ℤ) (n : ℕ) → ys ≡ xs ++ x ∷ [] → length xs ≡ n → length ys ≡ n + 1
count_pushed xs ys x n is count = ap length is ∙ length-append xs (x ∷ []) ∙ ap (λ (m : ℕ). m + 1) count

pub places-preserved : goal.places-preserved
places-preserved c =
    let fits : FitsSigned w32 (c.upper_bits.result) = search rules in
    let pushed = simp to_z-of_z at c.in_ok-push.ensures.items in (
      samples_pushed c.args.depth c.places.samples.items c.push.new.self.items c.upper_bits.result pushed c.places.invariant.0 c.upper_bits.ensures,
      count_pushed c.places.samples.items c.push.new.self.items c.upper_bits.result c.places.counter pushed c.places.invariant.1,
      c.places.invariant.2,
    )
