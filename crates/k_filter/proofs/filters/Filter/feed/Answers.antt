use Rattle.std.proofs.Common.{◌≡◌, ◌<◌, ◌≤◌, ◌+◌, ◌^◌, ◌++◌, ◌∙◌, ℕ, ℤ, pos, List, length, get_or, take, set, refl, ap, sym, subst, rules, arith, unsigned_abs, w32, w64, FitsSigned}
use Rattle.std.specs.List.{All}
use Rattle.std.proofs.lemmas.Int.{to_z-of_z}
use Rattle.std.proofs.lemmas.List.{take_all, take_more_set}
use Rattle.std.proofs.lemmas.List.Elements.{All-push}
use Rattle.sound_model.specs.Weighted.{weighted}
use Rattle.k_filter.specs.Fed.{WasFed}
use Rattle.k_filter.proofs.Feeding.{WasFed-more, weighted-more}
use Rattle.k_filter.proofs.filters.Filter.feed.Goals as goal

small_more : (out : List ℤ) (i : ℕ) (w : ℤ) → i < length out → All (λ w. unsigned_abs w ≤ 2 ^ 30) (take i out) → unsigned_abs w ≤ 2 ^ 30
    → All (λ w. unsigned_abs w ≤ 2 ^ 30) (take (i + 1) (set out i w))
small_more out i w inside so_far small =
    let P : List ℤ → Type 0 = λ ys. All (λ w. unsigned_abs w ≤ 2 ^ 30) ys in
    subst P (sym (take_more_set out i w inside)) (All-push (λ w. unsigned_abs w ≤ 2 ^ 30) (take i out) w so_far small)

pub loop-i-preserved : goal.loop-i-preserved
loop-i-preserved c =
    let i = c.loop-i.i in
    let xs = c.args.samples.now in
    let out = c.loop-i.out in
    let depth = c.args.depth in
    let inside : i < length xs = omega arith in
    let inside_out : i < length out = omega arith in
    let x = get_or xs i (pos 0) in
    let x_fits : FitsSigned w32 x = search rules in
    let input_fits : FitsSigned w64 c.entering_value.result = search rules in
    let last_fits : FitsSigned w64 c.after-filter.result.passed.last = search rules in
    let w_fits : FitsSigned w32 c.leaving_value.result = search rules in
    let input = simp to_z-of_z at c.entering_value.ensures.value in
    let output = simp to_z-of_z at c.leaving_value.ensures.value in
    let was_fed = λ (fed : List ℤ) (was : WasFed c.args.self.now depth fed).
    c.after-filter.ensures depth x (fed ++ take i xs) (to_z-of_z w64 _ input_fits ∙ input) (c.loop-i.invariant.0 fed was) in (
      λ fed was. WasFed-more c.after-filter.result depth fed xs i x inside refl (was_fed fed was),
      λ fed was. simp to_z-of_z
          (weighted-more depth fed xs out i x c.after-filter.result.passed.last c.leaving_value.result inside inside_out refl
          (was_fed fed was).passed.last output (c.loop-i.invariant.1 fed was)),
      simp to_z-of_z (small_more out i c.leaving_value.result inside_out c.loop-i.invariant.2 c.leaving_value.ensures.small),
    )

at_end : (xs : List ℤ) (i : ℕ) → length xs ≤ i → take i xs ≡ xs
at_end xs i past = take_all i xs past

pub returns-clause-state : goal.returns-clause-state
returns-clause-state c = λ fed was.
    let P : List ℤ → Type 0 = λ ys. WasFed c.loop-i.filter c.args.depth (fed ++ ys) in
    subst P (at_end c.args.samples.now c.loop-i.i (omega arith)) (c.loop-i.invariant.0 fed was)

pub returns-clause-value : goal.returns-clause-value
returns-clause-value c = λ fed was.
    ap (λ (ys : List ℤ). weighted c.args.depth (fed ++ ys)) (sym (at_end c.args.samples.now c.loop-i.i (omega arith)))
    ∙ c.loop-i.invariant.1 fed was
    ∙ ap (λ (ys : List ℤ). weighted c.args.depth fed ++ ys) (at_end c.loop-i.out c.loop-i.i (omega arith))

pub returns-clause-small : goal.returns-clause-small
returns-clause-small c =
    let P : List ℤ → Type 0 = λ ys. All (λ w. unsigned_abs w ≤ 2 ^ 30) ys in
    subst P (at_end c.loop-i.out c.loop-i.i (omega arith)) c.loop-i.invariant.2
