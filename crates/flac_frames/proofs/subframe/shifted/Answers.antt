use Rattle.std.proofs.Common.{◌≡◌, ◌^◌, ◌∙◌, ap, sym, subst, rules, ℕ, w32, w64, FitsSigned}
use Rattle.std.specs.Prelude.{ℤ, pos, ◌*ℤ◌}
use Rattle.std.proofs.lemmas.Int.{to_z-of_z}
use Rattle.lib_base.specs.Sounds.{IsSample}
use Rattle.flac_frames.proofs.Subframes.{few_bits, shifted_within}
use Rattle.flac_frames.proofs.subframe.shifted.Goals as goal

pub product-requires-clause-sample : goal.product-requires-clause-sample
product-requires-clause-sample c =
    let fits : FitsSigned w32 c.args.sample = search rules in
    simp to_z-of_z (few_bits c.args.depth c.args.wasted c.args.sample c.requires.depth c.requires.within)

pub narrowed-requires-clause-within : goal.narrowed-requires-clause-within
narrowed-requires-clause-within c =
    let sample_fits : FitsSigned w32 c.args.sample = search rules in
    let fits : FitsSigned w64 c.product.result = search rules in
    let value = simp to_z-of_z at c.product.ensures in
    let is = value ∙ ap (λ (n : ℕ). c.args.sample *ℤ pos n) c.power.ensures.value in
    simp to_z-of_z (subst (IsSample c.args.depth) (sym is) (shifted_within c.args.depth c.args.wasted c.args.sample c.requires.wasted c.requires.within))

pub returns-clause-value : goal.returns-clause-value
returns-clause-value c =
    let sample_fits : FitsSigned w32 c.args.sample = search rules in
    let fits : FitsSigned w64 c.product.result = search rules in
    let result_fits : FitsSigned w32 c.narrowed.result = search rules in
    let value = simp to_z-of_z at c.product.ensures in
    let told = simp to_z-of_z at c.narrowed.ensures in
    simp to_z-of_z (told ∙ value ∙ ap (λ (n : ℕ). c.args.sample *ℤ pos n) c.power.ensures.value)

pub returns-clause-within : goal.returns-clause-within
returns-clause-within c =
    let sample_fits : FitsSigned w32 c.args.sample = search rules in
    let fits : FitsSigned w64 c.product.result = search rules in
    let result_fits : FitsSigned w32 c.narrowed.result = search rules in
    let value = simp to_z-of_z at c.product.ensures in
    let told = simp to_z-of_z at c.narrowed.ensures in
    let is = told ∙ value ∙ ap (λ (n : ℕ). c.args.sample *ℤ pos n) c.power.ensures.value in
    simp to_z-of_z (subst (IsSample c.args.depth) (sym is) (shifted_within c.args.depth c.args.wasted c.args.sample c.requires.wasted c.requires.within))
