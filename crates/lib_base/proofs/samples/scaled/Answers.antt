use Rattle.std.proofs.Common.{◌∙◌, ◌≡◌, ◌≤◌, ◌^◌, ◌*ℤ◌, ℤ, subst, sym, rules, unsigned_abs, w32, w64, FitsSigned}
use Rattle.std.proofs.lemmas.Int.{to_z-of_z}
use Rattle.lib_base.specs.Sounds.{scaled}
use Rattle.lib_base.proofs.Scales.{scaled_is, scaled_fits, scaled_small}
use Rattle.lib_base.proofs.samples.scaled.Goals as goal

same_product : (c : goal.After-scale) → c.from.result *ℤ c.scale.result ≡ scaled c.args.depth c.args.sample
same_product c =
    scaled_is c.args.depth c.args.sample c.from.result c.scale.result
    (c.from.ensures ∙ to_z-of_z w32 c.args.sample c.ranges.sample) c.scale.ensures

product_fits : (c : goal.After-scale) → FitsSigned w64 (c.from.result *ℤ c.scale.result)
product_fits c =
    scaled_fits c.args.depth c.args.sample c.from.result c.scale.result c.requires.low c.requires.high c.requires.within (same_product c)

pub overflow_mul-result : goal.overflow_mul-result
overflow_mul-result c =
    let from_fits : FitsSigned w64 c.from.result = search rules in
    let scale_fits : FitsSigned w64 c.scale.result = search rules in
    simp to_z-of_z (product_fits c)

pub returns-clause-value : goal.returns-clause-value
returns-clause-value c =
    let from_fits : FitsSigned w64 c.from.result = search rules in
    let scale_fits : FitsSigned w64 c.scale.result = search rules in
    let fits = product_fits c in
    simp to_z-of_z (same_product c)

pub returns-clause-small : goal.returns-clause-small
returns-clause-small c =
    let from_fits : FitsSigned w64 c.from.result = search rules in
    let scale_fits : FitsSigned w64 c.scale.result = search rules in
    let fits = product_fits c in
    let P : ℤ → Type 0 = λ z. unsigned_abs z ≤ 2 ^ 23 in
    simp to_z-of_z
    (subst P (sym (same_product c)) (scaled_small c.args.depth c.args.sample c.requires.low c.requires.high c.requires.within))
