use Rattle.std.proofs.Common.{◌∙◌, ◌^◌, ap, rules, arith, w64, FitsSigned}
use Rattle.std.specs.Int.{w128}
use Rattle.std.proofs.lemmas.Int.{to_z-of_z}
use Rattle.sound_model.specs.Weighted.{held}
use Rattle.k_filter.proofs.Sums.{high_pass_next, high_pass_products}
use Rattle.k_filter.proofs.sections.high_pass_output.Goals as goal

pub returns-clause-value : goal.returns-clause-value
returns-clause-value c =
    let held_fits : FitsSigned w64 c.held_output.result = search rules in
    let whole_fits : FitsSigned w64 c.high_pass_whole-whole.result = search rules in
    let units_fit : FitsSigned w64 c.whole_units.result = search rules in
    let rest_fits : FitsSigned w128 c.high_pass_rest.result = search rules in
    let added_fits : FitsSigned w64 c.added.result = search rules in
    let input_fits = c.ranges.input in
    let output = simp to_z-of_z at c.held_output.ensures.value in
    let sum = simp to_z-of_z at c.added.ensures in
    let whole = simp to_z-of_z at c.high_pass_whole-whole.ensures.value in
    let units = simp to_z-of_z at c.whole_units.ensures.value in
    to_z-of_z w64 _ held_fits ∙ output ∙ ap (held (2 ^ 50)) sum
    ∙ high_pass_next c.args.input c.args.inputs.last c.args.inputs.before c.args.outputs.last c.args.outputs.before
    c.high_pass_whole-whole.result c.high_pass_rest.result c.whole_units.result whole c.high_pass_rest.ensures.value units

pub returns-clause-products : goal.returns-clause-products
returns-clause-products c =
    high_pass_products c.args.input c.args.inputs.last c.args.inputs.before c.args.outputs.last c.args.outputs.before
    (omega arith) (omega arith) (omega arith) c.requires.last_output c.requires.output_before
