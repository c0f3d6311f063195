use Rattle.std.proofs.Common.{◌∙◌, rules, arith, w64, FitsSigned}
use Rattle.std.specs.Int.{w128}
use Rattle.std.proofs.lemmas.Int.{to_z-of_z}
use Rattle.k_filter.proofs.Sums.{shelf_next, shelf_products}
use Rattle.k_filter.proofs.sections.shelf_output.Goals as goal

pub returns-clause-value : goal.returns-clause-value
returns-clause-value c =
    let held_fits : FitsSigned w64 c.held_output.result = search rules in
    let whole_fits : FitsSigned w64 c.whole_units.result = search rules in
    let sum_fits : FitsSigned w128 c.shelf_sum.result = search rules in
    let input_fits = c.ranges.input in
    let output = simp to_z-of_z at c.held_output.ensures.value in
    let total = simp to_z-of_z at c.shelf_sum.ensures.value in
    let whole = simp to_z-of_z at c.whole_units.ensures.value in
    to_z-of_z w64 _ held_fits ∙ output
    ∙ shelf_next c.args.input c.args.inputs.last c.args.inputs.before c.args.outputs.last c.args.outputs.before
    c.shelf_sum.result c.whole_units.result total whole

pub returns-clause-products : goal.returns-clause-products
returns-clause-products c =
    shelf_products c.args.input c.args.inputs.last c.args.inputs.before c.args.outputs.last c.args.outputs.before
    (omega arith) (omega arith) (omega arith) c.requires.last_output c.requires.output_before
