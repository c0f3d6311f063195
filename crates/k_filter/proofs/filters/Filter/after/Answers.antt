use Rattle.std.proofs.Common.{rules, w64, FitsSigned}
use Rattle.std.proofs.lemmas.Int.{to_z-of_z}
use Rattle.k_filter.proofs.Feeding.{kept_after}
use Rattle.k_filter.proofs.filters.Filter.after.Goals as goal

pub returns : goal.returns
returns c = λ depth sample fed is_input was.
    let input_fits = c.ranges.input in
    let shelved_fits : FitsSigned w64 c.shelf_output-shelved.result = search rules in
    let passed_fits : FitsSigned w64 c.high_pass_output-passed.result = search rules in
    let shelved = simp to_z-of_z at c.shelf_output-shelved.ensures.value in
    let passed = simp to_z-of_z at c.high_pass_output-passed.ensures.value in
    let input_last = simp to_z-of_z at c.then.ensures.last in
    let shelved_last = simp to_z-of_z at c.then-2.ensures.last in
    let passed_last = simp to_z-of_z at c.then-3.ensures.last in
    let kept = kept_after c.args.self.inputs c.args.self.shelved c.args.self.passed c.then.result c.then-2.result c.then-3.result depth sample fed
    c.args.input c.shelf_output-shelved.result c.high_pass_output-passed.result
    is_input was.inputs was.shelved was.passed shelved passed
    input_last c.then.ensures.before shelved_last c.then-2.ensures.before passed_last c.then-3.ensures.before in
    record { inputs = kept.0; shelved = kept.1; passed = kept.2 }
