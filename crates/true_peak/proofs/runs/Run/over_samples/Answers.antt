use Rattle.std.proofs.Common.{◌<◌, ◌+◌, ◌∙◌, pos, length, get_or, rules, arith, w32, w64, FitsSigned}
use Rattle.std.proofs.lemmas.Int.{to_z-of_z}
use Rattle.true_peak.proofs.Hearing.{Heard-at, sample_of_piece}
use Rattle.true_peak.proofs.runs.Run.over_samples.Goals as goal

pub loop-i-init : goal.loop-i-init
loop-i-init c = λ all first place order is_part heard. Heard-at c.args.self c.args.depth all first place (place + 0) (omega arith) heard

pub loop-i-preserved : goal.loop-i-preserved
loop-i-preserved c = λ all first place order is_part heard.
    let i = c.loop-i.i in
    let samples = c.args.samples.now in
    let inside : i < length samples = omega arith in
    let x_fits : FitsSigned w32 (get_or samples i (pos 0)) = search rules in
    let value_fits : FitsSigned w64 c.scaled.result = search rules in
    let value = simp to_z-of_z at c.scaled.ensures.value in
    Heard-at c.over-run.result c.args.depth all first (place + i + 1) (place + (i + 1)) (omega arith)
    (c.over-run.ensures c.args.depth all first (place + i) (omega (arith, order))
    (to_z-of_z w64 _ value_fits ∙ value ∙ sample_of_piece c.args.depth samples all place i inside is_part)
    (c.loop-i.invariant all first place order is_part heard))

pub returns : goal.returns
returns c = λ all first place order is_part heard.
    Heard-at c.loop-i.run c.args.depth all first (place + c.loop-i.i) (place + length c.args.samples.now) (omega arith)
    (c.loop-i.invariant all first place order is_part heard)
