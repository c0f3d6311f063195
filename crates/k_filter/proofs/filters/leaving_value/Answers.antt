use Rattle.std.proofs.Common.{◌∙◌, ◌^◌, ap, rules, w32, w64, FitsSigned}
use Rattle.std.proofs.lemmas.Int.{to_z-of_z}
use Rattle.sound_model.specs.Weighted.{held, leaving}
use Rattle.k_filter.proofs.filters.leaving_value.Goals as goal

pub returns-clause-value : goal.returns-clause-value
unfolding leaving
returns-clause-value c =
    let held_fits : FitsSigned w32 c.held_weighted.result = search rules in
    let coarse_fits : FitsSigned w64 c.coarse.result = search rules in
    let output_fits = c.ranges.output in
    let coarse = simp to_z-of_z at c.coarse.ensures in
    let value = simp to_z-of_z at c.held_weighted.ensures.value in
    to_z-of_z w32 _ held_fits ∙ value ∙ ap (held (2 ^ 30)) coarse
