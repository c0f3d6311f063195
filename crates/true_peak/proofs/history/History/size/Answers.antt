use Rattle.true_peak.proofs.Sizes.{size_of_parts}
use Rattle.std.proofs.lemmas.Int.{to_z-of_z}
use Rattle.true_peak.proofs.history.History.size.Goals as goal

pub returns : goal.returns
returns c =
    let value_fits = c.ranges.value in
    let window = simp to_z-of_z at c.window-window.ensures.window in
    let own = simp to_z-of_z at c.unsigned_abs.ensures.value in
    size_of_parts c.args.value c.window-window.result c.args.self.before c.unsigned_abs.result
    c.phase_size.result c.phase_size-2.result c.phase_size-3.result c.phase_size-4.result
    c.max-outer.result c.max-inner.result c.max.result c.max-2.result
    window own c.phase_size.ensures c.phase_size-2.ensures c.phase_size-3.ensures c.phase_size-4.ensures
    c.max-outer.ensures c.max-inner.ensures c.max.ensures c.max-2.ensures
