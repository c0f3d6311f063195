use Rattle.std.proofs.Common.{◌≡◌, ◌*◌, ◌^◌, ◌&&◌, ℕ, List, length, nat_le, true, sym, ap, ◌∙◌, arith}
use Rattle.std.specs.Prelude.{sum}
use Rattle.sound_model.specs.Ranges.{is_window_audible, is_window_near}
use Rattle.loudness_range.proofs.Ceilings.{near_reached, audible_from}
use Rattle.loudness_range.proofs.tallies.WindowTally.least_passing.Goals as goal

pub returns-clause-passes : goal.returns-clause-passes
returns-clause-passes c audible energy counted summed =
    near_reached audible energy c.max.result c.least_near.result c.args.self.count c.args.self.sum c.max.ensures counted summed
    (c.least_near.ensures.passes energy)

pub returns-clause-audible : goal.returns-clause-audible
returns-clause-audible c energy reached = audible_from c.max.result c.least_near.result energy c.max.ensures reached
