use Rattle.std.proofs.Common.{◌+◌}
use Rattle.measure_pool.specs.Jobs.{AreGathered}
use Rattle.measure_pool.proofs.found.add_round.Given as goal

abbrev pub invariant-loop-place : goal.invariant-loop-place
invariant-loop-place g l =
    AreGathered (g.S.Sound.depth l.sound) (g.S.Sound.frames l.sound) (g.S.Sound.lists l.sound) l.plan (l.first + l.place) l.totals l.most
