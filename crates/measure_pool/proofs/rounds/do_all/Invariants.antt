use Rattle.std.proofs.Common.{◌≤◌, ◌-◌}
use Rattle.measure_pool.specs.Jobs.{AreGathered}
use Rattle.measure_pool.proofs.rounds.do_all.Given as goal

abbrev pub invariant-rounds : goal.invariant-rounds
invariant-rounds g l = record {
  within : l.first ≤ l.jobs;
  gathered : AreGathered (g.S.Sound.depth l.sound) (g.S.Sound.frames l.sound) (g.S.Sound.lists l.sound) l.plan l.first l.totals l.most;
}

abbrev pub decreases-rounds : goal.decreases-rounds
decreases-rounds g l = l.jobs - l.first
