use Rattle.std.proofs.Common.{◌≡◌, ◌≤◌, ◌*◌, ◌^◌, take, unsigned_abs}
use Rattle.true_peak.specs.Windows.{dot}
use Rattle.true_peak.proofs.history.phase_size.Given as goal

abbrev pub invariant-loop-k : goal.invariant-loop-k
invariant-loop-k l =
    (l.total ≡ dot (take l.k l.taps) (take l.k l.window)) × (unsigned_abs l.total ≤ l.k * 2 ^ 36)
