use Rattle.std.proofs.Common.{◌≡◌, ◌≤◌, ◌+◌, ℕ, ℤ, List, length}
use Rattle.lib_base.specs.Sounds.{part}
use Rattle.true_peak.specs.Heard.{Heard}
use Rattle.true_peak.proofs.runs.Run.over_samples.Given as goal

abbrev pub invariant-loop-i : goal.invariant-loop-i
invariant-loop-i l =
    (all : List ℤ) (first place : ℕ) → first ≤ place → l.samples ≡ part all place (length l.samples)
    → Heard l.initial.run l.depth all first place → Heard l.run l.depth all first (place + l.i)
