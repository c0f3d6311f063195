use Rattle.std.proofs.Common.{◌≤◌, ◌<◌, ◌+◌, ℕ, ℤ, List, length}
use Rattle.true_peak.specs.Heard.{Heard}
use Rattle.true_peak.proofs.runs.Run.over_silence.Given as goal

abbrev pub invariant-loop-i : goal.invariant-loop-i
invariant-loop-i l =
    (depth : ℕ) (all : List ℤ) (first place : ℕ) → first ≤ place → (0 < l.count → length all ≤ place)
    → Heard l.initial.passed depth all first place → Heard l.passed depth all first (place + l._i)
