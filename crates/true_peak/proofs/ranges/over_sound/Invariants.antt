use Rattle.std.proofs.Common.{◌≡◌, ◌≤◌, ◌-◌, ℕ, length}
use Rattle.lib_base.specs.Sounds.{samples_of}
use Rattle.true_peak.specs.Heard.{Heard}
use Rattle.true_peak.proofs.ranges.over_sound.Given as goal

abbrev pub invariant-loop-place : goal.invariant-loop-place
invariant-loop-place g l =
    (l.from ≤ l.place) × (l.place ≤ l.to) × (length l.piece ≡ 4096) × (length l.scratch.cells ≡ length l.initial.scratch.cells)
    × ((first : ℕ) → first ≤ l.from → Heard l.initial.run (g.S.Sound.depth l.sound) (samples_of (g.S.Sound.lists l.sound) l.channel) first l.from
    → Heard l.run (g.S.Sound.depth l.sound) (samples_of (g.S.Sound.lists l.sound) l.channel) first l.place)

abbrev pub decreases-loop-place : goal.decreases-loop-place
decreases-loop-place g l = l.to - l.place
