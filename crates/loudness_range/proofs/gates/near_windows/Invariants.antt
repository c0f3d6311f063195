use Rattle.std.proofs.Common.{◌≡◌, filter, take}
use Rattle.sound_model.specs.Ranges.{is_window_near}
use Rattle.loudness_range.proofs.gates.near_windows.Given as goal

abbrev pub invariant-loop-energy : goal.invariant-loop-energy
invariant-loop-energy l = l.near.items ≡ filter (is_window_near l.windows) (take l.energy-index l.windows)
