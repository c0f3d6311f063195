use Rattle.std.proofs.Common.{◌≡◌, filter, take}
use Rattle.sound_model.specs.Ranges.{is_window_audible}
use Rattle.loudness_range.proofs.gates.audible_windows.Given as goal

abbrev pub invariant-loop-energy : goal.invariant-loop-energy
invariant-loop-energy l = l.audible.items ≡ filter is_window_audible (take l.energy-index l.windows)
