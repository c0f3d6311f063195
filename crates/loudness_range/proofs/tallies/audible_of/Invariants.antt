use Rattle.std.proofs.Common.{◌≡◌, ◌≤◌, ◌*◌, ◌^◌, filter, take, length}
use Rattle.std.specs.Prelude.{sum}
use Rattle.sound_model.specs.Ranges.{is_window_audible}
use Rattle.loudness_range.proofs.tallies.audible_of.Given as goal

abbrev pub invariant-loop-energy : goal.invariant-loop-energy
invariant-loop-energy l = record {
  count : l.count ≡ length (filter is_window_audible (take l.energy-index l.windows));
  sum : l.sum ≡ sum (filter is_window_audible (take l.energy-index l.windows));
  few : l.count ≤ l.energy-index;
  small : l.sum ≤ l.count * 2 ^ 87;
}
