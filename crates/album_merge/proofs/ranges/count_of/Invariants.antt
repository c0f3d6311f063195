use Rattle.std.proofs.Common.{◌≡◌, ◌≤◌, ℕ, take, filter, nat_le, count_by}
use Rattle.std.specs.Prelude.{◌&&◌}
use Rattle.sound_model.specs.Ranges.{is_window_audible}
use Rattle.album_merge.proofs.ranges.count_of.Given as goal

abbrev pub invariant-loop-energy : goal.invariant-loop-energy
invariant-loop-energy l = record {
  count : l.count ≡ count_by (λ (e : ℕ). nat_le l.least e && nat_le e l.most) (filter is_window_audible (take l.energy-index l.windows));
  few : l.count ≤ l.energy-index;
}
