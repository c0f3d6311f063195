use Rattle.std.proofs.Common.{◌<◌, ◌≤◌, ◌-◌, ℕ, nat_lt, nat_le, count_by}
use Rattle.std.specs.Prelude.{◌&&◌}
use Rattle.album_merge.specs.Joined.{windows_in}
use Rattle.album_merge.proofs.ranges.window_at.Given as goal

abbrev pub invariant-loop-low : goal.invariant-loop-low
invariant-loop-low l = record {
  below : count_by (λ (e : ℕ). nat_le l.least e && nat_lt e l.low) (windows_in l.members) ≤ l.place;
  above : l.place < count_by (λ (e : ℕ). nat_le l.least e && nat_le e l.high) (windows_in l.members);
  from_least : l.least ≤ l.low;
  to_high : l.least ≤ l.high;
  to_most : l.high ≤ l.most;
}

abbrev pub decreases-loop-low : goal.decreases-loop-low
decreases-loop-low l = l.high - l.low
