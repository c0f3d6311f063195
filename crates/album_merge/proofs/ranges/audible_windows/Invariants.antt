use Rattle.std.proofs.Common.{◌≡◌, ◌≤◌, ◌*◌, take, length, sum, All}
use Rattle.lib_base.specs.declared.limits.TheConstants.{MOST_SEGMENTS}
use Rattle.album_merge.specs.Joined.{windows_in, greatest_window_in}
use Rattle.album_merge.proofs.ranges.audible_windows.Given as goal

abbrev pub invariant-loop-member : goal.invariant-loop-member
invariant-loop-member l = record {
  count : l.audible.count ≡ length (windows_in (take l.member-index l.members));
  sum : l.audible.sum ≡ sum (windows_in (take l.member-index l.members));
  within : All (λ z. z ≤ greatest_window_in l.members) (windows_in (take l.member-index l.members));
  few : l.audible.count ≤ l.member-index * MOST_SEGMENTS;
}
