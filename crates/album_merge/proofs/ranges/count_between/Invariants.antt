use Rattle.std.proofs.Common.{◌≡◌, ◌≤◌, ◌*◌, ℕ, take, nat_le, count_by}
use Rattle.std.specs.Prelude.{◌&&◌}
use Rattle.lib_base.specs.declared.limits.TheConstants.{MOST_SEGMENTS}
use Rattle.album_merge.specs.Joined.{windows_in}
use Rattle.album_merge.proofs.ranges.count_between.Given as goal

abbrev pub invariant-loop-member : goal.invariant-loop-member
invariant-loop-member l = record {
  count : l.count ≡ count_by (λ (e : ℕ). nat_le l.least e && nat_le e l.most) (windows_in (take l.member-index l.members));
  few : l.count ≤ l.member-index * MOST_SEGMENTS;
}
