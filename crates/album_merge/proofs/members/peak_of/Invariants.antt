use Rattle.std.proofs.Common.{◌≡◌, ◌≤◌, ◌*◌, take}
use Rattle.lib_base.specs.declared.limits.TheConstants.{GREATEST_PEAK}
use Rattle.album_merge.specs.Joined.{peak_in}
use Rattle.album_merge.proofs.members.peak_of.Given as goal

abbrev pub invariant-loop-member : goal.invariant-loop-member
invariant-loop-member l = record {
  value : l.most ≡ peak_in (take l.member-index l.members);
  within : l.most ≤ GREATEST_PEAK;
}
