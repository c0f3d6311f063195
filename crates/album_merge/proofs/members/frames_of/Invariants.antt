use Rattle.std.proofs.Common.{◌≡◌, ◌≤◌, ◌*◌, take}
use Rattle.lib_base.specs.declared.limits.TheConstants.{MOST_SAMPLES}
use Rattle.album_merge.specs.Joined.{frames_in}
use Rattle.album_merge.proofs.members.frames_of.Given as goal

abbrev pub invariant-loop-member : goal.invariant-loop-member
invariant-loop-member l = record {
  value : l.frames ≡ frames_in (take l.member-index l.members);
  small : l.frames ≤ l.member-index * MOST_SAMPLES;
}
