use Rattle.std.proofs.Common.{◌≡◌, ◌≤◌, ◌*◌, take}
use Rattle.lib_base.specs.declared.limits.TheConstants.{GREATEST_ENERGY, WINDOW_SEGMENTS}
use Rattle.album_merge.specs.Joined.{greatest_window_in}
use Rattle.album_merge.proofs.members.greatest_window_of.Given as goal

abbrev pub invariant-loop-member : goal.invariant-loop-member
invariant-loop-member l = record {
  value : l.most ≡ greatest_window_in (take l.member-index l.members);
  within : l.most ≤ WINDOW_SEGMENTS * GREATEST_ENERGY;
}
