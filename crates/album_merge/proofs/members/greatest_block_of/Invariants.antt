use Rattle.std.proofs.Common.{◌≡◌, ◌≤◌, ◌*◌, take}
use Rattle.lib_base.specs.declared.limits.TheConstants.{GREATEST_ENERGY, BLOCK_SEGMENTS}
use Rattle.album_merge.specs.Joined.{greatest_block_in}
use Rattle.album_merge.proofs.members.greatest_block_of.Given as goal

abbrev pub invariant-loop-member : goal.invariant-loop-member
invariant-loop-member l = record {
  value : l.most ≡ greatest_block_in (take l.member-index l.members);
  within : l.most ≤ BLOCK_SEGMENTS * GREATEST_ENERGY;
}
