use Rattle.std.proofs.Common.{◌≤◌, ◌*◌, take}
use Rattle.lib_base.specs.declared.limits.TheConstants.{MOST_SEGMENTS}
use Rattle.gate_blocks.specs.Bounds.{IsTallyOf}
use Rattle.album_merge.specs.Joined.{blocks_in}
use Rattle.album_merge.proofs.loudness.audible_blocks.Given as goal

abbrev pub invariant-loop-member : goal.invariant-loop-member
invariant-loop-member l = record {
  tally : IsTallyOf (blocks_in (take l.member-index l.members)) l.audible.count l.audible.sum;
  few : l.audible.count ≤ l.member-index * MOST_SEGMENTS;
}
