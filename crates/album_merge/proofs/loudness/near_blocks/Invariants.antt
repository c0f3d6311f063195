use Rattle.std.proofs.Common.{◌≤◌, ◌*◌, filter, take}
use Rattle.lib_base.specs.declared.limits.TheConstants.{MOST_SEGMENTS}
use Rattle.sound_model.specs.Loudness.{is_near}
use Rattle.gate_blocks.specs.Bounds.{IsTallyOf}
use Rattle.album_merge.specs.Joined.{blocks_in}
use Rattle.album_merge.proofs.loudness.near_blocks.Given as goal

abbrev pub invariant-loop-member : goal.invariant-loop-member
invariant-loop-member l = record {
  tally : IsTallyOf (filter (is_near (blocks_in l.members)) (blocks_in (take l.member-index l.members))) l.near.count l.near.sum;
  few : l.near.count ≤ l.member-index * MOST_SEGMENTS;
}
