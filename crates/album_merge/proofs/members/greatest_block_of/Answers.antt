use Rattle.std.proofs.Common.{arith}
use Rattle.album_merge.specs.declared.members.Member.{Member}
use Rattle.album_merge.proofs.Running.{greatest_more}
use Rattle.album_merge.proofs.members.greatest_block_of.Goals as goal

pub loop-member-preserved : goal.loop-member-preserved
loop-member-preserved c = record {
  value =
      greatest_more (λ (m : Member). m.tally.greatest_block) c.args.members.now c.loop-member.member-index c.member-item.result c.loop-member.most
      c.max-most.result c.loop-member-test.true c.member-item.is c.loop-member.invariant.value (rw (← c.greatest_block.ensures.value) c.max-most.ensures);
  within = omega (arith, c.max-most.ensures, c.greatest_block.ensures.within);
}
