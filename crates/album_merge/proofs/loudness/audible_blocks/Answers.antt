use Rattle.std.proofs.Common.{◌++◌, ℕ, List, take, length, subst, sym, ap, ◌∙◌, arith}
use Rattle.gate_blocks.specs.Bounds.{IsTallyOf}
use Rattle.album_merge.specs.declared.members.Member.{Member}
use Rattle.album_merge.specs.Joined.{blocks_in}
use Rattle.album_merge.proofs.Running.{joined_more}
use Rattle.album_merge.proofs.loudness.audible_blocks.Goals as goal

pub loop-member-preserved : goal.loop-member-preserved
loop-member-preserved c =
    let joined = blocks_in (take c.loop-member.member-index c.args.members.now) in
    let more = joined_more (λ (m : Member). m.tally.blocks) c.args.members.now c.loop-member.member-index c.member-item.result
    c.loop-member-test.true c.member-item.is in
    let IsOf : List ℕ → Type 0 = λ blocks. IsTallyOf blocks c.add_audible.new.self.count c.add_audible.new.self.sum in
    record {
      tally =
          subst IsOf (ap (λ (blocks : List ℕ). joined ++ blocks) c.blocks-in-loop-member.ensures.audible ∙ sym more)
          (c.add_audible.ensures.tally joined c.loop-member.invariant.tally);
      few = omega (arith, c.add_audible.ensures.count, c.loop-member.invariant.few, c.blocks-in-loop-member.ensures.few);
    }
