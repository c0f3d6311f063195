use Rattle.std.proofs.Common.{◌++◌, ℕ, List, filter, take, subst, sym, ap, ◌∙◌, arith}
use Rattle.std.proofs.lemmas.List.Elements.{filter-append}
use Rattle.sound_model.specs.Loudness.{is_near}
use Rattle.gate_blocks.specs.Bounds.{IsTallyOf}
use Rattle.album_merge.specs.declared.members.Member.{Member}
use Rattle.album_merge.specs.Joined.{blocks_in}
use Rattle.album_merge.proofs.Running.{joined_more}
use Rattle.album_merge.proofs.loudness.near_blocks.Goals as goal

pub loop-member-preserved : goal.loop-member-preserved
loop-member-preserved c =
    let all = blocks_in c.args.members.now in
    let Near : List ℕ → List ℕ = filter (is_near all) in
    let joined = blocks_in (take c.loop-member.member-index c.args.members.now) in
    let more = joined_more (λ (m : Member). m.tally.blocks) c.args.members.now c.loop-member.member-index c.member-item.result
    c.loop-member-test.true c.member-item.is in
    let IsOf : List ℕ → Type 0 = λ blocks. IsTallyOf blocks c.add_near.new.self.count c.add_near.new.self.sum in
    record {
      tally =
          subst IsOf
          (ap (λ (blocks : List ℕ). Near joined ++ Near blocks) c.blocks-in-loop-member.ensures.audible
          ∙ sym (filter-append (is_near all) joined c.member-item.result.tally.blocks) ∙ ap Near (sym more))
          (c.add_near.ensures.tally all (Near joined) c.requires.audible c.loop-member.invariant.tally);
      few = omega (arith, c.add_near.ensures.count, c.loop-member.invariant.few, c.blocks-in-loop-member.ensures.few);
    }
