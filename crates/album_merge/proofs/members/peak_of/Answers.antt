use Rattle.std.proofs.Common.{◌≡◌, max, ap, ◌∙◌, arith}
use Rattle.lib_base.specs.declared.files.Summary.{Summary}
use Rattle.album_merge.specs.declared.members.Member.{Member}
use Rattle.album_merge.proofs.Running.{greatest_more}
use Rattle.album_merge.proofs.members.peak_of.Goals as goal

pub loop-member-preserved : goal.loop-member-preserved
loop-member-preserved c =
    let peak = ap (λ (s : Summary). s.peak) c.summary.ensures.kept in
    record {
      value =
          greatest_more (λ (m : Member). m.tally.summary.peak) c.args.members.now c.loop-member.member-index c.member-item.result c.loop-member.most
          c.max-most.result c.loop-member-test.true c.member-item.is c.loop-member.invariant.value
          (c.max-most.ensures ∙ ap (λ n. max c.loop-member.most n) peak);
      within = omega (arith, c.max-most.ensures, c.summary.ensures.peak);
    }
