use Rattle.std.proofs.Common.{◌≤◌, ◌+◌, ℕ, List, All, subst, length, length-append, filter, sum, take, ap, ◌∙◌, sym, arith}
use Rattle.std.proofs.lemmas.List.Sums.{sum_by-append, length-filter, count_by-le-length}
use Rattle.std.proofs.lemmas.List.Elements.{All-append, All-weaker, All-filter}
use Rattle.sound_model.specs.Ranges.{is_window_audible}
use Rattle.album_merge.specs.declared.members.Member.{Member}
use Rattle.album_merge.specs.Joined.{windows_in, greatest_window_in}
use Rattle.album_merge.proofs.Running.{joined_more, greatest_of_one}
use Rattle.album_merge.proofs.ranges.audible_windows.Goals as goal

pub loop-member-preserved : goal.loop-member-preserved
loop-member-preserved c =
    let joined = windows_in (take c.loop-member.member-index c.args.members.now) in
    let own = c.member-item.result.tally.windows in
    let more = joined_more (λ (m : Member). m.tally.windows) c.args.members.now c.loop-member.member-index c.member-item.result
    c.loop-member-test.true c.member-item.is in
    let longer = ap length more ∙ length-append joined own in
    let greater = ap sum more ∙ sum_by-append (λ z. z) joined own in
    let counted = c.add_audible.ensures.count ∙ ap (λ (zs : List ℕ). c.loop-member.audible.count + length zs) c.windows.ensures.audible in
    let summed = c.add_audible.ensures.sum ∙ ap (λ (zs : List ℕ). c.loop-member.audible.sum + sum zs) c.windows.ensures.audible in
    let fewer = length-filter is_window_audible c.windows.result.now in
    let within = count_by-le-length is_window_audible c.windows.result.now in
    let Own : ℕ → Type 0 = λ z. z ≤ c.member-item.result.tally.greatest_window in
    let Within : ℕ → Type 0 = λ z. z ≤ greatest_window_in c.args.members.now in
    let most = greatest_of_one (λ (m : Member). m.tally.greatest_window) c.args.members.now c.loop-member.member-index c.member-item.result
    c.loop-member-test.true c.member-item.is in
    let below : (z : ℕ) → Own z → Within z = λ z own. omega (arith, own, most) in
    record {
      count = omega (arith, longer, counted, c.loop-member.invariant.count);
      sum = omega (arith, greater, summed, c.loop-member.invariant.sum);
      within =
          subst (All Within) (sym more)
          (All-append Within joined own c.loop-member.invariant.within (All-weaker Own Within below own
          (subst (All Own) c.windows.ensures.audible (All-filter is_window_audible Own c.windows.result.now c.windows.ensures.within))));
      few = omega (arith, c.add_audible.ensures.count, fewer, within, c.windows.ensures.few, c.loop-member.invariant.few);
    }
