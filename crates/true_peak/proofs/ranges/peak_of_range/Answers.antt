use Rattle.std.proofs.Common.{◌+◌, ◌-◌, arith}
use Rattle.lib_base.specs.Sounds.{samples_of}
use Rattle.true_peak.proofs.Hearing.{Heard-at}
use Rattle.true_peak.proofs.ranges.peak_of_range.Goals as goal

pub returns-clause-peak : goal.returns-clause-peak
returns-clause-peak g c =
    let depth = g.S.Sound.depth c.args.sound.now in
    let list = samples_of (g.S.Sound.lists c.args.sound.now) c.args.channel in
    let from = c.args.from in
    let to = c.args.to in
    let end = c.max-end.result in
    let begun = c.behind-run.ensures depth list from c.history_before.ensures.history in
    let ended = c.over_sound-run.ensures.heard from (omega arith) begun in
    (Heard-at c.over_silence.result depth list from (end + (to - end)) to (omega arith)
    (c.over_silence.ensures depth list from end (omega arith) (λ some. omega (arith, some)) ended)).greatest
