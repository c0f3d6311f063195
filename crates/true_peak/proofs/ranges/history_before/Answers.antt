use Rattle.std.proofs.Common.{◌+◌, ◌-◌, ◌∙◌, ℤ, pos, List, length, take, drop, replicate, length-take, length-drop, refl, arith}
use Rattle.lib_base.specs.Sounds.{samples_of}
use Rattle.true_peak.proofs.Places.{history_at-drop}
use Rattle.true_peak.proofs.Hearing.{Heard-at}
use Rattle.true_peak.proofs.ranges.history_before.Goals as goal

pub returns-clause-history : goal.returns-clause-history
returns-clause-history g c =
    let depth = g.S.Sound.depth c.args.sound.now in
    let list = samples_of (g.S.Sound.lists c.args.sound.now) c.args.channel in
    let place = c.args.place in
    let start = c.saturating_sub-start.result in
    let count = c.min-count.result in
    let left = length-drop start list in
    let begun = c.new.ensures depth (drop start list) in
    let silence : List ℤ = replicate 11 (pos 0) in
    let room = length-take count silence in
    let heard =
    Heard-at c.over_piece-run.result depth (drop start list) 0 (0 + length (take count silence)) count (omega arith)
    (c.over_piece-run.ensures.heard (drop start list) 0 0 (omega arith) refl begun) in
    let passed =
    Heard-at c.over_silence.result depth (drop start list) 0 (count + (place - start - count)) (place - start) (omega arith)
    (c.over_silence.ensures depth (drop start list) 0 count (omega arith) (λ some. omega (arith, some)) heard) in
    passed.history ∙ history_at-drop depth list start place (omega arith)
