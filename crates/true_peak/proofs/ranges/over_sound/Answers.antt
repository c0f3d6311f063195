use Rattle.std.proofs.Common.{◌≡◌, ◌+◌, length, take, drop, length-append, length-drop, length-take, refl, arith}
use Rattle.lib_base.specs.Sounds.{samples_of}
use Rattle.true_peak.proofs.Hearing.{Heard-at}
use Rattle.true_peak.proofs.ranges.over_sound.Goals as goal

pub loop-place-preserved : goal.loop-place-preserved
loop-place-preserved g c =
    let depth = g.S.Sound.depth c.args.sound.now in
    let list = samples_of (g.S.Sound.lists c.args.sound.now) c.args.channel in
    let place = c.loop-place.place in
    let count = c.min-count.result in
    let piece = c.loop-place.piece in
    let whole : length piece ≡ 4096 = c.loop-place.invariant.2 in
    let taken : length (take count piece) ≡ count = omega (arith, length-take count piece) in
    let left = length-drop count piece in
    let stays : length c.over_piece-run.new.piece ≡ length (take count piece) = omega arith in
    let both = length-append c.over_piece-run.new.piece (drop count piece) in (
      omega arith,
      omega arith,
      omega arith,
      omega arith,
      λ first order heard.
          Heard-at c.over_piece-run.result depth list first (place + length (take count piece)) (place + count) (omega arith)
          (c.over_piece-run.ensures.heard list first place (omega arith) refl (c.loop-place.invariant.4 first order heard)),
    )

pub returns-clause-heard : goal.returns-clause-heard
returns-clause-heard g c = λ first order heard.
    Heard-at c.loop-place.run (g.S.Sound.depth c.args.sound.now) (samples_of (g.S.Sound.lists c.args.sound.now) c.args.channel)
    first c.loop-place.place c.args.to (omega arith) (c.loop-place.invariant.4 first order heard)
