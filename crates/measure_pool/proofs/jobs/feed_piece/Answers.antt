use Rattle.std.proofs.Common.{◌≡◌, ◌+◌, ◌++◌, ℕ, List, take, length, subst, sym, ap, ◌∙◌}
use Rattle.std.specs.Prelude.{ℤ}
use Rattle.std.proofs.Math.Seq.{take-add}
use Rattle.lib_base.specs.Sounds.{samples_of}
use Rattle.measure_pool.specs.Lines.{IsFed}
use Rattle.measure_pool.proofs.jobs.feed_piece.Goals as goal

pub returns-clause-fed : goal.returns-clause-fed
returns-clause-fed g c = λ was.
    let depth = g.S.Sound.depth c.args.sound.now in
    let samples = samples_of (g.S.Sound.lists c.args.sound.now) c.args.channel in
    let front = take c.args.start samples in
    let OfSamples : List ℤ → Type 0 = λ fed. IsFed c.feed.new.self depth fed in
    let joined : front ++ c.fill.new.out ≡ take (c.args.start + length c.args.samples.now) samples =
    ap (λ (piece : List ℤ). front ++ piece) c.fill.ensures.samples ∙ sym (take-add c.args.start (length c.args.samples.now) samples) in
    let OfDepth : ℕ → Type 0 = λ d. (fed : List ℤ) → IsFed c.args.line.now d fed → IsFed c.feed.new.self d (fed ++ c.fill.new.out) in
    subst OfSamples joined (subst OfDepth c.depth.ensures c.feed.ensures.fed front was)
