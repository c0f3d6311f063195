use Rattle.std.proofs.Common.{◌≡◌, ◌<◌, ◌*◌, ◌^◌, ℕ, ap, ◌∙◌, arith}
use Rattle.std.specs.Int.{div_ceil}
use Rattle.std.proofs.lemmas.Grind.{div_ceil_times}
use Rattle.loudness_range.proofs.Ceilings.{ceiling_reached, ceiling_within}
use Rattle.loudness_range.proofs.tallies.least_near.Goals as goal
use Rattle.loudness_range.proofs.tallies.least_near.Goals.{After-div_ceil}

quotient : (c : After-div_ceil) → c.div_ceil.result ≡ div_ceil c.args.tally.sum (100 * c.args.tally.count)
quotient c = c.div_ceil.ensures ∙ ap (λ n. div_ceil c.args.tally.sum (100 * n)) c.from.ensures

some : (c : After-div_ceil) → 0 < 100 * c.args.tally.count
some c = omega (arith, c.if-tally-eq0.false)

pub returns-clause-passes : goal.returns-clause-passes
returns-clause-passes c energy =
    let d = 100 * c.args.tally.count in
    let times = div_ceil_times c.args.tally.sum d (some c) in
    ceiling_reached c.div_ceil.result d c.args.tally.sum energy (rw (quotient c) times.0) (rw (quotient c) times.1)

pub returns-clause-small : goal.returns-clause-small
returns-clause-small c =
    let times = div_ceil_times c.args.tally.sum (100 * c.args.tally.count) (some c) in
    ceiling_within c.div_ceil.result c.args.tally.count c.args.tally.sum (2 ^ 87) (rw (quotient c) times.1) c.args.tally.small
    (omega (arith, c.if-tally-eq0.false)) (omega arith)
