use Rattle.std.proofs.Common.{◌≡◌, ◌+◌, ◌≤◌, ◌*◌, ℕ, List, ◌++◌, drop, length, length-drop, ap, ◌∙◌, sym, arith}
use Rattle.std.proofs.lemmas.List.{append-nil}
use Rattle.std.proofs.lemmas.List.Elements.{All-same}
use Rattle.lib_base.specs.declared.limits.TheConstants.{GREATEST_ENERGY}
use Rattle.sound_model.specs.Blocks.{neighbour_sums}
use Rattle.gate_blocks.proofs.Summing.{neighbour_sums-none, sums-grow, length-neighbour_sums, All-neighbour_sums}
use Rattle.gate_blocks.proofs.sums.sums_of_neighbours.Goals as goal
use Rattle.gate_blocks.proofs.sums.sums_of_neighbours.Goals.{After-of}

pub loop-place-preserved : goal.loop-place-preserved
loop-place-preserved c =
    let place = c.loop-place.place in
    let inside : place + c.args.count ≤ length c.args.segments.now = omega (arith, c.saturating_sub-places.ensures) in
    sums-grow c.args.count place c.args.segments.now c.loop-place.sums.items _ c.sum_at.result c.requires.some inside c.loop-place.invariant
    c.sum_at.ensures c.in_ok-push.ensures.items

sums_are : (c : After-of) → c.of.result ≡ neighbour_sums c.args.count c.args.segments.now
sums_are c =
    let place = c.loop-place.place in
    let segments = c.args.segments.now in
    let left = length-drop place segments in
    let none = neighbour_sums-none c.args.count (drop place segments) (omega (arith, left, c.saturating_sub-places.ensures)) in
    c.of.ensures ∙ sym (c.loop-place.invariant ∙ ap (λ (rest : List ℕ). c.loop-place.sums.items ++ rest) none ∙ append-nil c.loop-place.sums.items)

pub returns-clause-sums : goal.returns-clause-sums
returns-clause-sums c = sums_are c

pub returns-clause-within : goal.returns-clause-within
returns-clause-within c =
    All-same (λ z. z ≤ c.args.count * GREATEST_ENERGY) _ _ (sums_are c)
    (All-neighbour_sums GREATEST_ENERGY c.args.count c.args.segments.now c.requires.within)

pub returns-clause-few : goal.returns-clause-few
returns-clause-few c =
    let same = ap length (sums_are c) in
    omega (arith, same, length-neighbour_sums c.args.count c.args.segments.now)
