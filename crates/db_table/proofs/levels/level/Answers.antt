use Rattle.std.proofs.Common.{arith}
use Rattle.std.proofs.lemmas.Int.{ints}
use Rattle.sound_model.proofs.LevelLaws.{level_from_power, level_from_root}
use Rattle.db_table.proofs.Powers.{IsPowerBelow, IsPowerAbove, power_of_quotient, power_of_rest, level_up, level_down}
use Rattle.db_table.proofs.levels.level.Goals as goal
use Rattle.db_table.proofs.levels.level.Goals.{After-ilog10-power-else-b-a, After-from, After-from-else-b-a}

power_above : (c : After-ilog10-power-else-b-a) → IsPowerAbove c.args.a c.args.b c.ilog10-power-else-b-a.result
power_above c =
    let tens = c.ilog10-power-else-b-a.ensures in
    power_of_rest _ _ _ c.requires.a_above_0 c.if-b-a.false c.requires.b_below tens.power_le tens.next_power_gt

pub overflow_mul-a : goal.overflow_mul-a
overflow_mul-a c =
    let above = power_above (goal.at.overflow_mul-a c).After-ilog10-power-else-b-a in
    rw c.pow-else-b-a.ensures (let small = above.small in omega (arith, small))

pub greatest_place-requires-else-b-a-clause-a_below : goal.greatest_place-requires-else-b-a-clause-a_below
greatest_place-requires-else-b-a-clause-a_below c =
    rw c.pow-else-b-a.ensures (power_above (goal.at.greatest_place-requires-else-b-a-clause-a_below c).After-ilog10-power-else-b-a).small

power_below : (c : After-from) → IsPowerBelow c.args.a c.args.b c.ilog10-power.result
power_below c =
    let tens = c.ilog10-power.ensures in
    power_of_quotient _ _ _ c.requires.b_above_0 c.requires.a_below tens.power_le tens.next_power_gt

pub returns-then-b-a-clause-is_level : goal.returns-then-b-a-clause-is_level
returns-then-b-a-clause-is_level c =
    let tens = power_below c in
    let place = c.greatest_place.ensures in
    rw (level_up c.ilog10-power.result c.greatest_place.result c.from.result tens.few place.is_place c.from.ensures)
    (level_from_power c.args.a c.args.b c.ilog10-power.result c.greatest_place.result tens.within tens.next place.is_place
    (rw c.pow.ensures at place.within) (λ j after within. rw c.pow.ensures at (place.greatest j after within)))

pub returns-then-b-a-clause-high : goal.returns-then-b-a-clause-high
returns-then-b-a-clause-high c =
    let tens = power_below c in
    let place = c.greatest_place.ensures.is_place in
    let few = tens.few in
    rw (level_up c.ilog10-power.result c.greatest_place.result c.from.result few place c.from.ensures) (omega (arith, ints, few, place))

power_lifts : (c : After-from-else-b-a) → IsPowerAbove c.args.a c.args.b c.ilog10-power-else-b-a.result
power_lifts c =
    let tens = c.ilog10-power-else-b-a.ensures in
    power_of_rest _ _ _ c.requires.a_above_0 c.if-b-a.false c.requires.b_below tens.power_le tens.next_power_gt

pub returns-else-b-a-clause-is_level : goal.returns-else-b-a-clause-is_level
returns-else-b-a-clause-is_level c =
    let tens = power_lifts c in
    let place = c.greatest_place-else-b-a.ensures in
    rw (level_down c.ilog10-power-else-b-a.result c.greatest_place-else-b-a.result c.from-else-b-a.result tens.few place.is_place c.from-else-b-a.ensures)
    (level_from_root c.args.a c.args.b c.ilog10-power-else-b-a.result c.greatest_place-else-b-a.result tens.reached tens.before place.is_place
    (rw c.pow-else-b-a.ensures at place.within) (λ j after within. rw c.pow-else-b-a.ensures at (place.greatest j after within)))

pub returns-else-b-a-clause-low : goal.returns-else-b-a-clause-low
returns-else-b-a-clause-low c =
    let tens = power_lifts c in
    let place = c.greatest_place-else-b-a.ensures.is_place in
    let few = tens.few in
    rw (level_down c.ilog10-power-else-b-a.result c.greatest_place-else-b-a.result c.from-else-b-a.result few place c.from-else-b-a.ensures) (omega (arith, ints, few, place))
