use Rattle.std.proofs.Common.{◌≡◌, ◌≤◌, ◌&&◌, ℕ, nat_le, All, FitsSigned, w32, sym, ap, ◌∙◌, subst, arith, rules}
use Rattle.std.proofs.lemmas.Int.{to_z-of_z}
use Rattle.std.proofs.lemmas.List.Elements.{All-weaker}
use Rattle.sound_model.specs.Levels.{hundredths}
use Rattle.sound_model.specs.Ranges.{is_window_audible, is_window_near, percentile_place_of}
use Rattle.album_merge.specs.Joined.{windows_in, greatest_window_in}
use Rattle.album_merge.proofs.Orders.{IsAt, IsRange-none, IsRange-from_places}
use Rattle.album_merge.proofs.ranges.range_of.Goals as goal
use Rattle.album_merge.proofs.ranges.range_of.Goals.{After-count_between-count}

-- a window passes both gates from the least one on
passes : (c : After-count_between-count) (e : ℕ) → nat_le c.least_passing-least.result e
    ≡ (is_window_audible e && is_window_near (windows_in c.args.members.now) e)
passes c e =
    c.least_passing-least.ensures.passes (windows_in c.args.members.now) e c.audible_windows.ensures.count c.audible_windows.ensures.sum

-- and each is within the greatest
within : (c : After-count_between-count) → All (λ e. e ≤ c.max-most.result) (windows_in c.args.members.now)
within c =
    All-weaker (λ e. e ≤ greatest_window_in c.args.members.now) (λ e. e ≤ c.max-most.result)
    (λ e below. omega (arith, below, c.greatest_window_of.ensures.value, c.max-most.ensures)) (windows_in c.args.members.now)
    c.audible_windows.ensures.within

pub returns-then-count-eq0 : goal.returns-then-count-eq0
returns-then-count-eq0 c windows moved =
    let counted = (goal.at.returns-then-count-eq0 c).After-count_between-count in
    IsRange-none windows (windows_in c.args.members.now) c.least_passing-least.result c.max-most.result moved (passes counted)
    (within counted) (sym c.count_between-count.ensures ∙ c.if-count-eq0.true)

pub returns : goal.returns
returns c windows moved =
    let counted = (goal.at.returns c).After-count_between-count in
    let joined = windows_in c.args.members.now in
    let least = c.least_passing-least.result in
    let level : FitsSigned w32 c.level.result = search rules in
    let range : FitsSigned w32 c.hundredths.result = search rules in
    let LowAt : ℕ → Type 0 = λ place. IsAt joined least place c.window_at-low.result in
    let HighAt : ℕ → Type 0 = λ place. IsAt joined least place c.window_at-high.result in
    let low : LowAt c.percentile_place.result =
    record { less = c.window_at-low.ensures.less; no_greater = c.window_at-low.ensures.no_greater } in
    let high : HighAt c.percentile_place-2.result =
    record { less = c.window_at-high.ensures.less; no_greater = c.window_at-high.ensures.no_greater } in
    rw (to_z-of_z w32 c.hundredths.result range)
    (IsRange-from_places windows joined least c.max-most.result c.count_between-count.result c.window_at-low.result c.window_at-high.result
    c.level.result c.hundredths.result moved (passes counted) (within counted) c.count_between-count.ensures c.if-count-eq0.false
    (subst LowAt c.percentile_place.ensures.value low) (subst HighAt c.percentile_place-2.ensures.value high) c.level.ensures.is_level
    (c.hundredths.ensures.value ∙ ap hundredths (to_z-of_z w32 c.level.result level)))
