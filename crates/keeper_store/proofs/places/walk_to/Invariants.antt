use Rattle.std.proofs.Common.{◌≡◌, ◌≤◌, ◌-◌, ◌++◌, length, take, drop}
use Rattle.keeper_store.specs.Puts.{put}
use Rattle.keeper_store.proofs.places.walk_to.Given as goal

abbrev pub invariant-loop-place : goal.invariant-loop-place
invariant-loop-place g l =
    (l.place ≤ length l.rows)
    × (put g.R.Ranked.less l.row l.rows
    ≡ take l.place l.rows ++ put g.R.Ranked.less l.row (drop l.place l.rows))

abbrev pub decreases-loop-place : goal.decreases-loop-place
decreases-loop-place g l = length l.rows - l.place
