use Rattle.std.proofs.Common.{arith}
use Rattle.album_merge.specs.Joined.{windows_in}
use Rattle.album_merge.proofs.Orders.{between_none, between_fewer}
use Rattle.album_merge.proofs.ranges.window_at.Goals as goal

pub loop-low-init : goal.loop-low-init
loop-low-init c = record {
  below = between_none c.args.least c.args.place (windows_in c.args.members.now);
  above = c.requires.some;
  from_least = omega arith;
  to_high = c.requires.order;
  to_most = omega arith;
}

pub returns-clause-less : goal.returns-clause-less
returns-clause-less c =
    between_fewer c.args.least c.loop-low.high c.loop-low.low c.args.place (windows_in c.args.members.now) c.loop-low-test.false
    c.loop-low.invariant.below
