use Rattle.std.proofs.Common.{◌-◌, ◌≡◌, ◌≤◌, length, take}
use Rattle.lib_base.specs.Sounds.{samples_of}
use Rattle.measure_pool.specs.Lines.{IsFed, takes_peak, fed_count, room_of}
use Rattle.measure_pool.proofs.jobs.feed_channel.Given as goal

abbrev pub invariant-pieces : goal.invariant-pieces
invariant-pieces g l = record {
  within : l.start ≤ l.frames;
  fed : IsFed l.line (g.S.Sound.depth l.sound) (take l.start (samples_of (g.S.Sound.lists l.sound) l.channel));
  count : fed_count l.line ≡ l.start;
  room : room_of l.line ≡ l.frames;
  peak : takes_peak l.line ≡ takes_peak l.fn.line;
  scratch : length l.scratch.cells ≡ length l.fn.scratch.cells;
}

abbrev pub decreases-pieces : goal.decreases-pieces
decreases-pieces g l = l.frames - l.start
