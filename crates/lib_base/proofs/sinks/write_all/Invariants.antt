use Rattle.std.proofs.Common.{length, ◌-◌, ◌≤◌, take}
use Rattle.std.specs.Io.KnownBytes.{Appends}
use Rattle.lib_base.proofs.sinks.write_all.Given as goal

abbrev pub invariant-loop-done : goal.invariant-loop-done
invariant-loop-done g l =
    (l.done ≤ length l.bytes)
    × Appends (g.K.Sink.shown l.fn.sink).written (g.K.Sink.shown l.sink).written (take l.done l.bytes)
    × ((g.K.Sink.shown l.fn.sink).faults ≤ (g.K.Sink.shown l.sink).faults)

abbrev pub decreases-loop-done : goal.decreases-loop-done
decreases-loop-done g l = length l.bytes - l.done
