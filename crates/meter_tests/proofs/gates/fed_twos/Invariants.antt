use Rattle.std.proofs.Common.{◌≡◌}
use Rattle.meter_tests.proofs.gates.fed_twos.Given as goal

abbrev pub invariant-loop : goal.invariant-loop
invariant-loop l = (l.meter.count ≡ l.counter) × (l.meter.frames ≡ l.frames)
