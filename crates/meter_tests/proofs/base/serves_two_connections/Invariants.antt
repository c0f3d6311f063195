use Rattle.std.proofs.Common.{◌≡◌, false}
use Rattle.meter_tests.proofs.base.serves_two_connections.Given as goal

-- no connection is out between two turns
abbrev pub invariant-loop-want : goal.invariant-loop-want
invariant-loop-want g l = l.door.out ≡ false
