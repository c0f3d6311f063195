use Rattle.std.proofs.Common.{length, take, ◌-◌, ◌≤◌, ◌≡◌}
use Rattle.std.specs.Io.KnownBytes.{Consumes}
use Rattle.http_inbox.proofs.filling.fill.Given as goal

-- the first `done` bytes of `into` were taken
abbrev pub invariant-pieces : goal.invariant-pieces
invariant-pieces g l = record {
  within : l.done ≤ length l.into;
  size : length l.into ≡ length l.fn.into;
  content : Consumes (g.S.Source.shown l.fn.source).left (g.S.Source.shown l.source).left (take l.done l.into);
  later : (g.S.Source.shown l.fn.source).faults ≤ (g.S.Source.shown l.source).faults;
}

abbrev pub decreases-pieces : goal.decreases-pieces
decreases-pieces g l = length l.fn.into - l.done
