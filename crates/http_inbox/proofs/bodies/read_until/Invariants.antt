use Rattle.std.proofs.Common.{◌≤◌, ◌-◌, length, vec_capacity}
use Rattle.http_inbox.specs.Inboxes.{Draws}
use Rattle.http_inbox.proofs.bodies.read_until.Given as goal

-- what was drawn so far, and what is still wanted of it
abbrev pub invariant-pieces : goal.invariant-pieces
invariant-pieces g l = record {
  draws : Draws (g.S.Source.shown l.fn.source) (g.S.Source.shown l.source) l.fn.body.items l.body.items;
  later : (g.S.Source.shown l.fn.source).faults ≤ (g.S.Source.shown l.source).faults;
  within : length l.body.items ≤ l.size;
  room : l.size ≤ vec_capacity l.body;
}

abbrev pub decreases-pieces : goal.decreases-pieces
decreases-pieces g l = l.size - length l.body.items
