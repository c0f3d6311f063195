use Rattle.std.proofs.Common.{◌≤◌, ◌-◌, length}
use Rattle.http_model.specs.Requests.{head_limit}
use Rattle.http_inbox.specs.Inboxes.{Draws}
use Rattle.http_inbox.proofs.inbox.Inbox.read_head.Given as goal

-- what was drawn so far
abbrev pub invariant-pieces : goal.invariant-pieces
invariant-pieces g l = record {
  draws : Draws (g.S.Source.shown l.fn.source) (g.S.Source.shown l.source) l.fn.self l.self;
  later : (g.S.Source.shown l.fn.source).faults ≤ (g.S.Source.shown l.source).faults;
}

abbrev pub decreases-pieces : goal.decreases-pieces
decreases-pieces g l = head_limit - length l.self
