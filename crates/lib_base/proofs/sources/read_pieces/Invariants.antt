use Rattle.std.proofs.Common.{length, ◌-◌, ◌≤◌, vec_capacity}
use Rattle.std.specs.Io.KnownBytes.{Consumes}
use Rattle.lib_base.proofs.sources.read_pieces.Given as goal

abbrev pub invariant-pieces : goal.invariant-pieces
invariant-pieces g l = record {
  within : length l.bytes.items ≤ l.most;
  room : l.most ≤ vec_capacity l.bytes;
  content : Consumes (g.S.Source.shown l.fn.source).left (g.S.Source.shown l.source).left l.bytes.items;
  later : (g.S.Source.shown l.fn.source).faults ≤ (g.S.Source.shown l.source).faults;
}

abbrev pub decreases-pieces : goal.decreases-pieces
decreases-pieces g l = l.most - length l.bytes.items
