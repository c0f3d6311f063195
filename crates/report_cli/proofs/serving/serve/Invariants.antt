use Rattle.std.proofs.Common.{◌≡◌, ◌≤◌, List, false}
use Rattle.library_http.specs.World.{world}
use Rattle.report_cli.specs.Connections.{Connection}
use Rattle.report_cli.proofs.ServingLemmas.{SoFar}
use Rattle.report_cli.proofs.serving.serve.Given as goal

-- Between two turns none is out, and the connections so far were served, each with its line.
abbrev pub invariant-loop-served : goal.invariant-loop-served
invariant-loop-served g l = record {
  none_out : (g.O.Door.shown l.door).is_out ≡ false;
  so_far : (connections : List Connection) × SoFar l.requests l.served connections (g.K.Sink.shown l.fn.sink).written
      (g.K.Sink.shown l.sink).written (g.O.Door.shown l.fn.door) (g.O.Door.shown l.door)
      (world l.fn.library (g.D.Keeper.shown l.fn.keeper) (g.V.Vault.shown l.fn.vault))
      (world l.library (g.D.Keeper.shown l.keeper) (g.V.Vault.shown l.vault));
  sink : (g.K.Sink.shown l.fn.sink).faults ≤ (g.K.Sink.shown l.sink).faults;
  door : (g.O.Door.shown l.fn.door).faults ≤ (g.O.Door.shown l.door).faults;
}
