use Rattle.std.proofs.Common.{[], ◌++◌, arith}
use Rattle.library_http.specs.World.{world}
use Rattle.report_cli.proofs.ServingLemmas.{start, turn_on, turn_stops, serves_both}
use Rattle.report_cli.proofs.serving.serve.Goals as goal

pub loop-served-init : goal.loop-served-init
loop-served-init g c = record {
  none_out = c.requires.none_out;
  so_far = (
    [],
    start c.args.requests (g.K.Sink.shown c.args.sink.now).written (g.O.Door.shown c.args.door.now)
        (world c.args.library.now (g.D.Keeper.shown c.args.keeper.now) (g.V.Vault.shown c.args.vault.now)) c.requires.none_out,
  );
  sink = omega arith;
  door = omega arith;
}

pub loop-served-preserved : goal.loop-served-preserved
loop-served-preserved g c =
    let before = c.loop-served.invariant in
    let turn = c.in-Ok.ensures.serves in
    record {
      none_out = turn.1.door.none_out;
      so_far = (
        before.so_far.0 ++ turn.0,
        turn_on c.args.requests c.loop-served.served before.so_far.0 turn.0 (g.K.Sink.shown c.args.sink.now).written
            (g.K.Sink.shown c.loop-served.sink).written (g.K.Sink.shown c.serve_next-turn.new.sink).written (g.O.Door.shown c.args.door.now)
            (g.O.Door.shown c.loop-served.door) (g.O.Door.shown c.serve_next-turn.new.door)
            (world c.args.library.now (g.D.Keeper.shown c.args.keeper.now) (g.V.Vault.shown c.args.vault.now))
            (world c.loop-served.library (g.D.Keeper.shown c.loop-served.keeper) (g.V.Vault.shown c.loop-served.vault))
            (world c.serve_next-turn.new.library (g.D.Keeper.shown c.serve_next-turn.new.keeper) (g.V.Vault.shown c.serve_next-turn.new.vault))
            before.so_far.1 turn.1 turn.2,
      );
      sink = omega (arith, before.sink, c.serve_next-turn.ensures.of_sink.later);
      door = omega (arith, before.door, c.serve_next-turn.ensures.of_door.later);
    }

pub returns-in-Err-clause-serves : goal.returns-in-Err-clause-serves
returns-in-Err-clause-serves g c =
    let so_far = c.loop-served.invariant.so_far in
    let turn = c.in-Err.ensures.serves in (
      so_far.0 ++ turn.0,
      serves_both c.args.requests so_far.0 turn.0 (g.O.Door.shown c.args.door.now) (g.O.Door.shown c.loop-served.door)
          (g.O.Door.shown c.serve_next-turn.new.door)
          (world c.args.library.now (g.D.Keeper.shown c.args.keeper.now) (g.V.Vault.shown c.args.vault.now))
          (world c.loop-served.library (g.D.Keeper.shown c.loop-served.keeper) (g.V.Vault.shown c.loop-served.vault))
          (world c.serve_next-turn.new.library (g.D.Keeper.shown c.serve_next-turn.new.keeper) (g.V.Vault.shown c.serve_next-turn.new.vault))
          so_far.1.serves turn.1,
      turn_stops c.in-Err.status c.args.requests c.loop-served.served c.args.connections so_far.0 turn.0
          (g.K.Sink.shown c.args.sink.now).written (g.K.Sink.shown c.loop-served.sink).written (g.K.Sink.shown c.serve_next-turn.new.sink).written
          (g.O.Door.shown c.args.door.now) (g.O.Door.shown c.loop-served.door)
          (world c.args.library.now (g.D.Keeper.shown c.args.keeper.now) (g.V.Vault.shown c.args.vault.now))
          (world c.loop-served.library (g.D.Keeper.shown c.loop-served.keeper) (g.V.Vault.shown c.loop-served.vault))
          c.loop-served-test.true so_far.1 turn.2,
    )
