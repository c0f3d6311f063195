use Rattle.std.proofs.Common.{refl}
use Rattle.library_http.specs.World.{world}
use Rattle.report_cli.specs.Connections.{Connection}
use Rattle.report_cli.proofs.ServingLemmas.{one_served}
use Rattle.report_cli.proofs.serving.serve_connection.Goals as goal

pub returns-clause-served : goal.returns-clause-served
returns-clause-served g c =
    let served : Connection = record {
      source = g.O.In.Source.shown c.in_ok-source.source;
      source_now = g.O.In.Source.shown c.session-end.new.source;
      sink = g.O.Out.Sink.shown c.in_ok-source.sink;
      sink_now = g.O.Out.Sink.shown c.session-end.new.sink;
      how = c.session-end.result.how;
      answered = c.session-end.result.answered;
    } in
    let given = c.in_ok-source.ensures in (
      served,
      refl,
      refl,
      one_served c.args.requests served (g.O.Door.shown c.args.door.now) (g.O.Door.shown c.next.new.self) (g.O.Door.shown c.back.new.self)
          (world c.args.library.now (g.D.Keeper.shown c.args.keeper.now) (g.V.Vault.shown c.args.vault.now))
          (world c.session-end.new.library (g.D.Keeper.shown c.session-end.new.keeper) (g.V.Vault.shown c.session-end.new.vault))
          (record {
            first = given.first;
            empty = given.empty;
            sound_source = given.sound_source;
            sound_sink = given.sound_sink;
            ended = given.ended;
            later = given.faults.later;
            failed_sources = given.failed_sources;
            failed_sinks = given.failed_sinks;
          }) c.back.ensures c.session-end.ensures.faults c.session-end.ensures.session c.session-end.ensures.framed,
    )
