use Rattle.std.proofs.Common.{◌++◌}
use Rattle.library_http.specs.World.{world}
use Rattle.library_http.proofs.Framing.{TakesFinding-refused, TurnFinds-framed}
use Rattle.library_http.proofs.Turning.{BeginsWith-within, TurnDoes-ended, TurnDoes-fault, TurnDoes-framed, TurnDoes-refused, TurnDoes-unread}
use Rattle.library_http.proofs.serving.serve_one.Goals as goal

pub serve_request-requires-clause-within : goal.serve_request-requires-clause-within
serve_request-requires-clause-within g c κs within =
    let reads = rw c.in-Framed.is at c.next_request.ensures in
    BeginsWith-within (c.args.inbox.now ++ reads.taken) c.next_request.new.inbox c.in-Framed.request reads.found

pub returns-in-Framed-clause-turn : goal.returns-in-Framed-clause-turn
returns-in-Framed-clause-turn g c = λ s keeps.
    let reads = rw c.in-Framed.is at c.next_request.ensures in
    TurnDoes-framed c.serve_request.result s c.args.inbox.now c.next_request.new.inbox c.serve_request.new.inbox c.in-Framed.request
    (g.S.Source.shown c.args.source.now) (g.S.Source.shown c.next_request.new.source)
    (g.K.Sink.shown c.args.sink.now) (g.K.Sink.shown c.serve_request.new.sink)
    (world c.args.library.now (g.D.Keeper.shown c.args.keeper.now) (g.V.Vault.shown c.args.vault.now))
    (world c.serve_request.new.library (g.D.Keeper.shown c.serve_request.new.keeper) (g.V.Vault.shown c.serve_request.new.vault))
    keeps reads c.serve_request.ensures.passed (c.serve_request.ensures.turn s keeps reads.found.head reads.found.lies)

pub returns-in-Refused-clause-turn : goal.returns-in-Refused-clause-turn
returns-in-Refused-clause-turn g c = λ s keeps.
    let reads = rw c.in-Refused.is at c.next_request.ensures in
    TurnDoes-refused s c.args.inbox.now c.next_request.new.inbox c.next_request.new.inbox c.in-Refused.cause c.end_by.result
    (g.S.Source.shown c.args.source.now) (g.S.Source.shown c.next_request.new.source)
    (g.K.Sink.shown c.args.sink.now) (g.K.Sink.shown c.end_by.new.sink)
    (world c.args.library.now (g.D.Keeper.shown c.args.keeper.now) (g.V.Vault.shown c.args.vault.now))
    keeps reads c.end_by.ensures.refuses

pub returns-in-Ended-clause-turn : goal.returns-in-Ended-clause-turn
returns-in-Ended-clause-turn g c = λ s keeps.
    let reads = rw c.in-Ended.is at c.next_request.ensures in
    TurnDoes-ended s c.args.inbox.now c.next_request.new.inbox c.next_request.new.inbox
    (g.S.Source.shown c.args.source.now) (g.S.Source.shown c.next_request.new.source) (g.K.Sink.shown c.args.sink.now)
    (world c.args.library.now (g.D.Keeper.shown c.args.keeper.now) (g.V.Vault.shown c.args.vault.now)) keeps reads

pub returns-in-Fault-clause-turn : goal.returns-in-Fault-clause-turn
returns-in-Fault-clause-turn g c = λ s keeps.
    let reads = rw c.in-Fault.is at c.next_request.ensures in
    TurnDoes-fault s c.args.inbox.now c.next_request.new.inbox c.next_request.new.inbox
    (g.S.Source.shown c.args.source.now) (g.S.Source.shown c.next_request.new.source) (g.K.Sink.shown c.args.sink.now)
    (world c.args.library.now (g.D.Keeper.shown c.args.keeper.now) (g.V.Vault.shown c.args.vault.now)) keeps reads

pub returns-in-Memory-clause-turn : goal.returns-in-Memory-clause-turn
returns-in-Memory-clause-turn g c = λ s keeps.
    let reads = rw c.in-Memory.is at c.next_request.ensures in
    TurnDoes-unread s c.args.inbox.now c.next_request.new.inbox c.next_request.new.inbox
    (g.S.Source.shown c.args.source.now) (g.S.Source.shown c.next_request.new.source) (g.K.Sink.shown c.args.sink.now)
    (world c.args.library.now (g.D.Keeper.shown c.args.keeper.now) (g.V.Vault.shown c.args.vault.now)) keeps reads

pub returns-in-Framed-clause-finds : goal.returns-in-Framed-clause-finds
returns-in-Framed-clause-finds g c =
    let reads = rw c.in-Framed.is at c.next_request.ensures in
    TurnFinds-framed c.serve_request.result c.args.inbox.now c.next_request.new.inbox c.serve_request.new.inbox c.in-Framed.request
    (g.S.Source.shown c.args.source.now) (g.S.Source.shown c.next_request.new.source) reads c.serve_request.ensures.passed
    (c.serve_request.ensures.shuts reads.found.head reads.found.lies)

pub returns-in-Refused-clause-finds : goal.returns-in-Refused-clause-finds
returns-in-Refused-clause-finds g c =
    let reads = rw c.in-Refused.is at c.next_request.ensures in
    TakesFinding-refused c.end_by.result c.args.inbox.now c.next_request.new.inbox c.in-Refused.cause (g.S.Source.shown c.args.source.now)
    (g.S.Source.shown c.next_request.new.source) (g.K.Sink.shown c.args.sink.now) (g.K.Sink.shown c.end_by.new.sink) reads
    c.end_by.ensures.refuses

pub returns-in-Ended-clause-finds : goal.returns-in-Ended-clause-finds
returns-in-Ended-clause-finds g c =
    let reads = rw c.in-Ended.is at c.next_request.ensures in
    record { taken = reads.taken; content = reads.content; found = reads.found }

pub returns-in-Fault-clause-finds : goal.returns-in-Fault-clause-finds
returns-in-Fault-clause-finds g c =
    let reads = rw c.in-Fault.is at c.next_request.ensures in
    record { taken = reads.taken; content = reads.content; found = reads.found }

pub returns-in-Memory-clause-finds : goal.returns-in-Memory-clause-finds
returns-in-Memory-clause-finds g c =
    let reads = rw c.in-Memory.is at c.next_request.ensures in
    record { taken = reads.taken; content = reads.content; found = tt }
