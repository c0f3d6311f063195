use Rattle.std.proofs.Common.{rules, sym}
use Rattle.serde_json.specs.Errors.{IsMemory}
use Rattle.serde_json.specs.View.{view}
use Rattle.json_bodies.proofs.Reading.{data_in-read, data_in-refused}
use Rattle.json_bodies.proofs.requests.read_value.Goals as goal

pub returns-in-Ok : goal.returns-in-Ok
returns-in-Ok c =
    let reads = c.in-Ok.ensures.ok in
    sym (data_in-read c.args.body.now (view c.in-Ok.value) reads.0 reads.1)

pub returns-else-is_memory : goal.returns-else-is_memory
returns-else-is_memory c =
    let other : ¬ (IsMemory c.in-Err.error) = search rules in
    sym (data_in-refused c.args.body.now (c.in-Err.ensures.err other))
