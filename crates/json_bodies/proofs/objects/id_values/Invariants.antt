use Rattle.std.proofs.Common.{◌≡◌, map, take}
use Rattle.serde_json.specs.View.{view}
use Rattle.json_bodies.proofs.Recordings.{id_data}
use Rattle.json_bodies.proofs.objects.id_values.Given as goal

abbrev pub invariant-loop-id : goal.invariant-loop-id
invariant-loop-id l = map view l.values.items ≡ map id_data (take l.id-index l.fn.ids)
