use Rattle.std.proofs.Common.{◌∙◌, ap, map, arith}
use Rattle.std.proofs.lemmas.List.{take_all}
use Rattle.serde_json.specs.View.{items_of}
use Rattle.json_bodies.proofs.Recordings.{id_data, id_items-of}
use Rattle.json_bodies.proofs.objects.id_values.Goals as goal

pub returns : goal.returns
returns c =
    ap items_of (c.loop-id.invariant ∙ ap (map id_data) (take_all c.loop-id.id-index c.args.ids.now (omega (arith, c.loop-id-test.false))))
    ∙ id_items-of c.args.ids.now
