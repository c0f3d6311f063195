use Rattle.std.proofs.Common.{arith, ◌≤◌, List, length, subst}
use Rattle.std.proofs.lemmas.List.{take_all}
use Rattle.keeper_store.specs.declared.row_types.RecordingRow.{RecordingRow}
use Rattle.catalogue_rows.specs.Opening.{IsBuilt}
use Rattle.catalogue_rows.proofs.building.build.Goals as goal

pub returns : goal.returns
returns g c =
    let recordings = c.args.tables.now.recordings in
    let ended : length recordings ≤ c.loop-place.place = grind arith in
    subst (λ (seen : List RecordingRow). IsBuilt c.args.tables.now seen c.loop-place.built) (take_all c.loop-place.place recordings ended)
    c.loop-place.invariant.built
