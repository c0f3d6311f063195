use Rattle.catalogue_rows.proofs.Placed.{with_row_in}
use Rattle.catalogue_rows.proofs.placing.put_tally.Goals as goal

pub returns-in_ok-put_into-in-Some-clause-albums : goal.returns-in_ok-put_into-in-Some-clause-albums
returns-in_ok-put_into-in-Some-clause-albums c of measured stands all =
    with_row_in of c.args.row.now c.in-Some.album measured c.args.rows.now c.put_into.new.albums.items c.in-Some.is
    (c.in_ok-put_into-in-Some.ensures of measured stands all)
