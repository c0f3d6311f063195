use Rattle.keeper_store.proofs.Finding.{not_found, found_first}
use Rattle.keeper_store.proofs.lookups.find_row.Goals as goal

pub returns-in-Some : goal.returns-in-Some
returns-in-Some g c =
    found_first g.R.Numbered.number_of c.args.number c.args.rows.now c.in-Some.place c.index-rows-place.result
    c.in-Some.ensures.there c.index-rows-place.is

pub returns-in-None : goal.returns-in-None
returns-in-None g c = not_found g.R.Numbered.number_of c.args.number c.args.rows.now c.in-None.ensures.missing
