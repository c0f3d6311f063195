use Rattle.catalogue_rows.proofs.Taken.{rows_ascend}
use Rattle.catalogue_rows.proofs.opening.open_unbroken.Goals as goal

pub keep-requires-clause-order : goal.keep-requires-clause-order
keep-requires-clause-order g c = rows_ascend c.args.tables c.requires
