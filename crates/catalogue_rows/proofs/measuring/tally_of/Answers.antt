use Rattle.std.proofs.Common.{sym, subst}
use Rattle.sound_model.specs.Summaries.{IsWithinBounds}
use Rattle.catalogue_rows.proofs.Unbroken.{unbroken, measured_within, decoded_take}
use Rattle.catalogue_rows.proofs.measuring.tally_of.Goals as goal

pub measured_of-requires-clause-ascend : goal.measured_of-requires-clause-ascend
measured_of-requires-clause-ascend g c = (unbroken c.args.tables.now c.requires.unbroken).segments_ascend

pub measured_of-requires-clause-decoded : goal.measured_of-requires-clause-decoded
measured_of-requires-clause-decoded g c = decoded_take c.args.tables.now c.args.row.now c.requires.unbroken c.requires.there

pub make-requires-after_bounds : goal.make-requires-after_bounds
make-requires-after_bounds g c κs within =
    subst IsWithinBounds (sym c.in_ok-measured.ensures) (measured_within c.args.tables.now c.args.row.now c.requires.unbroken c.requires.there)
