use Rattle.std.proofs.Common.{sym, subst}
use Rattle.sound_model.specs.Summaries.{IsWithinBounds}
use Rattle.tag_writer.proofs.Listening.{accepted_reads}
use Rattle.catalogue_core.proofs.AcceptedBounds.{accepted_within}
use Rattle.catalogue_core.proofs.examining.examine.Goals as goal

pub make-requires-after_bounds : goal.make-requires-after_bounds
make-requires-after_bounds g c κs sync =
    let found = accepted_reads c.args.file.now c.in-Ok.accepted c.in-Ok.ensures.ok in
    subst IsWithinBounds (sym (c.in_ok-measured-in-Ok.ensures found.0 found.1))
    (accepted_within c.args.file.now found.0 found.1 c.requires.within)

pub returns-in_ok-tally-in-Ok : goal.returns-in_ok-tally-in-Ok
returns-in_ok-tally-in-Ok g c =
    let found = accepted_reads c.args.file.now c.in-Ok.accepted c.in-Ok.ensures.ok in
    let is = c.in_ok-measured-in-Ok.ensures found.0 found.1 in (
      found.0,
      found.1,
      record {
        measured_is = is;
        within = subst IsWithinBounds (sym is) (accepted_within c.args.file.now found.0 found.1 c.requires.within);
        stands = c.in_ok-tally-in-Ok.ensures;
      },
    )
