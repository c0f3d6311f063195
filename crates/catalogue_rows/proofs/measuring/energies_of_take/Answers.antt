use Rattle.std.proofs.Common.{◌≡◌, ◌==◌, None, Some, sym, ap, ◌∙◌}
use Rattle.std.specs.List.{find}
use Rattle.keeper_store.specs.declared.row_types.SegmentRow.{SegmentRow}
use Rattle.keeper_store.specs.EnergyBytes.{energies_in}
use Rattle.catalogue_rows.proofs.Unbroken.{energies_found, energies_are_found}
use Rattle.catalogue_rows.proofs.measuring.energies_of_take.Goals as goal

pub returns-in_default : goal.returns-in_default
returns-in_default c =
    let take = c.args.take in
    let segments = c.args.segments.now in
    let none : find (λ (s : SegmentRow). s.take == take) segments ≡ None = sym c.in_default.ensures in
    c.of.ensures ∙ c.new.ensures.items ∙ sym (energies_are_found take segments ∙ ap energies_found none)

pub returns-in-Ok : goal.returns-in-Ok
returns-in-Ok c =
    let take = c.args.take in
    let segments = c.args.segments.now in
    let found : find (λ (s : SegmentRow). s.take == take) segments ≡ Some c.in-Some.row.now = sym c.in-Some.ensures in
    c.in-Ok.ensures.energies ∙ ap energies_in c.as_slice.ensures
    ∙ sym (energies_are_found take segments ∙ ap energies_found found)
