use Rattle.std.proofs.Common.{◌≡◌, ℕ, Option, true, not, ap, ◌∙◌, subst}
use Rattle.library_model.specs.RowRules.{album_is_there}
use Rattle.catalogue_rows.proofs.Counts.{full_as, missing_not_there}
use Rattle.catalogue_rows.proofs.rows.CatalogueRows.is_full.Goals as goal

pub returns-in-Some-members : goal.returns-in-Some-members
returns-in-Some-members c t holds there =
    rw c.in-Some.is
    (ap not c.has_place.ensures
    ∙ full_as t c.in-Some.id c.in-Some-members.members.now (c.in-Some-members.ensures.some t holds))

pub returns-in-None : goal.returns-in-None
returns-in-None c t holds there =
    let has = subst (λ (album : Option ℕ). album_is_there album t.albums ≡ true) c.in-Some.is there in
    absurd (missing_not_there c.in-Some.id t.albums (c.in-None.ensures.none t holds) has)
