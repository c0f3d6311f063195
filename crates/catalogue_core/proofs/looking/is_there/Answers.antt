use Rattle.std.proofs.Common.{◌≡◌, ◌∙◌, ℕ, Option, sym, subst}
use Rattle.library_model.specs.RowRules.{album_is_there}
use Rattle.catalogue_core.proofs.Found.{there_as_found}
use Rattle.catalogue_core.proofs.looking.is_there.Goals as goal

pub returns-in-Some : goal.returns-in-Some
returns-in-Some c = λ t holds.
    subst (λ (album : Option ℕ). c.is_some.result ≡ album_is_there album t.albums) (sym c.in-Some.is)
    (c.is_some.ensures ∙ there_as_found c.in-Some.id t.albums c.album.result (c.album.ensures t holds))
