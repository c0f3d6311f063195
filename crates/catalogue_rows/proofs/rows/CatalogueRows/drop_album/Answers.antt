use Rattle.std.proofs.Common.{◌≤◌, refl, sym, subst}
use Rattle.keeper_store.proofs.Dropping.{AllByRecursion-without}
use Rattle.catalogue_rows.specs.declared.kept.KeptAlbum.{KeptAlbum}
use Rattle.catalogue_rows.specs.KeptOrders.{kept_album_id}
use Rattle.catalogue_rows.specs.Places.{HavePlaces}
use Rattle.catalogue_rows.proofs.Changed.{Holds-drop_album}
use Rattle.catalogue_rows.proofs.rows.CatalogueRows.drop_album.Goals as goal

pub returns-clause-held : goal.returns-clause-held
returns-clause-held c t holds = Holds-drop_album c.args.self.now _ t c.args.id holds c.drop_row.ensures.items refl refl refl

pub returns-clause-places : goal.returns-clause-places
returns-clause-places c more has =
    subst (HavePlaces more) (sym c.drop_row.ensures.items)
    (AllByRecursion-without (λ (k : KeptAlbum). more k.row.id ≤ k.members.spare) kept_album_id c.args.id c.args.self.now.albums.items has)
