use Rattle.std.proofs.Common.{◌==◌, None, Some, find, ap, ◌∙◌}
use Rattle.catalogue_rows.specs.declared.kept.KeptAlbum.{KeptAlbum}
use Rattle.catalogue_rows.specs.KeptOrders.{kept_album_id}
use Rattle.catalogue_rows.proofs.Changed.{album_found}
use Rattle.catalogue_rows.proofs.rows.CatalogueRows.album.Goals as goal

pub returns-in-Some : goal.returns-in-Some
returns-in-Some c t holds =
    album_found c.args.self.now t c.args.id (Some c.in-Some.kept.now) holds
    (c.in-Some.ensures ∙ ap (find (λ (k : KeptAlbum). kept_album_id k == c.args.id)) c.as_slice.ensures.value)

pub returns-in-None : goal.returns-in-None
returns-in-None c t holds =
    album_found c.args.self.now t c.args.id None holds
    (c.in-None.ensures ∙ ap (find (λ (k : KeptAlbum). kept_album_id k == c.args.id)) c.as_slice.ensures.value)
