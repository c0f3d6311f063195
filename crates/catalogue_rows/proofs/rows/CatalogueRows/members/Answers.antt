use Rattle.std.proofs.Common.{◌==◌, None, find, sym, ap, ◌∙◌}
use Rattle.catalogue_rows.specs.declared.kept.KeptAlbum.{KeptAlbum}
use Rattle.catalogue_rows.specs.KeptOrders.{kept_album_id}
use Rattle.catalogue_rows.proofs.Changed.{album_found, members_found}
use Rattle.catalogue_rows.proofs.Counts.{ids_as}
use Rattle.catalogue_rows.proofs.rows.CatalogueRows.members.Goals as goal

pub returns-in-Some-clause-some : goal.returns-in-Some-clause-some
returns-in-Some-clause-some c t holds =
    members_found c.args.self.now t c.args.id c.in-Some.kept.now holds
    (c.in-Some.ensures ∙ ap (find (λ (k : KeptAlbum). kept_album_id k == c.args.id)) c.as_slice.ensures.value)

pub returns-in-None-clause-none : goal.returns-in-None-clause-none
returns-in-None-clause-none c t holds =
    sym (album_found c.args.self.now t c.args.id None holds
    (c.in-None.ensures ∙ ap (find (λ (k : KeptAlbum). kept_album_id k == c.args.id)) c.as_slice.ensures.value))

pub returns-in-Some-clause-ids : goal.returns-in-Some-clause-ids
returns-in-Some-clause-ids c t holds =
    ids_as t c.args.id c.in-Some.kept.now.members
    (members_found c.args.self.now t c.args.id c.in-Some.kept.now holds
    (c.in-Some.ensures ∙ ap (find (λ (k : KeptAlbum). kept_album_id k == c.args.id)) c.as_slice.ensures.value))
