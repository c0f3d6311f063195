use Rattle.std.proofs.Common.{◌≡◌, List, true, refl, sym, subst}
use Rattle.std.proofs.lemmas.Option.{IfSome_then}
use Rattle.keeper_store.specs.declared.row_types.AlbumRow.{AlbumRow}
use Rattle.library_model.specs.RowRules.{has_album, measured_in}
use Rattle.catalogue_rows.specs.Holding.{album_of}
use Rattle.catalogue_rows.proofs.Changed.{Holds-albums}
use Rattle.catalogue_rows.proofs.Held.{tables_rise}
use Rattle.catalogue_rows.proofs.Sums.{few_comes, sum_comes, sum_of}
use Rattle.catalogue_rows.proofs.rows.CatalogueRows.summary_with.Goals as goal

pub returns-clause-held : goal.returns-clause-held
returns-clause-held g c t holds =
    Holds-albums c.args.self.now _ t holds c.try_with.ensures.kept.rows
    (c.try_with.ensures.members (album_of t t.recordings) holds.in_albums) refl refl refl

pub returns-clause-summary : goal.returns-clause-summary
returns-clause-summary g c t next holds joins =
    let rise = tables_rise c.args.self.now t holds.recordings in
    IfSome_then c.try_with.result.0
    (c.try_with.ensures.summary (album_of t t.recordings) (measured_in next joins.comes.row) holds.in_albums joins.stands)
    (λ summary sums. sum_of next c.args.album _ summary (sum_comes t next c.args.album c.args.id joins.comes rise) sums)

pub returns-clause-some : goal.returns-clause-some
returns-clause-some g c t next holds joins place =
    let rise = tables_rise c.args.self.now t holds.recordings in
    c.try_with.ensures.some (album_of t t.recordings) holds.in_albums
    (subst (λ (albums : List AlbumRow). has_album c.args.album albums ≡ true) (sym holds.albums) place.there)
    (few_comes t next c.args.album c.args.id rise joins.comes place)
