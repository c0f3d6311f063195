use Rattle.std.proofs.Common.{refl}
use Rattle.std.proofs.lemmas.Option.{IfSome_then}
use Rattle.catalogue_rows.specs.Holding.{album_of}
use Rattle.catalogue_rows.proofs.Changed.{Holds-albums}
use Rattle.catalogue_rows.proofs.Held.{tables_rise}
use Rattle.catalogue_rows.proofs.Sums.{sum_of, sum_without}
use Rattle.catalogue_rows.proofs.rows.CatalogueRows.summary_without.Goals as goal

pub returns-clause-held : goal.returns-clause-held
returns-clause-held g c t holds =
    Holds-albums c.args.self.now _ t holds c.try_without.ensures.kept.rows
    (c.try_without.ensures.members (album_of t t.recordings) holds.in_albums) refl refl refl

pub returns-clause-summary : goal.returns-clause-summary
returns-clause-summary g c t next holds leaves =
    IfSome_then c.try_without.result (c.try_without.ensures.summary (album_of t t.recordings) holds.in_albums)
    (λ summary sums.
    sum_of next c.args.album _ summary
    (sum_without t next c.args.album c.args.id (tables_rise c.args.self.now t holds.recordings) leaves) sums)
