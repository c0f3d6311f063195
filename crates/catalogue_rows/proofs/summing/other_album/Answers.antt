use Rattle.std.proofs.Common.{◌≡◌, refl, subst}
use Rattle.lib_base.specs.declared.files.Summary.{Summary}
use Rattle.album_merge.specs.Members.{measured_of}
use Rattle.sound_model.specs.Albums.{IsAlbumSummary}
use Rattle.sound_model.proofs.AlbumLaws.{IsAlbumSummary-unique}
use Rattle.catalogue_rows.proofs.Summed.{summary_same, summary_differs}
use Rattle.catalogue_rows.proofs.summing.other_album.Goals as goal

pub returns-then-eq : goal.returns-then-eq
returns-then-eq g c recordings is =
    let same : c.summary.result ≡ c.args.row.now.summary = summary_same c.summary.result c.args.row.now.summary c.if-eq.ensures in
    subst (λ (s : Summary). IsAlbumSummary (measured_of recordings) s) same (c.summary.ensures.value recordings is)

pub returns : goal.returns
returns g c recordings is =
    let differs = summary_differs c.summary.result c.args.row.now.summary c.if-eq.ensures in (
      λ has. differs (IsAlbumSummary-unique (measured_of recordings) c.summary.result c.args.row.now.summary (c.summary.ensures.value recordings is) has),
      rw c.from.ensures refl,
    )
