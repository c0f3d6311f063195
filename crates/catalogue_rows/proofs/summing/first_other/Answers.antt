use Rattle.std.proofs.Common.{ℕ, List, length, sym, ap, ◌∙◌, subst}
use Rattle.lib_base.specs.declared.files.Measured.{Measured}
use Rattle.keeper_store.specs.declared.row_types.AlbumRow.{AlbumRow}
use Rattle.album_merge.specs.Members.{Kept, IsAlbumOf, measured_of}
use Rattle.library_model.specs.RowRules.{other_album_summary}
use Rattle.sound_model.specs.Albums.{IsAlbumSummary}
use Rattle.catalogue_rows.specs.Opening.{AreAlbumsOf, IsFirstAnswer, IsFirstOther}
use Rattle.catalogue_rows.specs.Holding.{album_of}
use Rattle.catalogue_rows.proofs.Placed.{AllZip-as, AllZip-long}
use Rattle.catalogue_rows.proofs.Summed.{albums_other, other_is}
use Rattle.catalogue_rows.proofs.summing.first_other.Goals as goal

pub first_other_album-album-requires-clause-long : goal.first_other_album-album-requires-clause-long
first_other_album-album-requires-clause-long c =
    let t = c.args.tables.now in
    let long = AllZip-long (λ (r : AlbumRow) (kept : Kept). IsAlbumOf kept (album_of t t.recordings r.id)) t.albums c.args.built.now.albums.items
    c.requires.albums in
    ap (λ (l : List Kept). length l) c.as_slice.ensures.value ∙ sym long ∙ ap (λ (l : List AlbumRow). length l) (sym c.as_slice-rows.ensures)

pub returns : goal.returns
returns c =
    let t = c.args.tables.now in
    let of : ℕ → List (ℕ × Measured) = album_of t t.recordings in
    let Fact : AlbumRow → Type 0 = λ r. IsAlbumSummary (measured_of (of r.id)) r.summary in
    let all : AreAlbumsOf of c.as_slice-rows.result.now c.as_slice.result.now =
    AllZip-as (λ (r : AlbumRow) (kept : Kept). IsAlbumOf kept (of r.id)) t.albums c.as_slice-rows.result.now c.args.built.now.albums.items
    c.as_slice.result.now c.as_slice-rows.ensures c.as_slice.ensures.value c.requires.albums in
    let albums : IsFirstOther Fact other_album_summary t.albums c.first_other_album-album.result =
    subst (λ (rows : List AlbumRow). IsFirstOther Fact other_album_summary rows c.first_other_album-album.result) c.as_slice-rows.ensures
    (c.first_other_album-album.ensures of all) in
    subst (IsFirstAnswer t) (sym c.or.ensures)
    (other_is t c.first_other_album-album.result c.args.built.now.other (albums_other t c.first_other_album-album.result albums) c.requires.other)
