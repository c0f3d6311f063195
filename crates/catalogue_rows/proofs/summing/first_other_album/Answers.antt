use Rattle.std.proofs.Common.{rules, arith, ◌≡◌, ◌<◌, true, false, length, is_some}
use Rattle.keeper_store.specs.declared.row_types.AlbumRow.{AlbumRow}
use Rattle.album_merge.specs.Members.{Kept, IsAlbumOf, measured_of}
use Rattle.library_model.specs.RowRules.{other_album_summary}
use Rattle.sound_model.specs.Albums.{IsAlbumSummary}
use Rattle.catalogue_rows.proofs.Placed.{AllZip-read}
use Rattle.catalogue_rows.proofs.Summed.{first_found, none_more}
use Rattle.catalogue_rows.proofs.summing.first_other_album.Goals as goal

pub returns-then-is_some : goal.returns-then-is_some
returns-then-is_some g c of all =
    let place = c.loop-place.place in
    let row = c.index-rows-place.result in
    let album = c.index-albums-place.result in
    let inside : place < length c.args.rows.now = grind arith in
    let some : is_some c.other_album-bad.result ≡ true = search rules in
    let stands : IsAlbumOf album (of row.id) =
    AllZip-read (λ (r : AlbumRow) (kept : Kept). IsAlbumOf kept (of r.id)) c.args.rows.now c.args.albums.now place row album all inside
    c.index-rows-place.is c.index-albums-place.is in
    first_found (λ (r : AlbumRow). IsAlbumSummary (measured_of (of r.id)) r.summary) other_album_summary c.args.rows.now place row
    c.other_album-bad.result some (c.loop-place.invariant.summed of all) inside c.index-rows-place.is (c.other_album-bad.ensures (of row.id) stands)

pub loop-place-preserved : goal.loop-place-preserved
loop-place-preserved g c =
    let place = c.loop-place.place in
    let row = c.index-rows-place.result in
    let album = c.index-albums-place.result in
    let inside : place < length c.args.rows.now = grind arith in
    let none : is_some c.other_album-bad.result ≡ false = search rules in
    record {
      inside = omega (arith, inside);
      summed = λ of all.
          let stands : IsAlbumOf album (of row.id) =
          AllZip-read (λ (r : AlbumRow) (kept : Kept). IsAlbumOf kept (of r.id)) c.args.rows.now c.args.albums.now place row album all inside
          c.index-rows-place.is c.index-albums-place.is in
          none_more (λ (r : AlbumRow). IsAlbumSummary (measured_of (of r.id)) r.summary) other_album_summary c.args.rows.now place row
          c.other_album-bad.result none (c.loop-place.invariant.summed of all) inside c.index-rows-place.is
          (c.other_album-bad.ensures (of row.id) stands);
    }
