use Rattle.std.proofs.Common.{arith, ◌<◌, ◌+◌, [], ◌∷◌, ◌++◌, length, take, sym, ap, ◌∙◌}
use Rattle.std.proofs.lemmas.List.{take_more}
use Rattle.keeper_store.specs.declared.row_types.AlbumRow.{AlbumRow}
use Rattle.album_merge.specs.Members.{Kept, IsAlbumOf}
use Rattle.catalogue_rows.proofs.Placed.{AllZip-as, AllZip-more}
use Rattle.catalogue_rows.proofs.building.empty_albums.Goals as goal

pub loop-row-preserved : goal.loop-row-preserved
loop-row-preserved c =
    let rows = c.args.rows.now in
    let i = c.loop-row._row-index in
    let row = c._row-item.result in
    let album = c.in_ok-new.field-0 in
    let albums = c.loop-row.albums.items in
    let inside : i < length rows = grind arith in
    let Empty : AlbumRow → Kept → Type 0 = λ r kept. IsAlbumOf kept [] in
    AllZip-as Empty (take i rows ++ row ∷ []) (take (i + 1) rows) (albums ++ album ∷ []) c.push.new.self.items
    (take_more rows i row inside ∙ ap (λ (r : AlbumRow). take i rows ++ r ∷ []) (sym c._row-item.is)) c.in_ok-push.ensures.items
    (AllZip-more Empty (take i rows) albums row album c.loop-row.invariant c.in_ok-new.ensures.album)
