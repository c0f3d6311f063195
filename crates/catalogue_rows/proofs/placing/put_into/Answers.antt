use Rattle.std.proofs.Common.{arith, ◌≡◌, Some, true, sym, subst}
use Rattle.std.proofs.Math.ListN.{get_or}
use Rattle.keeper_store.specs.declared.row_types.AlbumRow.{AlbumRow}
use Rattle.album_merge.specs.Members.{Kept, IsAlbumOf}
use Rattle.library_model.specs.RowRules.{is_in_album}
use Rattle.catalogue_rows.specs.Opening.{HasPlace}
use Rattle.catalogue_rows.proofs.Placed.{AllZip-long, album_missing, OnOk_then, place_in_any, put_at_place, stands_any}
use Rattle.catalogue_rows.proofs.placing.put_into.Goals as goal

pub unreachable-requires : goal.unreachable-requires
unreachable-requires c = album_missing c.args.album c.args.rows.now c.requires.there c.in_default.ensures.missing

pub index_mut-requires : goal.index_mut-requires
index_mut-requires c =
    let long = AllZip-long (λ (r : AlbumRow) (kept : Kept). is_in_album r.id (Some c.args.album) ≡ true → HasPlace c.args.id kept)
    c.args.rows.now c.args.albums.now.items c.requires.place in
    let inside = c.in-Some.ensures.there.inside in
    grind (arith, long, inside)

pub take_in-requires : goal.take_in-requires
take_in-requires c =
    let album = c.index_mut.result.now in
    let at : HasPlace c.args.id (get_or c.args.albums.now.items c.in-Some.place album) =
    place_in_any c.args.album c.args.id c.args.rows.now c.args.albums.now.items c.in-Some.place album c.requires.place
    c.in-Some.ensures.there.inside c.in-Some.ensures.there.same in
    subst (HasPlace c.args.id) (sym c.index_mut.ensures.value) at

pub returns : goal.returns
returns c =
    OnOk_then c.take_in.result c.take_in.ensures
    (λ takes of measured stands all.
    let album = c.index_mut.result.now in
    let at : IsAlbumOf (get_or c.args.albums.now.items c.in-Some.place album) (of c.args.album) =
    stands_any of c.args.album c.args.rows.now c.args.albums.now.items c.in-Some.place album
    c.in-Some.ensures.there.inside c.in-Some.ensures.there.same all in
    let was : IsAlbumOf album (of c.args.album) =
    subst (λ (kept : Kept). IsAlbumOf kept (of c.args.album)) (sym c.index_mut.ensures.value) at in
    put_at_place of c.args.album c.args.id measured c.args.rows.now c.args.albums.now.items c.in-Some.place c.take_in.new.album
    c.requires.ascend c.in-Some.ensures.there.inside c.in-Some.ensures.there.same (takes (of c.args.album) measured was stands) all)
