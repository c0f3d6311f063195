use Rattle.std.proofs.Common.{◌≡◌, ◌≤◌, Option, List, true, refl, sym, subst, inl, inr}
use Rattle.std.specs.Prelude.{IfSome}
use Rattle.keeper_store.specs.declared.row_types.AlbumRow.{AlbumRow}
use Rattle.keeper_store.specs.Puts.{IsFirstOfNumber}
use Rattle.album_merge.specs.Members.{Kept}
use Rattle.library_model.specs.RowRules.{has_album}
use Rattle.catalogue_rows.specs.declared.kept.KeptAlbum.{KeptAlbum}
use Rattle.catalogue_rows.specs.KeptOrders.{kept_album_id}
use Rattle.catalogue_rows.specs.Making.{IsEmptyAlbum}
use Rattle.catalogue_rows.proofs.Albums.{none_there, put_places}
use Rattle.catalogue_rows.proofs.Changed.{Holds-put_album_over, Holds-put_empty_album, albums_rise_set}
use Rattle.catalogue_rows.proofs.rows.CatalogueRows.put_album.Goals as goal

pub invariant_of-self : goal.invariant_of-self
invariant_of-self c =
    let at = subst (λ (l : List KeptAlbum). IsFirstOfNumber kept_album_id c.args.row.id l c.in-Some.place) c.as_slice.ensures.value
    c.in-Some.ensures.there in
    record {
      albums_ascend = albums_rise_set c.args.self.now.albums.items c.args.row.id c.in-Some.place _ c.args.self.now.albums_ascend at refl;
      recordings_ascend = c.args.self.now.recordings_ascend;
    }

pub returns-in-Some-clause-held : goal.returns-in-Some-clause-held
returns-in-Some-clause-held c t holds fits =
    let at = subst (λ (l : List KeptAlbum). IsFirstOfNumber kept_album_id c.args.row.id l c.in-Some.place) c.as_slice.ensures.value
    c.in-Some.ensures.there in
    Holds-put_album_over c.args.self.now _ t c.args.row c.in-Some.place c.index_mut.result.now holds at c.index_mut.ensures.value refl refl
    refl refl

pub returns-in-Some-album-clause-held : goal.returns-in-Some-album-clause-held
returns-in-Some-album-clause-held c t holds (inl has) =
    absurd (none_there c.args.row.id c.args.self.now.albums.items c.as_slice.result.now c.as_slice.ensures.value
    (subst (λ (albums : List AlbumRow). has_album c.args.row.id albums ≡ true) (sym holds.albums) has) c.in-None.ensures.missing)
returns-in-Some-album-clause-held c t holds (inr new) =
    Holds-put_empty_album c.args.self.now _ t c.args.row c.in-Some-album.members holds new.0
    (subst IsEmptyAlbum c.in-Some-album.is new.1) c.put_row.ensures.items refl refl refl

pub returns-in-Some-album-clause-places : goal.returns-in-Some-album-clause-places
returns-in-Some-album-clause-places c more has new =
    put_places more c.args.self.now.albums.items _ c.args.row c.in-Some-album.members c.put_row.ensures.items
    (subst (λ (album : Option Kept). IfSome album (λ a. more c.args.row.id ≤ a.spare)) c.in-Some-album.is new) has

pub returns-in_default-clause-held : goal.returns-in_default-clause-held
returns-in_default-clause-held c t holds (inl has) =
    absurd (none_there c.args.row.id c.args.self.now.albums.items c.as_slice.result.now c.as_slice.ensures.value
    (subst (λ (albums : List AlbumRow). has_album c.args.row.id albums ≡ true) (sym holds.albums) has) c.in-None.ensures.missing)
returns-in_default-clause-held c t holds (inr new) = absurd (subst IsEmptyAlbum c.in_default.is new.1)
