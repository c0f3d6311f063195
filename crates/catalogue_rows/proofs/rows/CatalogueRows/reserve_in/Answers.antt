use Rattle.std.proofs.Common.{refl}
use Rattle.catalogue_rows.specs.Holding.{album_of}
use Rattle.catalogue_rows.proofs.Albums.{ok_then, place_made_in, sets_ascend, sets_members, sets_of, sets_rows}
use Rattle.catalogue_rows.proofs.Changed.{Holds-albums}
use Rattle.catalogue_rows.proofs.rows.CatalogueRows.reserve_in.Goals as goal

pub invariant_of-self : goal.invariant_of-self
invariant_of-self c =
    let s = sets_of c.in-Some.id c.reserve.new.self c.args.self.now.albums.items c.as_slice.result.now c.in-Some-find_place.place
    c.index_mut.result.now c.args.self.now.albums_ascend c.as_slice.ensures.value c.in-Some-find_place.ensures.there c.index_mut.ensures.value in
    record {
      albums_ascend = sets_ascend c.in-Some.id c.index_mut.result.now c.reserve.new.self c.args.self.now.albums.items _ s;
      recordings_ascend = c.args.self.now.recordings_ascend;
    }

pub returns-clause-held : goal.returns-clause-held
returns-clause-held c t holds =
    let s = sets_of c.in-Some.id c.reserve.new.self c.args.self.now.albums.items c.as_slice.result.now c.in-Some-find_place.place
    c.index_mut.result.now c.args.self.now.albums_ascend c.as_slice.ensures.value c.in-Some-find_place.ensures.there c.index_mut.ensures.value in
    Holds-albums c.args.self.now _ t holds
    (sets_rows c.in-Some.id c.index_mut.result.now c.reserve.new.self c.args.self.now.albums.items _ s)
    (sets_members (album_of t t.recordings) (album_of t t.recordings) c.in-Some.id c.index_mut.result.now c.reserve.new.self
    c.args.self.now.albums.items _ s (λ other apart. refl) (λ was. c.reserve.ensures.album (album_of t t.recordings c.in-Some.id) was)
    holds.in_albums) refl refl refl

pub returns-clause-place : goal.returns-clause-place
returns-clause-place c =
    let s = sets_of c.in-Some.id c.reserve.new.self c.args.self.now.albums.items c.as_slice.result.now c.in-Some-find_place.place
    c.index_mut.result.now c.args.self.now.albums_ascend c.as_slice.ensures.value c.in-Some-find_place.ensures.there c.index_mut.ensures.value in
    ok_then c.reserve.result c.reserve.ensures.room
    (λ made.
    place_made_in c.args.album c.in-Some.id c.index_mut.result.now c.reserve.new.self c.args.self.now.albums.items _ c.in-Some.is s made)
