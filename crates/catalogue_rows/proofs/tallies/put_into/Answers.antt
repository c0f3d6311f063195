use Rattle.std.proofs.Common.{arith, Some, refl, sym, subst}
use Rattle.album_merge.specs.Members.{IsAlbumOf}
use Rattle.catalogue_rows.specs.Places.{with_over}
use Rattle.catalogue_rows.specs.Room.{and_one}
use Rattle.catalogue_rows.proofs.Albums.{members_elsewhere, one_apart, one_here, over_apart, over_here, places_elsewhere, sets_ascend, sets_members, sets_of, sets_places, sets_rows}
use Rattle.catalogue_rows.proofs.tallies.put_into.Goals as goal

pub returns-in-Some-clause-kept : goal.returns-in-Some-clause-kept
returns-in-Some-clause-kept c =
    let s = sets_of c.args.album c.put_over.new.album c.args.albums.now.items c.as_slice.result.now c.in-Some.place c.index_mut.result.now
    c.requires.ascend c.as_slice.ensures.value c.in-Some.ensures.there c.index_mut.ensures.value in
    record { rows = sets_rows c.args.album c.index_mut.result.now c.put_over.new.album c.args.albums.now.items _ s; len = refl; capacity = refl }

pub returns-in-Some-clause-ascend : goal.returns-in-Some-clause-ascend
returns-in-Some-clause-ascend c =
    let s = sets_of c.args.album c.put_over.new.album c.args.albums.now.items c.as_slice.result.now c.in-Some.place c.index_mut.result.now
    c.requires.ascend c.as_slice.ensures.value c.in-Some.ensures.there c.index_mut.ensures.value in
    sets_ascend c.args.album c.index_mut.result.now c.put_over.new.album c.args.albums.now.items _ s

pub returns-in-Some-clause-members : goal.returns-in-Some-clause-members
returns-in-Some-clause-members c of measured all stands few =
    let album = c.args.album in
    let s = sets_of album c.put_over.new.album c.args.albums.now.items c.as_slice.result.now c.in-Some.place c.index_mut.result.now
    c.requires.ascend c.as_slice.ensures.value c.in-Some.ensures.there c.index_mut.ensures.value in
    sets_members of (with_over (Some album) c.args.id measured of) album c.index_mut.result.now c.put_over.new.album c.args.albums.now.items _ s
    (over_apart album c.args.id measured of)
    (λ was. subst (IsAlbumOf c.put_over.new.album) (sym (over_here album c.args.id measured of))
    (c.put_over.ensures.album (of album) measured was stands few)) all

pub returns-in-Some-clause-places : goal.returns-in-Some-clause-places
returns-in-Some-clause-places c more all =
    let album = c.args.album in
    let s = sets_of album c.put_over.new.album c.args.albums.now.items c.as_slice.result.now c.in-Some.place c.index_mut.result.now
    c.requires.ascend c.as_slice.ensures.value c.in-Some.ensures.there c.index_mut.ensures.value in
    let here = one_here album more in
    let spare = c.put_over.ensures.spare in
    sets_places (and_one (Some album) more) more album c.index_mut.result.now c.put_over.new.album c.args.albums.now.items _ s
    (λ other apart. sym (one_apart album more other apart)) (λ was. omega (arith, here, spare, was)) all

pub returns-in_default-clause-members : goal.returns-in_default-clause-members
returns-in_default-clause-members c of measured all stands few =
    members_elsewhere of (with_over (Some c.args.album) c.args.id measured of) c.args.album c.args.albums.now.items c.as_slice.result.now
    c.as_slice.ensures.value c.in_default.ensures.missing (over_apart c.args.album c.args.id measured of) all

pub returns-in_default-clause-places : goal.returns-in_default-clause-places
returns-in_default-clause-places c more all =
    places_elsewhere (and_one (Some c.args.album) more) more c.args.album c.args.albums.now.items c.as_slice.result.now c.as_slice.ensures.value
    c.in_default.ensures.missing (λ other apart. sym (one_apart c.args.album more other apart)) all
