use Rattle.std.proofs.Common.{arith, Some, refl, sym, subst}
use Rattle.std.proofs.lemmas.Option.{IfSome_then}
use Rattle.album_merge.specs.Members.{IsAlbumOf, without_recording}
use Rattle.catalogue_rows.specs.Places.{without_one}
use Rattle.catalogue_rows.specs.Room.{and_one}
use Rattle.catalogue_rows.proofs.Albums.{has_id, none_there, one_apart, one_here, sets_ascend, sets_members, sets_of, sets_places, sets_rows, some_unless, spare_stays, was_album, without_apart, without_here}
use Rattle.catalogue_rows.proofs.Backed.{long_as}
use Rattle.catalogue_rows.proofs.tallies.take_from.Goals as goal

pub returns-in_default-clause-some : goal.returns-in_default-clause-some
returns-in_default-clause-some c of measured all there has =
    absurd (none_there c.args.album c.args.albums.now.items c.as_slice.result.now c.as_slice.ensures.value there c.in_default.ensures.missing)

pub returns-clause-kept : goal.returns-clause-kept
returns-clause-kept c =
    let s = sets_of c.args.album c.remove.new.self c.args.albums.now.items c.as_slice.result.now c.in-Some.place c.index_mut.result.now c.requires
    c.as_slice.ensures.value c.in-Some.ensures.there c.index_mut.ensures.value in
    record { rows = sets_rows c.args.album c.index_mut.result.now c.remove.new.self c.args.albums.now.items _ s; len = refl; capacity = refl }

pub returns-clause-ascend : goal.returns-clause-ascend
returns-clause-ascend c =
    let s = sets_of c.args.album c.remove.new.self c.args.albums.now.items c.as_slice.result.now c.in-Some.place c.index_mut.result.now c.requires
    c.as_slice.ensures.value c.in-Some.ensures.there c.index_mut.ensures.value in
    sets_ascend c.args.album c.index_mut.result.now c.remove.new.self c.args.albums.now.items _ s

pub returns-clause-members : goal.returns-clause-members
returns-clause-members c of all =
    let album = c.args.album in
    let s = sets_of album c.remove.new.self c.args.albums.now.items c.as_slice.result.now c.in-Some.place c.index_mut.result.now c.requires
    c.as_slice.ensures.value c.in-Some.ensures.there c.index_mut.ensures.value in
    sets_members of (without_one album c.args.id of) album c.index_mut.result.now c.remove.new.self c.args.albums.now.items _ s (without_apart album c.args.id of)
    (λ was. subst (IsAlbumOf c.remove.new.self) (sym (without_here album c.args.id of)) (c.remove.ensures.album (of album) was)) all

pub returns-clause-place : goal.returns-clause-place
returns-clause-place c =
    let album = c.args.album in
    let s = sets_of album c.remove.new.self c.args.albums.now.items c.as_slice.result.now c.in-Some.place c.index_mut.result.now c.requires
    c.as_slice.ensures.value c.in-Some.ensures.there c.index_mut.ensures.value in
    IfSome_then c.remove.result c.remove.ensures.spare
    (λ tally spare more all.
    let here = one_here album more in
    sets_places more (and_one (Some album) more) album c.index_mut.result.now c.remove.new.self c.args.albums.now.items _ s (one_apart album more)
    (λ was. omega (arith, here, spare, was)) all)

pub returns-clause-few : goal.returns-clause-few
returns-clause-few c =
    let album = c.args.album in
    let s = sets_of album c.remove.new.self c.args.albums.now.items c.as_slice.result.now c.in-Some.place c.index_mut.result.now c.requires
    c.as_slice.ensures.value c.in-Some.ensures.there c.index_mut.ensures.value in
    IfSome_then c.remove.result c.remove.ensures.few
    (λ tally few of all.
    let was = was_album of album c.index_mut.result.now c.remove.new.self c.args.albums.now.items _ s all in
    let long = long_as c.remove.new.self (without_recording c.args.id (of album)) (c.remove.ensures.album (of album) was) in
    omega (arith, few, long))

pub returns-clause-tally : goal.returns-clause-tally
returns-clause-tally c =
    let album = c.args.album in
    let s = sets_of album c.remove.new.self c.args.albums.now.items c.as_slice.result.now c.in-Some.place c.index_mut.result.now c.requires
    c.as_slice.ensures.value c.in-Some.ensures.there c.index_mut.ensures.value in
    IfSome_then c.remove.result c.remove.ensures.tally
    (λ tally stands of measured all has.
    stands (of album) measured (was_album of album c.index_mut.result.now c.remove.new.self c.args.albums.now.items _ s all) has)

pub returns-clause-some : goal.returns-clause-some
returns-clause-some c of measured all there has =
    let album = c.args.album in
    let s = sets_of album c.remove.new.self c.args.albums.now.items c.as_slice.result.now c.in-Some.place c.index_mut.result.now c.requires
    c.as_slice.ensures.value c.in-Some.ensures.there c.index_mut.ensures.value in
    let was = was_album of album c.index_mut.result.now c.remove.new.self c.args.albums.now.items _ s all in
    some_unless c.remove.result c.remove.ensures.none (has_id c.index_mut.result.now.members (of album) c.args.id measured was has)

pub returns-clause-places : goal.returns-clause-places
returns-clause-places c more all =
    let album = c.args.album in
    let s = sets_of album c.remove.new.self c.args.albums.now.items c.as_slice.result.now c.in-Some.place c.index_mut.result.now c.requires
    c.as_slice.ensures.value c.in-Some.ensures.there c.index_mut.ensures.value in
    let spare = spare_stays c.remove.result c.index_mut.result.now.members c.remove.new.self c.remove.ensures.spare c.remove.ensures.unchanged in
    sets_places more more album c.index_mut.result.now c.remove.new.self c.args.albums.now.items _ s (λ other apart. refl)
    (λ was. omega (arith, spare, was)) all
