use Rattle.std.proofs.Common.{refl}
use Rattle.catalogue_rows.proofs.Albums.{none_there, sets_ascend, sets_members, sets_of, sets_rows, was_album}
use Rattle.catalogue_rows.proofs.tallies.try_with.Goals as goal

pub returns-in_default-clause-some : goal.returns-in_default-clause-some
returns-in_default-clause-some g c of all there few =
    absurd (none_there c.args.album c.args.albums.now.items c.as_slice.result.now c.as_slice.ensures.value there c.in_default.ensures.missing)

pub returns-clause-kept : goal.returns-clause-kept
returns-clause-kept g c =
    let s = sets_of c.args.album c.try_with.new.album c.args.albums.now.items c.as_slice.result.now c.in-Some.place c.index_mut.result.now
    c.requires.ascend c.as_slice.ensures.value c.in-Some.ensures.there c.index_mut.ensures.value in
    record { rows = sets_rows c.args.album c.index_mut.result.now c.try_with.new.album c.args.albums.now.items _ s; len = refl; capacity = refl }

pub returns-clause-ascend : goal.returns-clause-ascend
returns-clause-ascend g c =
    let s = sets_of c.args.album c.try_with.new.album c.args.albums.now.items c.as_slice.result.now c.in-Some.place c.index_mut.result.now
    c.requires.ascend c.as_slice.ensures.value c.in-Some.ensures.there c.index_mut.ensures.value in
    sets_ascend c.args.album c.index_mut.result.now c.try_with.new.album c.args.albums.now.items _ s

pub returns-clause-members : goal.returns-clause-members
returns-clause-members g c of all =
    let s = sets_of c.args.album c.try_with.new.album c.args.albums.now.items c.as_slice.result.now c.in-Some.place c.index_mut.result.now
    c.requires.ascend c.as_slice.ensures.value c.in-Some.ensures.there c.index_mut.ensures.value in
    sets_members of of c.args.album c.index_mut.result.now c.try_with.new.album c.args.albums.now.items _ s (λ other apart. refl)
    (λ was. c.try_with.ensures.album (of c.args.album) was) all

pub returns-clause-summary : goal.returns-clause-summary
returns-clause-summary g c of measured all stands =
    let s = sets_of c.args.album c.try_with.new.album c.args.albums.now.items c.as_slice.result.now c.in-Some.place c.index_mut.result.now
    c.requires.ascend c.as_slice.ensures.value c.in-Some.ensures.there c.index_mut.ensures.value in
    c.try_with.ensures.summary (of c.args.album) measured (was_album of c.args.album c.index_mut.result.now c.try_with.new.album c.args.albums.now.items _ s all) stands
