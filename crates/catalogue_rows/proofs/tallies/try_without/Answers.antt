use Rattle.std.proofs.Common.{refl}
use Rattle.catalogue_rows.proofs.Albums.{none_there, sets_ascend, sets_of, sets_rows}
use Rattle.catalogue_rows.proofs.tallies.try_without.Goals as goal

pub returns-in_default-clause-some : goal.returns-in_default-clause-some
returns-in_default-clause-some g c there =
    absurd (none_there c.args.album c.args.albums.now.items c.as_slice.result.now c.as_slice.ensures.value there c.in_default.ensures.missing)

pub returns-clause-kept : goal.returns-clause-kept
returns-clause-kept g c =
    let s = sets_of c.args.album c.try_without.new.album c.args.albums.now.items c.as_slice.result.now c.in-Some.place c.index_mut.result.now
    c.requires c.as_slice.ensures.value c.in-Some.ensures.there c.index_mut.ensures.value in
    record { rows = sets_rows c.args.album c.index_mut.result.now c.try_without.new.album c.args.albums.now.items _ s; len = refl; capacity = refl }

pub returns-clause-ascend : goal.returns-clause-ascend
returns-clause-ascend g c =
    let s = sets_of c.args.album c.try_without.new.album c.args.albums.now.items c.as_slice.result.now c.in-Some.place c.index_mut.result.now
    c.requires c.as_slice.ensures.value c.in-Some.ensures.there c.index_mut.ensures.value in
    sets_ascend c.args.album c.index_mut.result.now c.try_without.new.album c.args.albums.now.items _ s
