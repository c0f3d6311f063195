use Rattle.std.proofs.Common.{subst}
use Rattle.album_merge.specs.Members.{IsAlbumOf, without_recording}
use Rattle.catalogue_rows.proofs.Backed.{backed}
use Rattle.catalogue_rows.proofs.members.try_with.Goals as goal

pub returns-in-Some-clause-album : goal.returns-in-Some-clause-album
returns-in-Some-clause-album g c recordings is =
    let left = without_recording c.args.id recordings in
    let back = backed c.args.album.now c.args.id recordings is c.in-Some.ensures.some in
    let summed = c.summary_with-tally.ensures.album left (c.in-Some.ensures.album recordings is) in
    subst (IsAlbumOf c.add.new.self) back.back
    (c.add.ensures.album left back.measured summed (c.in-Some.ensures.tally recordings back.measured is back.there))

pub returns-in-Some-clause-summary : goal.returns-in-Some-clause-summary
returns-in-Some-clause-summary g c recordings measured is stands =
    c.summary_with-tally.ensures.summary (without_recording c.args.id recordings) measured (c.in-Some.ensures.album recordings is) stands

pub returns-in-None-clause-summary : goal.returns-in-None-clause-summary
returns-in-None-clause-summary g c recordings measured is stands =
    c.try_more.ensures.summary (without_recording c.args.id recordings) measured (c.in-None.ensures.album recordings is) stands
