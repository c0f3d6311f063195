use Rattle.std.proofs.Common.{subst}
use Rattle.album_merge.specs.Members.{IsAlbumOf, without_recording}
use Rattle.catalogue_rows.proofs.Backed.{backed}
use Rattle.catalogue_rows.proofs.members.try_without.Goals as goal

pub returns-in-Some-clause-album : goal.returns-in-Some-clause-album
returns-in-Some-clause-album g c recordings is =
    let left = without_recording c.args.id recordings in
    let back = backed c.args.album.now c.args.id recordings is c.in-Some.ensures.some in
    subst (IsAlbumOf c.add.new.self) back.back
    (c.add.ensures.album left back.measured (c.remove-taken.ensures.album recordings is) (c.in-Some.ensures.tally recordings back.measured is back.there))

pub returns-in_default-clause-summary : goal.returns-in_default-clause-summary
returns-in_default-clause-summary g c recordings is =
    c.summary-summary.ensures.value (without_recording c.args.id recordings) (c.remove-taken.ensures.album recordings is)
