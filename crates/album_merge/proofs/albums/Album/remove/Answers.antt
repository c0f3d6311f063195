use Rattle.std.proofs.Common.{map, ap, ◌∙◌, subst}
use Rattle.std.proofs.lemmas.Option.{IfSome_then}
use Rattle.album_merge.specs.Members.{member_id}
use Rattle.album_merge.specs.Tallies.{Tallied, StandsForMeasured}
use Rattle.album_merge.proofs.Joining.{IsAlbumOf-without, member_of, gone}
use Rattle.album_merge.proofs.Placing.{map-without}
use Rattle.album_merge.proofs.albums.Album.remove.Goals as goal

pub returns-clause-tally : goal.returns-clause-tally
returns-clause-tally c =
    IfSome_then c.take_out.result c.take_out.ensures.its
    (λ tally its recordings measured is has.
    let found = member_of c.args.self.now.members recordings is.members (c.args.id, measured) has in
    let Stands : Tallied → Type 0 = λ t. StandsForMeasured t measured in
    subst Stands (its found.0 found.1 found.2.0) found.2.1)

pub returns-clause-album : goal.returns-clause-album
returns-clause-album c recordings is =
    IsAlbumOf-without c.args.self.now c.take_out.new.self recordings c.args.id is c.take_out.ensures.members

pub returns-clause-ids : goal.returns-clause-ids
returns-clause-ids c =
    ap (map member_id) c.take_out.ensures.members ∙ map-without member_id c.args.id c.args.self.now.members

pub returns-clause-gone : goal.returns-clause-gone
returns-clause-gone c = gone c.args.self.now.members c.take_out.new.self.members c.args.id c.take_out.ensures.members
