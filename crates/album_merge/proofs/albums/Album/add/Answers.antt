use Rattle.std.proofs.Common.{map, ap, ◌∙◌}
use Rattle.album_merge.specs.declared.members.Member.{Member}
use Rattle.album_merge.specs.Members.{member_id}
use Rattle.album_merge.proofs.Joining.{IsAlbumOf-with, has_placed}
use Rattle.album_merge.proofs.Placing.{map-placed}
use Rattle.album_merge.proofs.albums.Album.add.Goals as goal

pub returns-clause-album : goal.returns-clause-album
returns-clause-album c recordings measured is stands =
    IsAlbumOf-with c.args.self.now c.put_in.new.self recordings c.args.id c.args.tally measured is stands c.requires.fresh
    c.put_in.ensures.members

pub returns-clause-ids : goal.returns-clause-ids
returns-clause-ids c =
    let member : Member = record { id = c.args.id; tally = c.args.tally } in
    ap (map member_id) c.put_in.ensures.members ∙ map-placed member_id member c.args.self.now.members

pub returns-clause-there : goal.returns-clause-there
returns-clause-there c =
    let member : Member = record { id = c.args.id; tally = c.args.tally } in
    (has_placed c.args.self.now.members c.put_in.new.self.members member c.put_in.ensures.members).1
