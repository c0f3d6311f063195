use Rattle.std.proofs.Common.{map, ap}
use Rattle.album_merge.specs.Members.{member_id}
use Rattle.album_merge.proofs.Joining.{IsAlbumOf-same}
use Rattle.album_merge.proofs.albums.Album.summary_with.Goals as goal

pub returns-clause-album : goal.returns-clause-album
returns-clause-album g c recordings is =
    IsAlbumOf-same c.args.self.now c.sum_with.new.self recordings c.sum_with.ensures.members is

pub returns-clause-ids : goal.returns-clause-ids
returns-clause-ids g c = ap (map member_id) c.sum_with.ensures.members
