use Rattle.album_merge.specs.Members.{without_recording}
use Rattle.album_merge.proofs.Joining.{IsAlbumOf-without, gone}
use Rattle.album_merge.proofs.albums.Album.summary_without.Goals as goal

pub put_in-requires-clause-fresh : goal.put_in-requires-clause-fresh
put_in-requires-clause-fresh g c = gone c.args.self.now.members c.take_out.new.self.members c.args.id c.in-Some.ensures.members

pub returns-clause-summary : goal.returns-clause-summary
returns-clause-summary g c recordings is =
    c.summary-summary.ensures.value (without_recording c.args.id recordings)
    (IsAlbumOf-without c.args.self.now c.take_out.new.self recordings c.args.id is c.in-Some.ensures.members)
