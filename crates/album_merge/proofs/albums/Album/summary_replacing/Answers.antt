use Rattle.std.proofs.Common.{ℕ, List, Contains, map, sym, ap, ◌∙◌, subst}
use Rattle.album_merge.specs.declared.members.Member.{Member}
use Rattle.album_merge.specs.Members.{member_id, placed, without_recording}
use Rattle.album_merge.proofs.Joining.{IsAlbumOf-without, gone}
use Rattle.album_merge.proofs.albums.Album.summary_replacing.Goals as goal

pub sum_with-tally-requires-clause-fresh : goal.sum_with-tally-requires-clause-fresh
sum_with-tally-requires-clause-fresh g c = gone c.args.self.now.members c.take_out.new.self.members c.args.id c.in-Some.ensures.members

pub put_in-requires-clause-fresh : goal.put_in-requires-clause-fresh
put_in-requires-clause-fresh g c =
    let Has : List Member → Type 0 = λ ms. Contains (map member_id ms) c.args.id in
    λ has.
    gone c.args.self.now.members c.take_out.new.self.members c.args.id c.in-Some.ensures.members
    (subst Has c.sum_with-tally.ensures.members has)

pub returns-clause-summary : goal.returns-clause-summary
returns-clause-summary g c recordings measured is stands =
    c.sum_with-tally.ensures.summary (without_recording c.args.id recordings) measured
    (IsAlbumOf-without c.args.self.now c.take_out.new.self recordings c.args.id is c.in-Some.ensures.members) stands
