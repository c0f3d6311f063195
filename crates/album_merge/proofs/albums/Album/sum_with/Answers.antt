use Rattle.std.proofs.Common.{refl, subst}
use Rattle.album_merge.specs.declared.members.Member.{Member}
use Rattle.album_merge.specs.Members.{with_recording}
use Rattle.album_merge.specs.Tallies.{Tallied, StandsForMeasured}
use Rattle.album_merge.proofs.Joining.{IsAlbumOf-with, has_placed, put_back}
use Rattle.album_merge.proofs.albums.Album.sum_with.Goals as goal

pub unreachable-requires : goal.unreachable-requires
unreachable-requires g c =
    let member : Member = record { id = c.args.id; tally = c.args.tally } in
    c.in_default.ensures.none (has_placed c.args.self.now.members c.put_in.new.self.members member c.put_in.ensures.members).1

pub returns-clause-summary : goal.returns-clause-summary
returns-clause-summary g c recordings measured is stands =
    c.summary-summary.ensures.value (with_recording c.args.id measured recordings)
    (IsAlbumOf-with c.args.self.now c.put_in.new.self recordings c.args.id c.args.tally measured is stands c.requires.fresh
    c.put_in.ensures.members)

pub returns-clause-tally : goal.returns-clause-tally
returns-clause-tally g c measured stands =
    let member : Member = record { id = c.args.id; tally = c.args.tally } in
    let Stands : Tallied → Type 0 = λ t. StandsForMeasured t measured in
    let has = has_placed c.args.self.now.members c.put_in.new.self.members member c.put_in.ensures.members in
    subst Stands (c.in-Some.ensures.its member has.0 refl) stands

pub returns-clause-members : goal.returns-clause-members
returns-clause-members g c =
    let member : Member = record { id = c.args.id; tally = c.args.tally } in
    put_back c.args.self.now.members c.put_in.new.self.members c.take_out.new.self.members member c.requires.fresh c.put_in.ensures.members
    c.in-Some.ensures.members
