use Rattle.std.proofs.Common.{List, filter, sym, subst, IsPermutation}
use Rattle.sound_model.specs.Albums.{album_blocks}
use Rattle.sound_model.specs.Loudness.{is_audible}
use Rattle.album_merge.specs.declared.members.Member.{Member}
use Rattle.album_merge.specs.Joined.{blocks_in}
use Rattle.album_merge.specs.Members.{measured_of}
use Rattle.album_merge.proofs.Joining.{blocks_joined}
use Rattle.album_merge.proofs.albums.Album.loudness.Goals as goal

pub returns-clause-value : goal.returns-clause-value
returns-clause-value g c recordings is =
    let all = album_blocks (measured_of recordings) in
    let Moved : List Member → Type 0 = λ ms. IsPermutation (filter is_audible all) (blocks_in ms) in
    c.loudness_of.ensures.value all (subst Moved (sym c.members.ensures.value) (blocks_joined c.args.self.now.members recordings is.members))
