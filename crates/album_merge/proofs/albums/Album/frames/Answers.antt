use Rattle.std.proofs.Common.{ap, ◌∙◌}
use Rattle.album_merge.specs.Joined.{frames_in}
use Rattle.album_merge.proofs.Joining.{frames_joined}
use Rattle.album_merge.proofs.albums.Album.frames.Goals as goal

pub returns : goal.returns
returns c recordings is =
    c.frames_of.ensures ∙ ap frames_in c.members.ensures.value ∙ frames_joined c.args.self.now.members recordings is.members
