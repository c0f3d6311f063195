use Rattle.std.proofs.Common.{ap, ◌∙◌}
use Rattle.album_merge.specs.Joined.{peak_in}
use Rattle.album_merge.proofs.Joining.{peak_joined}
use Rattle.album_merge.proofs.albums.Album.peak.Goals as goal

pub returns-clause-value : goal.returns-clause-value
returns-clause-value c recordings is =
    c.peak_of.ensures.value ∙ ap peak_in c.members.ensures.value ∙ peak_joined c.args.self.now.members recordings is.members
