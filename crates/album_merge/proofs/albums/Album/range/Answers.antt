use Rattle.std.proofs.Common.{List, filter, sym, subst, IsPermutation}
use Rattle.sound_model.specs.Albums.{album_windows}
use Rattle.sound_model.specs.Ranges.{is_window_audible}
use Rattle.album_merge.specs.declared.members.Member.{Member}
use Rattle.album_merge.specs.Joined.{windows_in}
use Rattle.album_merge.specs.Members.{measured_of}
use Rattle.album_merge.proofs.Joining.{windows_joined}
use Rattle.album_merge.proofs.albums.Album.range.Goals as goal

pub returns-clause-value : goal.returns-clause-value
returns-clause-value g c recordings is =
    let all = album_windows (measured_of recordings) in
    let Moved : List Member → Type 0 = λ ms. IsPermutation (filter is_window_audible all) (windows_in ms) in
    c.range_of.ensures all (subst Moved (sym c.members.ensures.value) (windows_joined c.args.self.now.members recordings is.members))
