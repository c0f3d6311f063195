use Rattle.std.proofs.Common.{ℕ, ap, ◌∙◌, subst}
use Rattle.sound_model.specs.Loudness.{IfThere, IsWindowLevel, above_zero}
use Rattle.album_merge.specs.Joined.{greatest_window_in}
use Rattle.album_merge.proofs.Joining.{greatest_window_joined}
use Rattle.album_merge.proofs.albums.Album.short_term.Goals as goal

pub returns : goal.returns
returns c recordings is =
    let Of : ℕ → Type 0 = λ energy. IfThere IsWindowLevel (above_zero energy) c.window_level.result in
    subst Of
    (c.greatest_window_of.ensures.value ∙ ap greatest_window_in c.members.ensures.value
    ∙ greatest_window_joined c.args.self.now.members recordings is.members)
    c.window_level.ensures.value
