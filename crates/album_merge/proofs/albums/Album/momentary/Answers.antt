use Rattle.std.proofs.Common.{ℕ, ap, ◌∙◌, subst}
use Rattle.sound_model.specs.Loudness.{IfThere, IsBlockLevel, above_zero}
use Rattle.album_merge.specs.Joined.{greatest_block_in}
use Rattle.album_merge.proofs.Joining.{greatest_block_joined}
use Rattle.album_merge.proofs.albums.Album.momentary.Goals as goal

pub returns : goal.returns
returns c recordings is =
    let Of : ℕ → Type 0 = λ energy. IfThere IsBlockLevel (above_zero energy) c.block_level.result in
    subst Of
    (c.greatest_block_of.ensures.value ∙ ap greatest_block_in c.members.ensures.value
    ∙ greatest_block_joined c.args.self.now.members recordings is.members)
    c.block_level.ensures.value
