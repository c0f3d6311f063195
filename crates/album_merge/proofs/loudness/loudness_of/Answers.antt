use Rattle.sound_model.specs.Loudness.{gated}
use Rattle.album_merge.specs.Joined.{blocks_in}
use Rattle.album_merge.proofs.Orders.{gated_tally}
use Rattle.album_merge.proofs.loudness.loudness_of.Goals as goal

pub returns-clause-value : goal.returns-clause-value
returns-clause-value c blocks moved =
    c.tally_level.ensures.value (gated blocks)
    (gated_tally blocks (blocks_in c.args.members.now) c.near_blocks.result.count c.near_blocks.result.sum moved c.near_blocks.ensures)
