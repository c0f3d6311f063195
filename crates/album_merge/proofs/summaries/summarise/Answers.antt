use Rattle.std.proofs.Common.{◌*◌}
use Rattle.lib_base.specs.declared.limits.TheConstants.{GREATEST_ENERGY, BLOCK_SEGMENTS, WINDOW_SEGMENTS}
use Rattle.album_merge.proofs.summaries.summarise.Goals as goal

pub block_level-requires : goal.block_level-requires
block_level-requires c = c.greatest.ensures.within (BLOCK_SEGMENTS * GREATEST_ENERGY) c.requires.blocks.within

pub window_level-requires : goal.window_level-requires
window_level-requires c = c.greatest-2.ensures.within (WINDOW_SEGMENTS * GREATEST_ENERGY) c.requires.windows.within
