use Rattle.std.proofs.Common.{length}
use Rattle.flac_stream.proofs.decoding.+add_block.Given as goal

abbrev pub decreases-add_block : goal.decreases-add_block
decreases-add_block l = length l.lists.now
