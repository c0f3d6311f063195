use Rattle.flac_frames.proofs.one_channel.+read_own.Given as goal

abbrev pub decreases-read_own : goal.decreases-read_own
decreases-read_own l = l.index
