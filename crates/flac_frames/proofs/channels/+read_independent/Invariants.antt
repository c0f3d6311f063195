use Rattle.flac_frames.proofs.channels.+read_independent.Given as goal

abbrev pub decreases-read_independent : goal.decreases-read_independent
decreases-read_independent l = l.channels
