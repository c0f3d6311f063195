use Rattle.flac_frames.specs.Subframes.{coded_by}
use Rattle.flac_frames.proofs.Spelling.{none_spelled}
use Rattle.flac_frames.proofs.subframe.restore_all.Goals as goal

pub returns-in-Ok-clause-comes : goal.returns-in-Ok-clause-comes
returns-in-Ok-clause-comes c = record { spelled = c.restore.new.out; spells = c.in-Ok.ensures; shifted = c.shift_back.ensures.shifted }

pub returns-in-Err-clause-comes : goal.returns-in-Err-clause-comes
returns-in-Err-clause-comes c = none_spelled c.args.depth (coded_by c.args.predictor.now c.args.out.now c.args.wasted) c.in-Err.rule c.in-Err.ensures
