use Rattle.flac_predict.proofs.Restoring.{Restored}
use Rattle.flac_predict.proofs.prediction.restore.Given as goal

abbrev pub invariant-loop-place : goal.invariant-loop-place
invariant-loop-place l = Restored l.weights l.shift l.depth l.place l.samples l.initial.samples
