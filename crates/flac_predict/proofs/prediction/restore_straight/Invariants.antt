use Rattle.std.proofs.Common.{◌≡◌, ◌-◌}
use Rattle.file_model.specs.Predict.{at, fixed_weights}
use Rattle.flac_predict.proofs.Restoring.{Restored}
use Rattle.flac_predict.proofs.prediction.restore_straight.Given as goal

abbrev pub invariant-loop-place : goal.invariant-loop-place
invariant-loop-place l = record {
  restored : Restored (fixed_weights 2) 0 l.depth l.place l.samples l.initial.samples;
  last : l.last ≡ at l.samples (l.place - 1);
  before : l.before ≡ at l.samples (l.place - 2);
}
