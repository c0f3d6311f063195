use Rattle.std.proofs.Common.{◌≡◌, ◌≤◌, ◌*◌, ◌^◌, take, unsigned_abs}
use Rattle.file_model.specs.Predict.{weighted_before}
use Rattle.flac_predict.proofs.prediction.prediction.Given as goal

abbrev pub invariant-loop-k : goal.invariant-loop-k
invariant-loop-k l =
    (l.sum ≡ weighted_before (take l.k l.weights) l.samples l.place) × (unsigned_abs l.sum ≤ l.k * 2 ^ 38)
