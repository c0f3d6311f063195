use Rattle.std.proofs.Common.{length, arith}
use Rattle.true_peak.proofs.meters.PeakMeter.finish.Goals as goal

pub returns : goal.returns
returns c = λ depth fed was.
    (c.over_silence.ensures depth fed 0 (length fed) (omega arith) (λ _. omega arith) was).greatest
