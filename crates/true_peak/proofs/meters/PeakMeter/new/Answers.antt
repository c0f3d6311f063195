use Rattle.std.proofs.Common.{[]}
use Rattle.true_peak.proofs.meters.PeakMeter.new.Goals as goal

pub returns : goal.returns
returns c = λ depth. c.new.ensures depth []
