use Rattle.std.proofs.Common.{◌++◌, ◌+◌, length, length-append, sym, arith}
use Rattle.true_peak.proofs.Hearing.{Heard-at, Heard-append, part-append}
use Rattle.true_peak.proofs.meters.PeakMeter.feed.Goals as goal

pub returns : goal.returns
returns c = λ fed was.
    let samples = c.args.samples.now in
    let depth = c.args.depth in
    Heard-at c.over_samples-self.result depth (fed ++ samples) 0 (length fed + length samples) (length (fed ++ samples)) (sym (length-append fed samples))
    (c.over_samples-self.ensures (fed ++ samples) 0 (length fed) (omega arith) (part-append fed samples)
    (Heard-append c.args.self.now.run depth fed samples was))
