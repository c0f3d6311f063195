use Rattle.std.proofs.Common.{◌≤◌, ◌<◌, ◌+◌, length, sym, arith}
use Rattle.true_peak.proofs.Places.{sample_past}
use Rattle.true_peak.proofs.Hearing.{Heard-at}
use Rattle.true_peak.proofs.runs.Run.over_silence.Goals as goal

pub loop-i-init : goal.loop-i-init
loop-i-init c = λ depth all first place order past heard. Heard-at c.args.self depth all first place (place + 0) (omega arith) heard

pub loop-i-preserved : goal.loop-i-preserved
loop-i-preserved c = λ depth all first place order past heard.
    let i = c.loop-i._i in
    let some : 0 < c.args.count = omega arith in
    let beyond : length all ≤ place = past some in
    Heard-at c.over-passed.result depth all first (place + i + 1) (place + (i + 1)) (omega arith)
    (c.over-passed.ensures depth all first (place + i) (omega (arith, order)) (sym (sample_past depth all (place + i) (omega (arith, beyond))))
    (c.loop-i.invariant depth all first place order past heard))

pub returns : goal.returns
returns c = λ depth all first place order past heard.
    Heard-at c.loop-i.passed depth all first (place + c.loop-i._i) (place + c.args.count) (omega arith)
    (c.loop-i.invariant depth all first place order past heard)
