use Rattle.std.proofs.Common.{sym}
use Rattle.true_peak.proofs.Places.{peak_over-none}
use Rattle.true_peak.proofs.runs.Run.behind.Goals as goal

pub returns : goal.returns
returns c = λ depth samples place is_history. record { history = is_history; greatest = sym (peak_over-none depth samples place) }
