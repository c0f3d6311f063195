use Rattle.std.proofs.Common.{◌∙◌, sym}
use Rattle.true_peak.proofs.Places.{history_at-zero, peak_over-none}
use Rattle.true_peak.proofs.runs.Run.new.Goals as goal

pub returns : goal.returns
returns c = λ depth samples. record {
  history = c.silent.ensures ∙ sym (history_at-zero depth samples);
  greatest = sym (peak_over-none depth samples 0);
}
