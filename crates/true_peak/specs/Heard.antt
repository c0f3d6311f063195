-- What a run over places keeps.
use Rattle.std.specs.Prelude.{◌≡◌, ℕ, ℤ, List, length}
use Rattle.sound_model.specs.Peaks.{peak_over}
use Rattle.true_peak.specs.Windows.{history_at}
use Rattle.true_peak.specs.declared.runs.Run.{Run}
use Rattle.true_peak.specs.declared.meters.PeakMeter.{PeakMeter}

-- The run went over these samples from a first place to before another one.
pub record Heard (run : Run) (depth : ℕ) (samples : List ℤ) (first place : ℕ) : Type 0 where
  pub history : run.history.before ≡ history_at depth samples place
  pub greatest : run.greatest ≡ peak_over depth samples first place

-- The meter was fed these samples of that depth, in any pieces, and nothing else.
abbrev pub WasFed : PeakMeter → ℕ → List ℤ → Type 0
WasFed meter depth fed = Heard meter.run depth fed 0 (length fed)
