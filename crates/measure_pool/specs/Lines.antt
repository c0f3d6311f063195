-- What a line stands for.
use Rattle.std.specs.Prelude.{ℕ, ℤ, List, Bool, is_some, IfSome}
use Rattle.sound_model.specs.Weighted.{weighted}
use Rattle.k_filter.specs.Fed as filter
use Rattle.gate_blocks.specs.Meters as meter
use Rattle.true_peak.specs.Heard as peak
use Rattle.measure_pool.specs.declared.lines.Line.{Line}

-- the line was fed these samples: its filter was, its meter their weighted list, and its peak meter, where it has one, the samples
pub record IsFed (line : Line) (depth : ℕ) (fed : List ℤ) : Type 0 where
  pub filter : filter.WasFed line.filter depth fed
  pub meter : meter.WasFed line.meter (weighted depth fed)
  pub peak : IfSome line.peak (λ meter. peak.WasFed meter depth fed)

-- whether the line takes the peak too
abbrev pub takes_peak : Line → Bool
takes_peak line = is_some line.peak

-- how many samples the line was fed
abbrev pub fed_count : Line → ℕ
fed_count line = line.meter.count

-- how many samples the line has room for
abbrev pub room_of : Line → ℕ
room_of line = line.meter.frames
