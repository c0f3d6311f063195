-- What a meter of segments stands for.
use Rattle.std.specs.Prelude.{◌≡◌, ◌*◌, ◌/◌, ℕ, ℤ, List, length, drop, sum_by}
use Rattle.lib_base.specs.declared.limits.TheConstants.{SEGMENT_FRAMES}
use Rattle.sound_model.specs.Segments.{segments_of, square}

-- how many values it has room for, how many it was fed, the energies of the whole segments among them, and the sum of the squares of those after the whole segments
pub record Meter : Type 0 where
  pub frames : ℕ
  pub count : ℕ
  pub energies : List ℕ
  pub after : ℕ

-- the meter was fed these values
pub record WasFed (meter : Meter) (fed : List ℤ) : Type 0 where
  pub count : meter.count ≡ length fed
  pub energies : meter.energies ≡ segments_of fed
  pub after : meter.after ≡ sum_by square (drop (SEGMENT_FRAMES * (length fed / SEGMENT_FRAMES)) fed)
