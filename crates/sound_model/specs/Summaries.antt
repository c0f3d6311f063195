-- What is measured of a sound, and the levels that follow from it (BS.1770-4, EBU R 128, Tech 3341 and 3342, ReplayGain 2.0).
use Rattle.std.specs.Prelude.{◌≡◌, ◌≤◌, ◌*◌, ◌/◌, ◌^◌, ℕ, ℤ, neg_ℤ, pos, ◌-ℤ◌, List, length, All, option_map}
use Rattle.lib_base.specs.declared.files.Measured.{Measured}
use Rattle.lib_base.specs.declared.files.Summary.{Summary}
use Rattle.lib_base.specs.declared.limits.TheConstants.{SEGMENT_FRAMES, MOST_SAMPLES, GREATEST_ENERGY, GREATEST_PEAK}
pub use Rattle.lib_base.specs.declared.limits.TheConstants.{MOST_SAMPLES as most_frames, GREATEST_PEAK as greatest_peak}
use Rattle.sound_model.specs.Levels.{IsLevel, hundredths}
use Rattle.sound_model.specs.Loudness.{IfThere, IsBlockLevel, IsWindowLevel, IsLoudness, above_zero, greatest}
use Rattle.sound_model.specs.Peaks.{peak_of}
use Rattle.sound_model.specs.Ranges.{IsRange}
use Rattle.sound_model.specs.Segments.{energies}

-- what is measured of a sound: the weighted energies of its segments, and its peak
abbrev pub measured : ℕ → ℕ → List (List ℤ) → Measured
measured depth frames lists = record {
  channels = length lists;
  depth = depth;
  frames = frames;
  energies = energies depth frames lists;
  peak = peak_of depth frames lists;
}

-- What is measured is within the bounds: of frames, of an energy for each whole segment, and of the peak.
pub record IsWithinBounds (m : Measured) : Type 0 where
  pub frames : m.frames ≤ MOST_SAMPLES
  pub count : length m.energies ≡ m.frames / SEGMENT_FRAMES
  pub energies : All (λ e. e ≤ GREATEST_ENERGY) m.energies
  pub peak : m.peak ≤ GREATEST_PEAK

-- the true peak level of a peak, in hundredths of dBTP
pub record IsPeakLevel (peak : ℕ) (true_peak : ℤ) : Type 0 where
  pub level : ℤ
  pub of_ratio : IsLevel (peak ^ 2) (2 ^ 72) level
  pub rounded : true_peak ≡ hundredths level

-- the gain that brings a loudness to -18 LUFS (ReplayGain 2.0)
abbrev pub gain_of : ℤ → ℤ
gain_of loudness = neg_ℤ (pos 1800) -ℤ loudness

-- The levels of so many frames with the energies of these blocks and windows and this peak. What can't be measured is absent.
pub record Summarises (frames : ℕ) (blocks windows : List ℕ) (peak : ℕ) (summary : Summary) : Type 0 where
  pub frames_kept : summary.frames ≡ frames
  pub loudness : IsLoudness blocks summary.loudness
  pub range : IsRange windows summary.range
  pub momentary : IfThere IsBlockLevel (above_zero (greatest blocks)) summary.momentary
  pub short_term : IfThere IsWindowLevel (above_zero (greatest windows)) summary.short_term
  pub true_peak : IfThere IsPeakLevel (above_zero peak) summary.true_peak
  pub peak_kept : summary.peak ≡ peak
  pub gain : summary.gain ≡ option_map gain_of summary.loudness
