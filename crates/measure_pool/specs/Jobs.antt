-- What the jobs of a sound find.
use Rattle.std.specs.Prelude.{◌≡◌, ◌<◌, ◌+◌, ◌/◌, ℕ, zero, suc, ℤ, Bool, true, false, if◌then◌else◌, List, length, slice_index_or, min, max, Some, None, Result, IfOk}
use Rattle.lib_base.specs.Sounds.{samples_of}
use Rattle.lib_base.specs.declared.outcomes.Memory.{Memory}
use Rattle.lib_base.specs.declared.limits.TheConstants.{SEGMENT_FRAMES, PEAK_REACH}
use Rattle.sound_model.specs.Peaks.{peak_over}
use Rattle.sound_model.specs.Segments.{segments_of}
use Rattle.sound_model.specs.Weighted.{weighted}
use Rattle.measure_pool.specs.Plans.{job_at}
use Rattle.measure_pool.specs.Totals.{AreTotals}
use Rattle.measure_pool.specs.declared.found.Found.{Found}
use Rattle.measure_pool.specs.declared.plans.Plan.{Plan}
use Rattle.measure_pool.specs.declared.plans.Job.{Job}
use Rattle.measure_pool.specs.declared.plans.Job.TheVariants.{Whole, Segments, Peak}

-- what is found in a pass over a channel: its energies, with no weight, and its peak where that is taken
abbrev pub found_in : Bool → ℕ → List ℤ → Found
found_in with_peak depth samples = record {
  energies = Some (segments_of (weighted depth samples));
  peak = if with_peak then peak_over depth samples 0 (length samples + PEAK_REACH) else 0;
}

-- what a job finds in a sound
abbrev pub found_by : ℕ → List (List ℤ) → Job → Found
found_by depth lists (Whole channel) = found_in true depth (samples_of lists channel)
found_by depth lists (Segments channel) = found_in false depth (samples_of lists channel)
found_by depth lists (Peak stretch) = record {
  energies = None;
  peak = peak_over depth (samples_of lists stretch.channel) stretch.from stretch.to;
}

-- each of these is what the job of its place finds, counted from a first job on, or want of memory
abbrev pub AreFound : ℕ → List (List ℤ) → Plan → ℕ → List (Result Found Memory) → Type 0
AreFound depth lists plan first all =
    (i : ℕ) (d : Result Found Memory) → i < length all → IfOk (slice_index_or all i d) (λ found. found ≡ found_by depth lists (job_at plan (first + i)))

-- the greatest peak that the first so many jobs find
abbrev pub peak_of_jobs : ℕ → List (List ℤ) → Plan → ℕ → ℕ
peak_of_jobs depth lists plan zero = 0
peak_of_jobs depth lists plan (suc n) = max (peak_of_jobs depth lists plan n) (found_by depth lists (job_at plan n)).peak

-- What the first so many jobs find, put together: energies added up over channels, each with its weight, and the greatest peak.
pub record AreGathered (depth frames : ℕ) (lists : List (List ℤ)) (plan : Plan) (jobs : ℕ) (sums : List ℕ) (most : ℕ) : Type 0 where
  pub count : length sums ≡ frames / SEGMENT_FRAMES
  pub totals : AreTotals depth lists (min jobs (length lists)) sums
  pub peak : most ≡ peak_of_jobs depth lists plan jobs
