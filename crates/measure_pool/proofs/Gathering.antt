-- All jobs together.
use Rattle.std.proofs.Common.{◌≡◌, ◌≤◌, ◌+◌, ◌*◌, ◌/◌, ◌∙◌, ℕ, List, ◌++◌, length, take, min, sym, subst, arith}
use Rattle.std.specs.Prelude.{ℤ}
use Rattle.std.proofs.lemmas.List.{take_all, take-append-le}
use Rattle.lib_base.specs.Sounds.{IsSound}
use Rattle.sound_model.specs.Peaks.{peak_of}
use Rattle.sound_model.specs.Segments.{energies}
use Rattle.measure_pool.specs.Jobs.{AreGathered}
use Rattle.measure_pool.specs.Plans.{IsPlanOf, jobs_of}
use Rattle.measure_pool.specs.Totals.{AreTotals}
use Rattle.measure_pool.specs.declared.plans.Plan.{Plan}
use Rattle.measure_pool.proofs.Combining.{totals_are_energies}
use Rattle.measure_pool.proofs.Joining.{peak_of_all_jobs}

-- all jobs gather the energies and the peak of the sound
pub all_gathered : (depth frames : ℕ) (lists : List (List ℤ)) (plan : Plan) (sums : List ℕ) (most : ℕ) → IsSound lists depth frames
    → IsPlanOf plan (length lists) frames → plan.whole ≤ plan.channels → plan.end ≤ plan.stretches * plan.size
    → AreGathered depth frames lists plan (jobs_of plan) sums most → (sums ≡ energies depth frames lists) × (most ≡ peak_of depth frames lists)
all_gathered depth frames lists plan sums most law is within covers gathered =
    let all : min (jobs_of plan) (length lists) ≡ length lists = let channels = is.channels in omega (arith, channels) in
    let Over : ℕ → Type 0 = λ count. AreTotals depth lists count sums in (
      totals_are_energies depth frames lists sums law.has_channel law.few_channels gathered.count (subst Over all gathered.totals),
      gathered.peak ∙ peak_of_all_jobs depth frames lists plan law.equal within is.channels is.end covers,
    )

-- as many elements as a list has, of it and more
pub front_of : (xs ys : List ℕ) (count : ℕ) → count ≡ length xs → take count (xs ++ ys) ≡ xs
front_of xs ys count is =
    let within : count ≤ length xs = omega (arith, is) in
    take-append-le count xs ys within ∙ take_all count xs (omega (arith, is))
