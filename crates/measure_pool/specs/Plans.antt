-- The jobs that a sound is cut into.
use Rattle.std.specs.Prelude.{◌≡◌, ◌≤◌, ◌<◌, ◌+◌, ◌-◌, ◌*◌, ◌/◌, ◌%◌, ℕ, min, nat_lt, if◌then◌else◌}
use Rattle.lib_base.specs.declared.limits.TheConstants.{PEAK_REACH}
use Rattle.measure_pool.specs.declared.plans.Plan.{Plan}
use Rattle.measure_pool.specs.declared.plans.Stretch.{Stretch}
use Rattle.measure_pool.specs.declared.plans.Job.{Job}
use Rattle.measure_pool.specs.declared.plans.Job.TheVariants.{Whole, Segments, Peak}

-- the plan is of a sound with so many channels and frames: the peak has the places past the end that its filter reaches
pub record IsPlanOf (plan : Plan) (count frames : ℕ) : Type 0 where
  pub channels : plan.channels ≡ count
  pub end : plan.end ≡ frames + PEAK_REACH

-- how many jobs there are
abbrev pub jobs_of : Plan → ℕ
jobs_of plan = plan.channels + (plan.channels - plan.whole) * plan.stretches

-- the place at which a channel's stretch begins, and the one before it ends
abbrev pub cut_at : Plan → ℕ → ℕ
cut_at plan stretch = min (stretch * plan.size) plan.end

-- the stretch of a number, over all channels that have stretches
abbrev pub stretch_at : Plan → ℕ → Stretch
stretch_at plan n = record {
  channel = plan.whole + n / plan.stretches;
  from = cut_at plan (n % plan.stretches);
  to = cut_at plan (n % plan.stretches + 1);
}

-- the job of a number: of a channel gone over once, of the energies of another channel, or of a stretch
abbrev pub job_at : Plan → ℕ → Job
job_at plan n =
    if nat_lt n plan.whole then Whole n
    else if nat_lt n plan.channels then Segments n
    else Peak (stretch_at plan (n - plan.channels))

-- the stretch lies in a channel with so many places
pub record FitsStretch (channels end : ℕ) (stretch : Stretch) : Type 0 where
  pub channel : stretch.channel < channels
  pub order : stretch.from ≤ stretch.to
  pub inside : stretch.to ≤ end

-- the job is one of a sound of so many channels with so many places
abbrev pub Fits : ℕ → ℕ → Job → Type 0
Fits channels end (Whole channel) = channel < channels
Fits channels end (Segments channel) = channel < channels
Fits channels end (Peak stretch) = FitsStretch channels end stretch
