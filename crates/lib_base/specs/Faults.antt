-- Counts of faults.
use Rattle.std.specs.Prelude.{ℕ, ◌+◌, ◌-◌, ◌^◌, ◌≤◌, min}

-- A count rose, or stands at its counter's last value.
abbrev pub Rose : ℕ → ℕ → Type 0
Rose before now = min (before + 1) (2 ^ 64 - 1) ≤ now

-- what a call that may have failed does to a count of faults: it does not fall, and after a failure it rose
pub record CountsFault (failed : Type 0) (before now : ℕ) : Type 0 where
  pub later : before ≤ now
  pub cause : failed → Rose before now
