-- How the ghost values of an object go on from call to call.
use Rattle.std.specs.Prelude.{◌≡◌, ℕ, ◌+◌, ◌-◌, ◌^◌, ◌≤◌, min, Option, None, Some}

-- what an object tells before and after a call: where it tells its content, both are told and `step` holds of them
abbrev pub Goes : {A : Type 0} → (A → A → Type 0) → Option A → Option A → Type 0
Goes step None new = Unit {0}
Goes step (Some a) None = ⊥
Goes step (Some a) (Some b) = step a b

-- a count never falls, and rises by at most one
abbrev pub RoseByOneAtMost : ℕ → ℕ → Type 0
RoseByOneAtMost before now = (before ≤ now) × (now ≤ before + 1)

-- a count never falls, and rises by exactly one, up to its counter's last value
pub record RoseByOne (before now : ℕ) : Type 0 where
  pub later : before ≤ now
  pub counted : now ≡ min (before + 1) (2 ^ 64 - 1)
