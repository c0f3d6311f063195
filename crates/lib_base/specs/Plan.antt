-- Which calls of an object in memory fail.
use Rattle.std.specs.Prelude.{◌≡◌, ◌+◌, ◌-◌, ◌^◌, ℕ, min, List, Contains}

-- the numbers of the calls that fail, and how many calls and faults there were
pub record Plan : Type 0 where
  pub failing : List ℕ
  pub calls : ℕ
  pub faults : ℕ

-- the plan before any call
abbrev pub first_plan : List ℕ → Plan
first_plan numbers = record { failing = numbers; calls = 0; faults = 0 }

-- the numbers stay, and the count of calls rises by one, up to its last value
pub record CountsCall (old new : Plan) : Type 0 where
  pub numbers : new.failing ≡ old.failing
  pub count : new.calls ≡ min (old.calls + 1) (2 ^ 64 - 1)

-- the last call that was counted is one of those that fail
abbrev pub IsDue : Plan → Type 0
IsDue plan = Contains plan.failing plan.calls
