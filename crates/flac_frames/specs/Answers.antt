-- What reading at a frame's place answers.
use Rattle.std.specs.Prelude.{◌≡◌, ℕ, Result, Ok, Err}
use Rattle.lib_base.specs.declared.outcomes.Broken.{Broken}
use Rattle.file_model.specs.declared.flac_rules.FlacRule.{FlacRule}
use Rattle.file_model.specs.FlacRules.{flac_rule_of}

-- the refusal of the frame at a place by a rule
abbrev pub refusal_at : ℕ → FlacRule → Broken
refusal_at place rule = record { rule = flac_rule_of rule; place = place }

-- A call returned what comes of the bytes at a place: a value as it is seen, or the refusal by the
-- rule that is broken first.
abbrev pub Answers : {X Y : Type 0} → (X → Y) → ℕ → (Result Y FlacRule → Type 0) → Result X Broken → Type 0
Answers view place Comes (Ok value) = Comes (Ok (view value))
Answers view place Comes (Err broken) = (rule : FlacRule) × Comes (Err rule) × (broken ≡ refusal_at place rule)

-- A call returned what comes of its bits: a value as it is seen, or the rule that is broken first.
abbrev pub Comes : {X Y : Type 0} → (X → Y) → (Result Y FlacRule → Type 0) → Result X FlacRule → Type 0
Comes view OfBits (Ok value) = OfBits (Ok (view value))
Comes view OfBits (Err rule) = OfBits (Err rule)
