-- What reading a file answers.
use Rattle.std.specs.Prelude.{◌≡◌, ℕ, List, ⊤, Result, Ok, Err}
use Rattle.lib_base.specs.declared.outcomes.Broken.{Broken as Fault}
use Rattle.lib_base.specs.declared.outcomes.Refused.{Refused}
use Rattle.lib_base.specs.declared.outcomes.Refused.TheVariants.{Broken, Memory}
use Rattle.file_model.specs.FlacFile.{FlacBreak}
use Rattle.file_model.specs.FlacRules.{flac_rule_of}
use Rattle.file_model.specs.Reading.{ReadsAsFlac, broken}

-- The refusal is that of these bytes: they read as broken by its rule, at its place. Want of memory says nothing of them.
abbrev pub IsRefusalOf : List ℕ → Refused → Type 0
IsRefusalOf bytes (Broken fault) = ReadsAsFlac bytes (broken fault.rule fault.place)
IsRefusalOf bytes Memory = ⊤

-- a rule and its place, as they are told
abbrev pub fault_of : FlacBreak → Fault
fault_of found = record { rule = flac_rule_of found.rule; place = found.place }

-- a call returned what is given: a value as it is seen, or the rule that is broken and its place
abbrev pub AnswersBreak : {X Y : Type 0} → (X → Y) → Result X Fault → Result Y FlacBreak → Type 0
AnswersBreak view (Ok value) given = given ≡ Ok (view value)
AnswersBreak view (Err fault) given = (found : FlacBreak) × (given ≡ Err found) × (fault ≡ fault_of found)
