-- How a rule prints.
use Rattle.std.specs.Prelude.{ℕ, List, ◌++◌, codes, false}
use Rattle.std.specs.Fmt.{digits}
use Rattle.lib_base.specs.declared.outcomes.Broken.{Broken}
use Rattle.lib_base.specs.declared.outcomes.Rule.{Rule}
use Rattle.lib_base.specs.declared.outcomes.Rule.TheVariants.{K, V, F, C, T}

-- the letter and the number in decimal, as `F28`
abbrev pub rule_text : Rule → List ℕ
rule_text (K n) = codes "K" ++ digits 10 false n
rule_text (V n) = codes "V" ++ digits 10 false n
rule_text (F n) = codes "F" ++ digits 10 false n
rule_text (C n) = codes "C" ++ digits 10 false n
rule_text (T n) = codes "T" ++ digits 10 false n

-- a broken rule with its place, as `rule F28 place 42`
abbrev pub broken_text : Broken → List ℕ
broken_text broken = codes "rule " ++ rule_text broken.rule ++ codes " place " ++ digits 10 false broken.place
