-- What a file reads as.
use Rattle.std.specs.Prelude.{◌≡◌, ℕ, List}
use Rattle.lib_base.specs.declared.outcomes.Rule.{Rule}
use Rattle.file_model.specs.declared.wave_rules.WaveRule.{WaveRule}
use Rattle.file_model.specs.declared.flac_rules.FlacRule.{FlacRule}
use Rattle.file_model.specs.FlacBreaks.{FlacBreaks}
use Rattle.file_model.specs.FlacFile.{IsFlac}
use Rattle.file_model.specs.FlacRules.{flac_rule_of}
use Rattle.file_model.specs.Pcm.{Pcm}
use Rattle.file_model.specs.Rules.{rule_of, Breaks, BreaksNoneBelow}
use Rattle.file_model.specs.Wave.{IsWave}

-- accepted, with its sound, or broken by a rule at a place
pub data Reading : Type 0 where
  accepted : Pcm → Reading
  broken : Rule → ℕ → Reading

-- the bytes are a wave of no sound
abbrev pub IsNoWave : List ℕ → Type 0
IsNoWave bytes = (sound : Pcm) → ¬ IsWave bytes sound

-- they are no wave, they break the rule at the place, and no lower rule anywhere
pub record IsBroken (bytes : List ℕ) (rule : WaveRule) (place : ℕ) : Type 0 where
  pub no_wave : IsNoWave bytes
  pub breaks : Breaks bytes rule place
  pub lowest : BreaksNoneBelow bytes rule

-- A wave is accepted with its sound. Anything else is broken by the lowest rule that it breaks, at its place.
abbrev pub ReadsAsWave : List ℕ → Reading → Type 0
ReadsAsWave bytes (accepted sound) = IsWave bytes sound
ReadsAsWave bytes (broken rule place) = (lowest : WaveRule) × (rule ≡ rule_of lowest) × IsBroken bytes lowest place

-- A FLAC file is accepted with its sound. Anything else is broken by the first rule that it breaks, at its place.
abbrev pub ReadsAsFlac : List ℕ → Reading → Type 0
ReadsAsFlac bytes (accepted sound) = IsFlac bytes sound
ReadsAsFlac bytes (broken rule place) = (first : FlacRule) × (rule ≡ flac_rule_of first) × FlacBreaks bytes first place
