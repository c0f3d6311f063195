-- What STREAMINFO says, with the rules that it may break.
use Rattle.std.specs.Prelude.{◌==◌, ◌&&◌, ℕ, nat_le, if◌then◌else◌, List, Result, Ok}
use Rattle.lib_base.specs.declared.limits.TheConstants.{SAMPLE_RATE, MOST_CHANNELS, LEAST_DEPTH, GREATEST_DEPTH}
use Rattle.file_model.specs.declared.flac_info.Info.{Info}
use Rattle.file_model.specs.declared.flac_rules.FlacRule.{FlacRule}
use Rattle.file_model.specs.declared.flac_rules.FlacRule.TheVariants.{OtherRate, OtherChannels, OtherDepth}
use Rattle.file_model.specs.FlacFile.{info_in}
use Rattle.file_model.specs.FlacRules.{flac_number_of}
use Rattle.file_model.specs.Outcomes.{◌>>=◌, holds}

-- what STREAMINFO says, or the rule that it breaks
unfoldable pub info_ruled : List ℕ → Result Info FlacRule
info_ruled content = do
  _ ← holds ((info_in content).rate == SAMPLE_RATE) OtherRate
  _ ← holds (nat_le (info_in content).channels MOST_CHANNELS) OtherChannels
  _ ← holds (nat_le LEAST_DEPTH (info_in content).depth && nat_le (info_in content).depth GREATEST_DEPTH) OtherDepth
  Ok (info_in content)

-- the place in the file of the field that breaks a rule: that of the rate, or that of the channels and the depth
abbrev pub place_in : FlacRule → ℕ
place_in rule = if flac_number_of rule == 6 then 18 else 20
