use Rattle.std.proofs.Common.{◌≤◌, refl, rules, arith}
use Rattle.lib_base.specs.declared.limits.TheConstants.{MOST_CHANNELS}
use Rattle.file_model.specs.declared.wave_fields.TheConstants.{CHANNELS_AT}
use Rattle.file_model.specs.declared.wave_rules.WaveRule.TheVariants.{OtherChannels, OtherRate}
use Rattle.file_model.specs.Format.{HasOtherChannels, channels_of}
use Rattle.file_model.proofs.Readings.{none_below_next}
use Rattle.wave_chunks.proofs.Steps.{format_right, not_other_channels}
use Rattle.wave_chunks.proofs.format.read_channels.Goals as goal

pub returns-clause-passed : goal.returns-clause-passed
returns-clause-passed c =
    let bytes = c.args.bytes.now in let content = c.args.content.now in
    let some : 1 ≤ channels_of content = search rules in
    let few : channels_of content ≤ MOST_CHANNELS = search rules in
    none_below_next bytes OtherChannels OtherRate refl c.requires.lower
    (format_right bytes content c.args.at HasOtherChannels CHANNELS_AT c.requires.is_content (not_other_channels content some few))

pub overflow_add-at : goal.overflow_add-at
overflow_add-at c = let inside = c.requires.is_content.inside in let long = c.requires.long.long in omega (arith, inside, long)
