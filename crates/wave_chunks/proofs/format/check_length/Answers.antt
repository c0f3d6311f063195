use Rattle.std.proofs.Common.{refl, rules}
use Rattle.file_model.specs.declared.wave_fields.TheConstants.{TAG_AT}
use Rattle.file_model.specs.declared.wave_rules.WaveRule.TheVariants.{ShortFormat, OtherFormat}
use Rattle.file_model.specs.Format.{IsShortFormat}
use Rattle.file_model.proofs.Readings.{none_below_next}
use Rattle.wave_chunks.specs.Formats.{IsLongEnough}
use Rattle.wave_chunks.proofs.Steps.{format_right, not_short}
use Rattle.wave_chunks.proofs.format.check_length.Goals as goal

pub returns-clause-passed : goal.returns-clause-passed
returns-clause-passed c =
    let bytes = c.args.bytes.now in let content = c.args.content.now in
    let long : IsLongEnough content = search rules in
    none_below_next bytes ShortFormat OtherFormat refl c.requires.lower
    (format_right bytes content c.args.at IsShortFormat TAG_AT c.requires.is_content (not_short content long))
