use Rattle.std.proofs.Common.{refl, rules}
use Rattle.file_model.specs.declared.wave_fields.TheConstants.{TAG_AT}
use Rattle.file_model.specs.declared.wave_rules.WaveRule.TheVariants.{OtherFormat, OtherChannels}
use Rattle.file_model.specs.Format.{IsOtherFormat}
use Rattle.file_model.proofs.Readings.{none_below_next}
use Rattle.wave_chunks.specs.Formats.{IsPcm}
use Rattle.wave_chunks.proofs.Steps.{format_right, not_other}
use Rattle.wave_chunks.proofs.format.check_form.Goals as goal

pub returns-clause-passed : goal.returns-clause-passed
returns-clause-passed c =
    let bytes = c.args.bytes.now in let content = c.args.content.now in
    let pcm : IsPcm content = search rules in
    none_below_next bytes OtherFormat OtherChannels refl c.requires.lower
    (format_right bytes content c.args.at IsOtherFormat TAG_AT c.requires.is_content (not_other content pcm))
