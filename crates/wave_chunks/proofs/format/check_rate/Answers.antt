use Rattle.std.proofs.Common.{◌≡◌, refl, rules, arith}
use Rattle.lib_base.specs.declared.limits.TheConstants.{SAMPLE_RATE}
use Rattle.file_model.specs.declared.wave_fields.TheConstants.{RATE_AT}
use Rattle.file_model.specs.declared.wave_rules.WaveRule.TheVariants.{OtherRate, OtherDepth}
use Rattle.file_model.specs.Format.{HasOtherRate, rate_of}
use Rattle.file_model.proofs.Readings.{none_below_next}
use Rattle.wave_chunks.proofs.Steps.{format_broken, format_right}
use Rattle.wave_chunks.proofs.format.check_rate.Goals as goal

pub returns-clause-passed : goal.returns-clause-passed
returns-clause-passed c =
    let bytes = c.args.bytes.now in let content = c.args.content.now in
    let rate : rate_of content ≡ SAMPLE_RATE = search rules in
    none_below_next bytes OtherRate OtherDepth refl c.requires.lower
    (format_right bytes content c.args.at HasOtherRate RATE_AT c.requires.is_content (λ other. other rate))

pub overflow_add-at : goal.overflow_add-at
overflow_add-at c = let inside = c.requires.is_content.inside in let long = c.requires.long.long in omega (arith, inside, long)

pub returns-then-number_at-ne-SAMPLE_RATE-clause-err : goal.returns-then-number_at-ne-SAMPLE_RATE-clause-err
returns-then-number_at-ne-SAMPLE_RATE-clause-err c =
    let bytes = c.args.bytes.now in let content = c.args.content.now in
    let other : HasOtherRate content = search rules in
    c.broken.ensures bytes c.requires.lower (format_broken bytes content c.args.at HasOtherRate RATE_AT _ c.requires.is_content other refl)
