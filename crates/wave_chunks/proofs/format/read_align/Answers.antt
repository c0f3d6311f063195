use Rattle.std.proofs.Common.{◌≡◌, ◌*◌, ◌/◌, refl, rules, arith}
use Rattle.file_model.specs.declared.wave_fields.TheConstants.{ALIGN_AT}
use Rattle.file_model.specs.declared.wave_rules.WaveRule.TheVariants.{OtherAlign, NoData}
use Rattle.file_model.specs.Format.{HasOtherAlign, channels_of, depth_of, align_of}
use Rattle.file_model.proofs.Readings.{none_below_next}
use Rattle.wave_chunks.proofs.Steps.{format_broken, format_right, other_align}
use Rattle.wave_chunks.proofs.format.read_align.Goals as goal

pub returns-clause-passed : goal.returns-clause-passed
returns-clause-passed c =
    let bytes = c.args.bytes.now in let content = c.args.content.now in
    let is : align_of content ≡ channels_of content * depth_of content / 8 = search rules in
    none_below_next bytes OtherAlign NoData refl c.requires.lower
    (format_right bytes content c.args.at HasOtherAlign ALIGN_AT c.requires.is_content (λ other. other is))

pub overflow_add-at : goal.overflow_add-at
overflow_add-at c = let inside = c.requires.is_content.inside in let long = c.requires.long.long in omega (arith, inside, long)

pub returns-then-align-channels-clause-err : goal.returns-then-align-channels-clause-err
returns-then-align-channels-clause-err c =
    let bytes = c.args.bytes.now in let content = c.args.content.now in
    let other : HasOtherAlign content =
    other_align content c.short_at-align.result c.args.channels c.args.depth c.short_at-align.ensures c.requires.channels c.requires.depth
    c.if-align-channels.true in
    c.broken.ensures bytes c.requires.lower (format_broken bytes content c.args.at HasOtherAlign ALIGN_AT _ c.requires.is_content other refl)
