use Rattle.std.proofs.Common.{◌≡◌, ◌⊎◌, refl, rules, arith}
use Rattle.file_model.specs.declared.wave_fields.TheConstants.{DEPTH_AT}
use Rattle.file_model.specs.declared.wave_rules.WaveRule.TheVariants.{OtherDepth, OtherAlign}
use Rattle.file_model.specs.Format.{HasOtherDepth, depth_of}
use Rattle.file_model.proofs.Readings.{none_below_next}
use Rattle.wave_chunks.proofs.Steps.{format_right, not_other_depth}
use Rattle.wave_chunks.proofs.format.read_depth.Goals as goal

pub returns-clause-passed : goal.returns-clause-passed
returns-clause-passed c =
    let bytes = c.args.bytes.now in let content = c.args.content.now in
    let known : (depth_of content ≡ 16) ⊎ (depth_of content ≡ 24) = search rules in
    none_below_next bytes OtherDepth OtherAlign refl c.requires.lower
    (format_right bytes content c.args.at HasOtherDepth DEPTH_AT c.requires.is_content (not_other_depth content known))

pub overflow_add-at : goal.overflow_add-at
overflow_add-at c = let inside = c.requires.is_content.inside in let long = c.requires.long.long in omega (arith, inside, long)
