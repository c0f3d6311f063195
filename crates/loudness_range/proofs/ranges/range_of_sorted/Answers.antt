use Rattle.std.proofs.Common.{FitsSigned, ap, ◌∙◌, w32, rules}
use Rattle.std.proofs.lemmas.Int.{to_z-of_z}
use Rattle.sound_model.specs.Levels.{hundredths}
use Rattle.loudness_range.proofs.Sorted.{range_from_places}
use Rattle.loudness_range.proofs.ranges.range_of_sorted.Goals as goal

pub returns : goal.returns
returns c =
    let level : FitsSigned w32 c.level.result = search rules in
    let range : FitsSigned w32 c.hundredths.result = search rules in
    let low = c.percentile_place.ensures in
    let high = c.percentile_place-2.ensures in
    rw (to_z-of_z w32 c.hundredths.result range)
    (range_from_places c.args.windows.now c.percentile_place.result c.percentile_place-2.result c.level.result c.hundredths.result
    c.requires.ascends low.value high.value low.within high.within c.level.ensures.is_level
    (c.hundredths.ensures.value ∙ ap hundredths (to_z-of_z w32 c.level.result level)))
