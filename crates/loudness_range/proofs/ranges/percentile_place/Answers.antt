use Rattle.std.proofs.Common.{refl}
use Rattle.sound_model.specs.Ranges.{percentile_place_of}
use Rattle.loudness_range.proofs.ranges.percentile_place.Goals as goal

pub returns-clause-value : goal.returns-clause-value
unfolding percentile_place_of
returns-clause-value c = refl
