-- The range read off a sorted list.
use Rattle.std.proofs.Common.{◌≡◌, ◌<◌, ℕ, ℤ, List, length, get_or, subst, arith}
use Rattle.std.specs.Prelude.{Some}
use Rattle.std.specs.List.Sorted.{IsNonDecreasing}
use Rattle.sound_model.specs.Levels.{IsLevel, hundredths}
use Rattle.sound_model.specs.Ranges.{IsAtPlace, IsRangeWithin, percentile_place_of}
use Rattle.sound_model.proofs.RangeLaws.{at_place_of_sorted, IsRangeWithin-from_windows}

-- the places of the percentiles, read in a list that ascends
pub range_from_places : (xs : List ℕ) (low high : ℕ) (level range : ℤ) → IsNonDecreasing xs
    → low ≡ percentile_place_of (length xs) 10 → high ≡ percentile_place_of (length xs) 95 → low < length xs → high < length xs
    → IsLevel (get_or xs high 0) (get_or xs low 0) level → range ≡ hundredths level → IsRangeWithin xs (Some range)
range_from_places xs low high level range ascends is_low is_high low_within high_within is_level rounded =
    IsRangeWithin-from_windows xs range (omega arith) (record {
      low = get_or xs low 0;
      high = get_or xs high 0;
      level = level;
      low_place = subst (λ (place : ℕ). IsAtPlace xs place (get_or xs low 0)) is_low (at_place_of_sorted xs low ascends low_within);
      high_place = subst (λ (place : ℕ). IsAtPlace xs place (get_or xs high 0)) is_high (at_place_of_sorted xs high ascends high_within);
      of_ratio = is_level;
      rounded = rounded;
    })
