use Rattle.std.proofs.Common.{◌≡◌, ◌≤◌, ◌^◌, ℤ, List, ◌++◌, take, unsigned_abs}
use Rattle.std.specs.List.{All}
use Rattle.sound_model.specs.Weighted.{weighted}
use Rattle.k_filter.specs.Fed.{WasFed}
use Rattle.k_filter.proofs.filters.Filter.feed.Given as goal

abbrev pub invariant-loop-i : goal.invariant-loop-i
invariant-loop-i l =
    ((fed : List ℤ) → WasFed l.initial.filter l.depth fed → WasFed l.filter l.depth (fed ++ take l.i l.samples))
    × ((fed : List ℤ) → WasFed l.initial.filter l.depth fed → weighted l.depth (fed ++ take l.i l.samples) ≡ weighted l.depth fed ++ take l.i l.out)
    × All (λ w. unsigned_abs w ≤ 2 ^ 30) (take l.i l.out)
