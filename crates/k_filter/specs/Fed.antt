-- What a filter keeps of the samples that it was fed.
use Rattle.std.specs.Prelude.{◌≡◌, ℕ, ℤ, List, map, reverse}
use Rattle.sound_model.specs.Weighted.{shelf, high_pass, back, outputs, entering}
use Rattle.k_filter.specs.declared.sections.Recent.{Recent}
use Rattle.k_filter.specs.declared.filters.Filter.{Filter}

-- the last two values of a list that has its newest first
pub record Keeps (recent : Recent) (newest_first : List ℤ) : Type 0 where
  pub last : recent.last ≡ back newest_first 0
  pub before : recent.before ≡ back newest_first 1

-- the samples as they enter, the newest first
abbrev pub entered : ℕ → List ℤ → List ℤ
entered depth fed = map (entering depth) (reverse fed)

-- The filter was fed these samples of that depth, in any pieces, and nothing else.
pub record WasFed (filter : Filter) (depth : ℕ) (fed : List ℤ) : Type 0 where
  pub inputs : Keeps filter.inputs (entered depth fed)
  pub shelved : Keeps filter.shelved (outputs shelf (entered depth fed))
  pub passed : Keeps filter.passed (outputs high_pass (outputs shelf (entered depth fed)))
