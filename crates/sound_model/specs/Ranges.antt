-- Loudness range, in hundredths of LU (EBU Tech 3342; the gates by `>=` and the places are the library's own).
use Rattle.std.specs.Prelude.{◌≡◌, ◌+◌, ◌-◌, ◌*◌, ◌/◌, ◌<◌, ◌≤◌, ◌^◌, ℕ, ℤ, Bool, List, [], ◌∷◌, length, sum, filter, count_by, Contains, nat_lt, nat_le, Option, None, Some, ⊤}
use Rattle.lib_base.specs.declared.limits.TheConstants.{FULL_POWER}
use Rattle.sound_model.specs.Levels.{IsLevel, hundredths}

-- a window is at the absolute threshold, -70 LUFS, or above: 125/180 is 25/36
unfoldable pub is_window_audible : ℕ → Bool
is_window_audible energy = nat_le (180 * FULL_POWER) (125 * 10 ^ 7 * energy)

-- a window is at the relative threshold, the mean of these less 20 LU, or above
unfoldable pub is_window_near : List ℕ → ℕ → Bool
is_window_near windows energy = nat_le (sum windows) (100 * length windows * energy)

-- the windows that pass both gates: of those from the absolute threshold on, those from the relative one on, their mean less 20 LU
abbrev pub gated_windows : List ℕ → List ℕ
gated_windows windows = let audible = filter is_window_audible windows in filter (is_window_near audible) audible

-- the place of a percentile among n numbers in ascending order, counted from 0: the nearest one, and half a place upwards
unfoldable pub percentile_place_of : ℕ → ℕ → ℕ
percentile_place_of n percent = (2 * (n - 1) * percent + 100) / 200

-- The number stands at that place when the list is put in ascending order: at most so many are less, and more than so many
-- are no greater.
pub record IsAtPlace (energies : List ℕ) (place energy : ℕ) : Type 0 where
  pub among : Contains energies energy
  pub less : count_by (λ (e : ℕ). nat_lt e energy) energies ≤ place
  pub no_greater : place < count_by (λ (e : ℕ). nat_le e energy) energies

-- the range of windows that passed the gates: the level of the 95th percentile over the 10th
pub record IsRangeOf (windows : List ℕ) (range : ℤ) : Type 0 where
  pub low : ℕ
  pub high : ℕ
  pub level : ℤ
  pub low_place : IsAtPlace windows (percentile_place_of (length windows) 10) low
  pub high_place : IsAtPlace windows (percentile_place_of (length windows) 95) high
  pub of_ratio : IsLevel high low level
  pub rounded : range ≡ hundredths level

-- the range of these windows, absent where there is none
abbrev pub IsRangeWithin : List ℕ → Option ℤ → Type 0
IsRangeWithin [] None = ⊤
IsRangeWithin [] (Some range) = ⊥
IsRangeWithin (w ∷ ws) None = ⊥
IsRangeWithin (w ∷ ws) (Some range) = IsRangeOf (w ∷ ws) range

-- the range of windows: that of those which pass both gates, absent where none does
abbrev pub IsRange : List ℕ → Option ℤ → Type 0
IsRange windows range = IsRangeWithin (gated_windows windows) range
