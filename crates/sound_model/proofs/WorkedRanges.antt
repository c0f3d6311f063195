-- Ranges worked by hand.
use Rattle.std.proofs.Common.{◌≡◌, ◌+◌, ◌-◌, ◌*◌, ◌^◌, [], ◌∷◌, pos, Some, None, refl, arith}
use Rattle.sound_model.specs.Levels.{entry, hundredths}
use Rattle.sound_model.specs.Ranges.{IsRange, gated_windows, is_window_audible, is_window_near, percentile_place_of}
use Rattle.sound_model.proofs.LevelTable.{later_places_pass}
use Rattle.sound_model.proofs.LevelLaws.{level_from_power}

-- the 95th percentile of 20 numbers is the last but one: 0.95 times 19 is 18.05
place_of_95 : percentile_place_of 20 95 ≡ 18
unfolding percentile_place_of
place_of_95 = refl

-- the 10th is the third: 0.1 times 19 is 1.9
place_of_10 : percentile_place_of 20 10 ≡ 2
unfolding percentile_place_of
place_of_10 = refl

-- half a place goes upwards
place_of_50 : percentile_place_of 2 50 ≡ 1
unfolding percentile_place_of
place_of_50 = refl

-- no window has no range
of_no_window : IsRange [] None
of_no_window = tt

-- a window below -70 LUFS, as silence, counts for none
of_silence : IsRange (0 ∷ []) None
unfolding is_window_audible is_window_near
of_silence = tt

-- two windows, of which the one has four times the power of the other: 6.02 LU
of_two_windows : IsRange (144000 * 2 ^ 54 ∷ 576000 * 2 ^ 54 ∷ []) (Some (pos 602))
unfolding is_window_audible is_window_near percentile_place_of hundredths entry
of_two_windows = record {
  low = 144000 * 2 ^ 54;
  high = 576000 * 2 ^ 54;
  level = pos 1204;
  low_place = record { among = (0, omega arith, refl); less = omega arith; no_greater = omega arith };
  high_place = record { among = (1, omega arith, refl); less = omega arith; no_greater = omega arith };
  of_ratio = level_from_power (576000 * 2 ^ 54) (144000 * 2 ^ 54) 0 1204 (omega arith) (omega arith) (omega arith) (omega arith)
      (later_places_pass 1205 (576000 * 2 ^ 54 * 10 ^ 9) (144000 * 2 ^ 54) (omega arith));
  rounded = refl;
}

-- one window is both
of_one_window : IsRange (144000 * 2 ^ 54 ∷ []) (Some (pos 0))
unfolding is_window_audible is_window_near percentile_place_of hundredths entry
of_one_window = record {
  low = 144000 * 2 ^ 54;
  high = 144000 * 2 ^ 54;
  level = pos 0;
  low_place = record { among = (0, omega arith, refl); less = omega arith; no_greater = omega arith };
  high_place = record { among = (0, omega arith, refl); less = omega arith; no_greater = omega arith };
  of_ratio = level_from_power (144000 * 2 ^ 54) (144000 * 2 ^ 54) 0 0 (omega arith) (omega arith) (omega arith) (omega arith)
      (later_places_pass 1 (144000 * 2 ^ 54 * 10 ^ 9) (144000 * 2 ^ 54) (omega arith));
  rounded = refl;
}

-- The relative gate keeps a window that equals a hundredth of the mean, 20 LU below it, and drops one that is 1 less. The mean
-- is that of all windows which pass the first gate, this one too: of a and 199 a it is 100 a.
tie_is_kept : gated_windows (2 ^ 70 ∷ 199 * 2 ^ 70 ∷ []) ≡ 2 ^ 70 ∷ 199 * 2 ^ 70 ∷ []
unfolding is_window_audible is_window_near
tie_is_kept = refl

below_the_tie_is_dropped : gated_windows ((2 ^ 70 - 1) ∷ (199 * 2 ^ 70 + 1) ∷ []) ≡ (199 * 2 ^ 70 + 1) ∷ []
unfolding is_window_audible is_window_near
below_the_tie_is_dropped = refl

-- -70 LUFS lies between two whole energies: 180 times the full power over 1,250,000,000 is 30414610299944659.99
from_first_gate_on : gated_windows (30414610299944660 ∷ []) ≡ 30414610299944660 ∷ []
unfolding is_window_audible is_window_near
from_first_gate_on = refl

below_first_gate : gated_windows (30414610299944659 ∷ []) ≡ []
unfolding is_window_audible is_window_near
below_first_gate = refl
