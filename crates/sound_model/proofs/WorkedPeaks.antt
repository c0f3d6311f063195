-- Worked peaks.
use Rattle.std.proofs.Common.{◌≡◌, ◌*◌, ◌^◌, [], ◌∷◌, refl}
use Rattle.std.specs.Prelude.{pos, negsuc}
use Rattle.sound_model.specs.Peaks.{peak_over, scaled}

-- a sample of half of full scale, at 16 bits
pub peak-one : peak_over 16 (pos 16384 ∷ []) 0 12 ≡ 2 ^ 35
unfolding scaled
peak-one = refl

-- two of them rise to 10198 of 16384 parts between them, which is heard past their end alone
pub peak-two : peak_over 16 (pos 16384 ∷ pos 16384 ∷ []) 0 13 ≡ 10198 * 2 ^ 22
unfolding scaled
peak-two = refl

pub peak-two_at_their_places : peak_over 16 (pos 16384 ∷ pos 16384 ∷ []) 0 2 ≡ 2 ^ 35
unfolding scaled
peak-two_at_their_places = refl

-- the signs that add up all the taps of the second phase
pub peak-greatest : peak_over 24 (negsuc 0 ∷ pos 1 ∷ negsuc 0 ∷ pos 1 ∷ negsuc 0 ∷ pos 1 ∷ pos 1 ∷ negsuc 0 ∷ pos 1 ∷ negsuc 0 ∷ pos 1 ∷ negsuc 0 ∷ []) 0 23 ≡ 16571
unfolding scaled
peak-greatest = refl
