-- Worked weighted lists.
use Rattle.std.proofs.Common.{◌≡◌, [], ◌∷◌, refl}
use Rattle.std.specs.Prelude.{pos, negsuc}
use Rattle.lib_base.specs.Sounds.{scaled}
use Rattle.sound_model.specs.Weighted.{weighted, next_output, entering, leaving}

pub weighted-one_and_zero : weighted 16 (pos 1 ∷ pos 0 ∷ []) ≡ pos 6288 ∷ negsuc 456 ∷ []
unfolding next_output scaled entering leaving
weighted-one_and_zero = refl

-- the least samples of 24 bits and the greatest one between them
pub weighted-loudest : weighted 24 (negsuc 8388607 ∷ pos 8388607 ∷ negsuc 8388607 ∷ negsuc 8388607 ∷ []) ≡ negsuc 206040970 ∷ pos 221019843 ∷ negsuc 207180422 ∷ negsuc 192423291 ∷ []
unfolding next_output scaled entering leaving
weighted-loudest = refl
