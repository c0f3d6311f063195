-- The energies of a sound's segments of 100 ms, 4,800 frames (BS.1770-4 Annex 1).
use Rattle.std.specs.Prelude.{◌+◌, ◌*◌, ◌/◌, ◌^◌, ◌==◌, ℕ, zero, suc, ℤ, List, [], ◌∷◌, ◌++◌, length, sum_by, unsigned_abs, if◌then◌else◌}
use Rattle.lib_base.specs.Sounds.{part}
use Rattle.lib_base.specs.declared.limits.TheConstants.{SEGMENT_FRAMES}
pub use Rattle.lib_base.specs.declared.limits.TheConstants.{GREATEST_ENERGY as greatest_energy}
use Rattle.sound_model.specs.Weighted.{weighted}

-- the square of a weighted value
unfoldable pub square : ℤ → ℕ
square w = unsigned_abs w * unsigned_abs w

-- the sum of the squares in a segment, counted from 0
abbrev pub segment_energy : List ℤ → ℕ → ℕ
segment_energy values j = sum_by square (part values (SEGMENT_FRAMES * j) SEGMENT_FRAMES)

-- the energies of the first so many segments
abbrev pub first_segments : ℕ → List ℤ → List ℕ
first_segments zero values = []
first_segments (suc count) values = first_segments count values ++ segment_energy values count ∷ []

-- the energies of all whole segments of one channel
abbrev pub segments_of : List ℤ → List ℕ
segments_of values = first_segments (length values / SEGMENT_FRAMES) values

-- the weights of the channels, in hundredths: 1.41 for those at the back, none for low frequencies (BS.1770-4 Annex 1 table 3). The
-- channels stand as left, right, center, low frequencies, back left, back right, less those that are not there (RFC 9639 section 9.1.3).
abbrev pub weights : ℕ → List ℕ
weights channels =
    if channels == 1 then 100 ∷ []
    else if channels == 2 then 100 ∷ 100 ∷ []
    else if channels == 3 then 100 ∷ 100 ∷ 100 ∷ []
    else if channels == 4 then 100 ∷ 100 ∷ 141 ∷ 141 ∷ []
    else if channels == 5 then 100 ∷ 100 ∷ 100 ∷ 141 ∷ 141 ∷ []
    else if channels == 6 then 100 ∷ 100 ∷ 100 ∷ 0 ∷ 141 ∷ 141 ∷ []
    else []

-- the energy of a segment over channels, each with its weight
abbrev pub energy_over : ℕ → List ℕ → List (List ℤ) → ℕ → ℕ
energy_over depth [] lists j = 0
energy_over depth (weight ∷ others) [] j = 0
energy_over depth (weight ∷ others) (samples ∷ lists) j =
    weight * segment_energy (weighted depth samples) j + energy_over depth others lists j

-- the energies of the first so many segments of a sound
abbrev pub first_energies : ℕ → ℕ → List (List ℤ) → List ℕ
first_energies depth zero lists = []
first_energies depth (suc count) lists =
    first_energies depth count lists ++ energy_over depth (weights (length lists)) lists count ∷ []

-- the energies of all whole segments of a sound with so many frames
abbrev pub energies : ℕ → ℕ → List (List ℤ) → List ℕ
energies depth frames lists = first_energies depth (frames / SEGMENT_FRAMES) lists
