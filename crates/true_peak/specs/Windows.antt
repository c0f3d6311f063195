-- The twelve samples that the value at a place is made of.
use Rattle.std.specs.Prelude.{◌*◌, ℕ, ℤ, pos, ◌+ℤ◌, ◌*ℤ◌, List, [], ◌∷◌, map, max, unsigned_abs}
use Rattle.sound_model.specs.Peaks.{first_phase, second_phase, third_phase, fourth_phase, sample_before}

-- the eleven scaled samples before a place, the newest first
abbrev pub history_at : ℕ → List ℤ → ℕ → List ℤ
history_at depth samples place =
    map (sample_before depth samples place) (1 ∷ 2 ∷ 3 ∷ 4 ∷ 5 ∷ 6 ∷ 7 ∷ 8 ∷ 9 ∷ 10 ∷ 11 ∷ [])

-- the sum of the products of two lists, place by place
unfoldable pub dot : List ℤ → List ℤ → ℤ
dot [] values = pos 0
dot (tap ∷ taps) [] = pos 0
dot (tap ∷ taps) (value ∷ values) = (tap *ℤ value) +ℤ dot taps values

-- the greatest size that a scaled sample makes after these: of the four phases and of the sample itself
abbrev pub size_after : ℤ → List ℤ → ℕ
size_after value history =
    max (8192 * unsigned_abs value)
    (max (max (unsigned_abs (dot first_phase (value ∷ history))) (unsigned_abs (dot second_phase (value ∷ history))))
    (max (unsigned_abs (dot third_phase (value ∷ history))) (unsigned_abs (dot fourth_phase (value ∷ history)))))
