-- Blocks of 400 ms and windows of 3 s, one from each segment on (BS.1770-4 Annex 1, EBU Tech 3341; the step of 100 ms for the windows
-- of a range is the library's own).
use Rattle.std.specs.Prelude.{ℕ, List, [], ◌∷◌, length, sum, take, nat_le, if◌then◌else◌}
use Rattle.lib_base.specs.declared.limits.TheConstants.{BLOCK_SEGMENTS, WINDOW_SEGMENTS}

-- the sums of so many neighbours, one for each place that has enough from it on
abbrev pub neighbour_sums : ℕ → List ℕ → List ℕ
neighbour_sums count [] = []
neighbour_sums count (e ∷ es) =
    if nat_le count (length (e ∷ es)) then sum (take count (e ∷ es)) ∷ neighbour_sums count es else []

-- the blocks, of 4 segments
abbrev pub blocks_of : List ℕ → List ℕ
blocks_of energies = neighbour_sums BLOCK_SEGMENTS energies

-- the windows, of 30 segments
abbrev pub windows_of : List ℕ → List ℕ
windows_of energies = neighbour_sums WINDOW_SEGMENTS energies
