-- The levels of an album: its recordings taken together. No block and no window lies across two recordings (the library's own; BS.1770-4
-- and EBU Tech 3342 say how blocks and windows are gated).
use Rattle.std.specs.Prelude.{ℕ, ℤ, List, [], ◌∷◌, map, sum_by, flat_map, Option, None, Some}
use Rattle.std.specs.Int.{int_max}
use Rattle.lib_base.specs.declared.files.Measured.{Measured}
use Rattle.lib_base.specs.declared.files.Summary.{Summary}
use Rattle.sound_model.specs.Blocks.{blocks_of, windows_of}
use Rattle.sound_model.specs.Loudness.{greatest}
use Rattle.sound_model.specs.Summaries.{Summarises}

-- the levels of one recording, of what is measured of it
abbrev pub SummarisesMeasured : Measured → Summary → Type 0
SummarisesMeasured m summary = Summarises m.frames (blocks_of m.energies) (windows_of m.energies) m.peak summary

-- the frames of all recordings
abbrev pub album_frames : List Measured → ℕ
album_frames recordings = sum_by (λ m. m.frames) recordings

-- the blocks of each recording, one recording after another
abbrev pub album_blocks : List Measured → List ℕ
album_blocks recordings = flat_map (λ m. blocks_of m.energies) recordings

-- the windows of each recording, one recording after another
abbrev pub album_windows : List Measured → List ℕ
album_windows recordings = flat_map (λ m. windows_of m.energies) recordings

-- the greatest peak of the recordings
abbrev pub album_peak : List Measured → ℕ
album_peak recordings = greatest (map (λ m. m.peak) recordings)

-- the levels of an album with these recordings
abbrev pub IsAlbumSummary : List Measured → Summary → Type 0
IsAlbumSummary recordings summary =
    Summarises (album_frames recordings) (album_blocks recordings) (album_windows recordings) (album_peak recordings) summary

-- the greater of two levels, of which one that is absent is the least
abbrev pub greater_level : Option ℤ → Option ℤ → Option ℤ
greater_level None other = other
greater_level (Some v) None = Some v
greater_level (Some v) (Some w) = Some (int_max v w)

-- the greatest of levels, absent where each of them is
abbrev pub greatest_level : List (Option ℤ) → Option ℤ
greatest_level [] = None
greatest_level (level ∷ levels) = greater_level level (greatest_level levels)
