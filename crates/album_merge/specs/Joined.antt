-- What the recordings of an album have together.
use Rattle.std.specs.Prelude.{ℕ, List, map, sum_by, flat_map}
use Rattle.sound_model.specs.Loudness.{greatest}
use Rattle.album_merge.specs.declared.members.Member.{Member}

-- their audible blocks, one recording after another
abbrev pub blocks_in : List Member → List ℕ
blocks_in members = flat_map (λ (m : Member). m.tally.blocks) members

-- their audible windows, one recording after another
abbrev pub windows_in : List Member → List ℕ
windows_in members = flat_map (λ (m : Member). m.tally.windows) members

-- their frames
abbrev pub frames_in : List Member → ℕ
frames_in members = sum_by (λ (m : Member). m.tally.summary.frames) members

-- the greatest of their blocks
abbrev pub greatest_block_in : List Member → ℕ
greatest_block_in members = greatest (map (λ (m : Member). m.tally.greatest_block) members)

-- the greatest of their windows
abbrev pub greatest_window_in : List Member → ℕ
greatest_window_in members = greatest (map (λ (m : Member). m.tally.greatest_window) members)

-- the greatest of their peaks
abbrev pub peak_in : List Member → ℕ
peak_in members = greatest (map (λ (m : Member). m.tally.summary.peak) members)
