-- How great weighted values and energies can be.
use Rattle.std.specs.Prelude.{◌≡◌, ◌≤◌, ◌*◌, ◌^◌, ℕ, ℤ, List, length, sum, All, unsigned_abs}
use Rattle.lib_base.specs.declared.limits.TheConstants.{SEGMENT_FRAMES, BLOCK_SEGMENTS, WINDOW_SEGMENTS, GREATEST_ENERGY}

-- a weighted value, held to 2^30
abbrev pub IsWeighted : ℤ → Type 0
IsWeighted w = unsigned_abs w ≤ 2 ^ 30

-- the greatest energy of a segment of one channel: 4,800 squares at the clamp
abbrev pub greatest_of_channel : ℕ
greatest_of_channel = 2 ^ 60 * SEGMENT_FRAMES

-- energies of segments of one channel
abbrev pub AreOfChannel : List ℕ → Type 0
AreOfChannel energies = All (λ e. e ≤ greatest_of_channel) energies

-- energies of segments
abbrev pub AreSegments : List ℕ → Type 0
AreSegments energies = All (λ e. e ≤ GREATEST_ENERGY) energies

-- energies of blocks, and no more than 2^25 of them
pub record AreBlocks (blocks : List ℕ) : Type 0 where
  pub within : All (λ z. z ≤ BLOCK_SEGMENTS * GREATEST_ENERGY) blocks
  pub few : length blocks ≤ 2 ^ 25

-- energies of windows, and no more than 2^25 of them
pub record AreWindows (windows : List ℕ) : Type 0 where
  pub within : All (λ z. z ≤ WINDOW_SEGMENTS * GREATEST_ENERGY) windows
  pub few : length windows ≤ 2 ^ 25

-- how many energies there are, and their sum
pub record IsTallyOf (energies : List ℕ) (count total : ℕ) : Type 0 where
  pub counted : count ≡ length energies
  pub summed : total ≡ sum energies
