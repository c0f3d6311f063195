-- Sounds as lists of samples.
use Rattle.std.specs.Prelude.{◌≡◌, ◌≤◌, ◌<◌, ◌-◌, ◌^◌, ℕ, ℤ, pos, neg_ℤ, ◌≤ℤ◌, ◌<ℤ◌, ◌*ℤ◌, List, [], length, take, drop, slice_index_or, All}
use Rattle.lib_base.specs.declared.limits.TheConstants.{MOST_CHANNELS, LEAST_DEPTH, GREATEST_DEPTH}

-- the elements of a list from `start` on, `count` of them
abbrev pub part : {A : Type 0} → List A → ℕ → ℕ → List A
part xs start count = take count (drop start xs)

-- the samples of a channel
abbrev pub samples_of : List (List ℤ) → ℕ → List ℤ
samples_of lists channel = slice_index_or lists channel []

-- a signed sample of `depth` bits, in two's complement (Tech 3285; RFC 9639 section 3.1)
abbrev pub IsSample : ℕ → ℤ → Type 0
IsSample depth s = (neg_ℤ (pos (2 ^ (depth - 1))) ≤ℤ s) × (s <ℤ pos (2 ^ (depth - 1)))

-- a sample scaled to the greatest depth
unfoldable pub scaled : ℕ → ℤ → ℤ
scaled depth sample = sample *ℤ pos (2 ^ (GREATEST_DEPTH - depth))

-- one to six equally long lists, one for each channel, of samples within a depth from 4 to 24
pub record IsSound (lists : List (List ℤ)) (depth frames : ℕ) : Type 0 where
  pub has_channel : 1 ≤ length lists
  pub few_channels : length lists ≤ MOST_CHANNELS
  pub least_depth : LEAST_DEPTH ≤ depth
  pub greatest_depth : depth ≤ GREATEST_DEPTH
  pub short : frames < 2 ^ 60
  pub equal : All (λ xs. length xs ≡ frames) lists
  pub within : All (λ xs. All (λ s. IsSample depth s) xs) lists
