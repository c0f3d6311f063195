-- A sound as samples.
use Rattle.std.specs.Prelude.{ℕ, zero, suc, ℤ, pos, List, [], ◌++◌, map, slice_index_or}

-- how many bits a sample has, how many samples each channel has, and the samples of each channel
pub record Pcm : Type 0 where
  pub depth : ℕ
  pub frames : ℕ
  pub lists : List (List ℤ)

-- a frame: the samples of all channels at a place
abbrev pub frame_at : List (List ℤ) → ℕ → List ℤ
frame_at lists place = map (λ (samples : List ℤ). slice_index_or samples place (pos 0)) lists

-- the samples of the first so many frames, frame by frame
abbrev pub interleaved : ℕ → List (List ℤ) → List ℤ
interleaved zero lists = []
interleaved (suc count) lists = interleaved count lists ++ frame_at lists count
