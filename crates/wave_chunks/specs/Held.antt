-- The samples that the content of a `data` chunk holds.
use Rattle.std.specs.Prelude.{◌/◌, ℕ, ℤ, List, length}
use Rattle.file_model.specs.Channels.{first_channels}
use Rattle.file_model.specs.Samples.{samples_in}

-- all samples, frame by frame
abbrev pub samples_held : ℕ → List ℕ → List ℤ
samples_held depth content = samples_in depth (length content / (depth / 8)) content

-- the samples of each channel
abbrev pub channels_held : ℕ → ℕ → ℕ → List ℕ → List (List ℤ)
channels_held depth channels frames content = first_channels channels channels frames (samples_held depth content)
