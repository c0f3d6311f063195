-- Channels taken out of samples that stand frame by frame, which undoes interleaving. No definition rests on these words.
use Rattle.std.specs.Prelude.{◌+◌, ◌*◌, ℕ, zero, suc, ℤ, pos, List, [], ◌∷◌, ◌++◌, slice_index_or}

-- the samples of channel c of k, in a list that has the samples of all channels frame by frame
abbrev pub channel_samples : ℕ → ℕ → ℕ → List ℤ → List ℤ
channel_samples k c zero ys = []
channel_samples k c (suc n) ys = channel_samples k c n ys ++ slice_index_or ys (k * n + c) (pos 0) ∷ []

-- the first so many channels of k
abbrev pub first_channels : ℕ → ℕ → ℕ → List ℤ → List (List ℤ)
first_channels zero k n ys = []
first_channels (suc c) k n ys = first_channels c k n ys ++ channel_samples k c n ys ∷ []
