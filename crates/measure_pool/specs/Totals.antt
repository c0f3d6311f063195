-- Energies added up over some channels.
use Rattle.std.specs.Prelude.{◌≡◌, ◌<◌, ℕ, ℤ, List, length, take, slice_index}
use Rattle.sound_model.specs.Segments.{energy_over, weights}

-- the energy over the first so many channels
abbrev pub partial_energy : ℕ → List ℕ → List (List ℤ) → ℕ → ℕ → ℕ
partial_energy depth ws lists c j = energy_over depth (take c ws) (take c lists) j

-- the totals over the first so many channels, at each place
abbrev pub AreTotals : ℕ → List (List ℤ) → ℕ → List ℕ → Type 0
AreTotals depth lists c totals = (j : ℕ) → j < length totals → slice_index totals j ≡ partial_energy depth (weights (length lists)) lists c j
