-- Energies as the tables have them.
use Rattle.std.specs.Prelude.{◌≡◌, ◌%◌, ◌==◌, ℕ, List, Some, length}
use Rattle.std.specs.List.{find}
use Rattle.keeper_store.specs.declared.row_types.SegmentRow.{SegmentRow}
use Rattle.keeper_store.specs.EnergyBytes.{energies_in, AreEnergies}

-- bytes of which energies are decoded
pub record AreDecoded (bytes : List ℕ) : Type 0 where
  pub whole : length bytes % 11 ≡ 0
  pub small : AreEnergies (energies_in bytes)

-- the row of the take, if it has one, is decoded
abbrev pub IsDecodedTake : ℕ → List SegmentRow → Type 0
IsDecodedTake take segments =
    (row : SegmentRow) → find (λ (s : SegmentRow). s.take == take) segments ≡ Some row → AreDecoded row.energies
