-- Energies tested piece by piece.
use Rattle.std.proofs.Common.{◌≡◌, ◌/◌, ◌%◌, ℕ, true, List, map, length, nat_le, nat_eq, refl, sym, ap, ◌∙◌}
use Rattle.std.specs.List.{list_all}
use Rattle.std.specs.Simd.{first_chunks}
use Rattle.std.proofs.lemmas.List.{length-map}
use Rattle.std.proofs.lemmas.List.Folds.{list_all-map}
use Rattle.lib_base.specs.declared.limits.TheConstants.{GREATEST_ENERGY, SEGMENT_FRAMES}
use Rattle.keeper_store.specs.EnergyBytes.{spelled, energies_in}
use Rattle.library_model.specs.RowRules.{are_energies_of}

-- none of the numbers that pieces spell is too great, where none of the pieces spells one
pub all_spelled : (pieces : List (List ℕ)) → list_all (λ e. nat_le e GREATEST_ENERGY) (map spelled pieces)
    ≡ list_all (λ piece. nat_le (spelled piece) GREATEST_ENERGY) pieces
all_spelled pieces = list_all-map (λ e. nat_le e GREATEST_ENERGY) spelled pieces

-- bytes of whole pieces, none of them too great, are energies where they are as many as the frames make
pub counted : (frames : ℕ) (bytes : List ℕ) (pieces : List (List ℕ)) → pieces ≡ first_chunks 11 (length bytes / 11) bytes
    → length bytes % 11 ≡ 0 → list_all (λ piece. nat_le (spelled piece) GREATEST_ENERGY) pieces ≡ true
    → nat_eq (length pieces) (frames / SEGMENT_FRAMES) ≡ are_energies_of frames bytes
counted frames bytes pieces are whole small =
    let within : list_all (λ e. nat_le e GREATEST_ENERGY) (energies_in bytes) ≡ true =
    ap (λ (ps : List (List ℕ)). list_all (λ e. nat_le e GREATEST_ENERGY) (map spelled ps)) (sym are) ∙ all_spelled pieces ∙ small in
    let count : length (energies_in bytes) ≡ length pieces =
    ap (λ (ps : List (List ℕ)). length (map spelled ps)) (sym are) ∙ length-map pieces spelled in
    rw (whole, within, count) refl
