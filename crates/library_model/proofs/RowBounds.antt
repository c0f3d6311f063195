-- The rows of what is measured within its bounds break neither the rule of sounds nor the rule of energies.
use Rattle.std.proofs.Common.{◌≡◌, ◌≤◌, ◌/◌, ◌%◌, ℕ, true, List, [], ◌∷◌, length, nat_le, refl, ap, ◌∙◌, arith, eq-eqb}
use Rattle.std.specs.Prelude.{All}
use Rattle.std.specs.List.{list_all}
use Rattle.std.proofs.lemmas.Bool.Decides.{nat_tests}
use Rattle.std.proofs.lemmas.List.Elements.{All-head, All-tail}
use Rattle.lib_base.specs.declared.files.Measured.{Measured}
use Rattle.lib_base.specs.declared.limits.TheConstants.{MOST_CHANNELS, GREATEST_ENERGY, MOST_SAMPLES, GREATEST_PEAK, SEGMENT_FRAMES}
use Rattle.keeper_store.specs.declared.row_types.RecordingRow.{RecordingRow}
use Rattle.keeper_store.specs.EnergyBytes.{row_bytes, energies_in}
use Rattle.keeper_store.proofs.EnergyRows.{length-row_bytes, energies_in-row_bytes}
use Rattle.sound_model.specs.Summaries.{IsWithinBounds}
use Rattle.library_model.specs.RowRules.{are_energies_of, is_depth, is_sound}

-- numbers that are all within a bound pass its test
list_all-within : (most : ℕ) (es : List ℕ) → All (λ e. e ≤ most) es → list_all (λ e. nat_le e most) es ≡ true
list_all-within most [] within = refl
list_all-within most (e ∷ es) within =
    let first : e ≤ most = All-head (λ (x : ℕ). x ≤ most) e es within in
    let here : nat_le e most ≡ true = grind (arith, nat_tests) in
    rw (here, list_all-within most es (All-tail (λ (x : ℕ). x ≤ most) e es within)) refl

-- the bytes of what is measured within its bounds are energies of its frames
pub energies_pass : (m : Measured) → IsWithinBounds m → are_energies_of m.frames (row_bytes m.energies) ≡ true
energies_pass m within =
    let bytes = row_bytes m.energies in
    let whole : length bytes % 11 ≡ 0 = omega (arith, length-row_bytes m.energies) in
    let back : energies_in bytes ≡ m.energies = energies_in-row_bytes m.energies within.energies in
    let small : list_all (λ e. nat_le e GREATEST_ENERGY) (energies_in bytes) ≡ true =
    ap (λ (es : List ℕ). list_all (λ e. nat_le e GREATEST_ENERGY) es) back ∙ list_all-within GREATEST_ENERGY m.energies within.energies in
    let count : length (energies_in bytes) ≡ m.frames / SEGMENT_FRAMES = ap (λ (es : List ℕ). length es) back ∙ within.count in
    rw (whole, small, count) (eq-eqb (m.frames / SEGMENT_FRAMES) (m.frames / SEGMENT_FRAMES) refl)

-- a row of channels, depth, frames and peak within their ranges passes
pub sound_passes : (row : RecordingRow) → 1 ≤ row.channels → row.channels ≤ MOST_CHANNELS → is_depth row.kind row.depth ≡ true
    → row.summary.frames ≤ MOST_SAMPLES → row.summary.peak ≤ GREATEST_PEAK → is_sound row ≡ true
sound_passes row some few depth frames peak =
    let one : nat_le 1 row.channels ≡ true = grind (arith, nat_tests) in
    let six : nat_le row.channels MOST_CHANNELS ≡ true = grind (arith, nat_tests) in
    let short : nat_le row.summary.frames MOST_SAMPLES ≡ true = grind (arith, nat_tests) in
    let low : nat_le row.summary.peak GREATEST_PEAK ≡ true = grind (arith, nat_tests) in
    rw (one, six, depth, short, low) refl
