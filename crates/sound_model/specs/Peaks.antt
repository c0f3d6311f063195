-- The peak, in units of 2^-36 of full scale (BS.1770-4 Annex 2; the filter in whole 8192ths is a profile of it, and its run of 11 places
-- past the end and the size of the sample itself are the library's own).
use Rattle.std.specs.Prelude.{◌+◌, ◌-◌, ◌*◌, ◌^◌, ℕ, zero, suc, ℤ, pos, neg_ℤ, ◌+ℤ◌, ◌*ℤ◌, List, [], ◌∷◌, reverse, slice_index_or, max, unsigned_abs, nat_le, if◌then◌else◌}
unfoldable pub use Rattle.lib_base.specs.Sounds.{scaled}
use Rattle.lib_base.specs.declared.limits.TheConstants.{PEAK_REACH}

-- the taps of the first phase, in 8192ths
abbrev pub first_phase : List ℤ
first_phase =
    pos 14 ∷ pos 90 ∷ neg_ℤ (pos 161) ∷ pos 272 ∷ neg_ℤ (pos 487) ∷ pos 1125 ∷ pos 7964 ∷ neg_ℤ (pos 838) ∷ pos 390 ∷ neg_ℤ (pos 218) ∷ pos 122 ∷ neg_ℤ (pos 68) ∷ []

-- the taps of the second phase, in 8192ths
abbrev pub second_phase : List ℤ
second_phase =
    neg_ℤ (pos 239) ∷ pos 240 ∷ neg_ℤ (pos 424) ∷ pos 730 ∷ neg_ℤ (pos 1364) ∷ pos 3810 ∷ pos 6388 ∷ neg_ℤ (pos 1641) ∷ pos 832 ∷ neg_ℤ (pos 477) ∷ pos 271 ∷ neg_ℤ (pos 155) ∷ []

-- the third phase is the second one reversed
abbrev pub third_phase : List ℤ
third_phase = reverse second_phase

-- the fourth phase is the first one reversed
abbrev pub fourth_phase : List ℤ
fourth_phase = reverse first_phase

-- the scaled sample so many places before a place, 0 outside the recording
abbrev pub sample_before : ℕ → List ℤ → ℕ → ℕ → ℤ
sample_before depth samples place count =
    if nat_le count place then scaled depth (slice_index_or samples (place - count) (pos 0)) else pos 0

-- the sum of taps times samples, the first tap with the sample so many places before, each next one with the one before that
abbrev pub tapped : ℕ → List ℤ → ℕ → ℕ → List ℤ → ℤ
tapped depth samples place count [] = pos 0
tapped depth samples place count (tap ∷ taps) =
    (tap *ℤ sample_before depth samples place count) +ℤ tapped depth samples place (count + 1) taps

-- the size of a phase's value at a place
abbrev pub phase_size : ℕ → List ℤ → ℕ → List ℤ → ℕ
phase_size depth samples place taps = unsigned_abs (tapped depth samples place 0 taps)

-- the greatest size at a place: of the four phases and of the sample itself
abbrev pub peak_at : ℕ → List ℤ → ℕ → ℕ
peak_at depth samples place =
    max (8192 * unsigned_abs (sample_before depth samples place 0))
    (max (max (phase_size depth samples place first_phase) (phase_size depth samples place second_phase))
    (max (phase_size depth samples place third_phase) (phase_size depth samples place fourth_phase)))

-- the greatest size at so many places from one on
abbrev pub peak_from : ℕ → List ℤ → ℕ → ℕ → ℕ
peak_from depth samples from zero = 0
peak_from depth samples from (suc count) = max (peak_from depth samples from count) (peak_at depth samples (from + count))

-- the greatest size at the places from `from` to before `to`
abbrev pub peak_over : ℕ → List ℤ → ℕ → ℕ → ℕ
peak_over depth samples from to = peak_from depth samples from (to - from)

-- the peak over channels of so many frames each, and the places past their end that the filter reaches
abbrev pub peak_of : ℕ → ℕ → List (List ℤ) → ℕ
peak_of depth frames [] = 0
peak_of depth frames (samples ∷ lists) = max (peak_over depth samples 0 (frames + PEAK_REACH)) (peak_of depth frames lists)
