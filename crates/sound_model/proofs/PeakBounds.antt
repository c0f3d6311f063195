-- How great peaks are.
use Rattle.std.proofs.Common.{◌≡◌, ◌≤◌, ◌+◌, ◌-◌, ◌*◌, ◌^◌, ℕ, zero, suc, Bool, true, false, nat_le, List, [], ◌∷◌, length, get_or, max, sym, subst, ap, ◌∙◌, inl, inr, arith, if◌then◌else◌}
use Rattle.std.specs.Prelude.{ℤ, pos, ◌+ℤ◌, ◌*ℤ◌, unsigned_abs, All}
use Rattle.std.proofs.lemmas.Bool.{cases_lt}
use Rattle.std.proofs.lemmas.Int.{ints, unsigned_abs-mul}
use Rattle.std.proofs.lemmas.Nat.{mul-le, pow-add, pow_pos}
use Rattle.std.proofs.lemmas.List.{get_or_past}
use Rattle.std.proofs.lemmas.List.Elements.{All-get_or, All-head, All-tail}
use Rattle.lib_base.specs.Sounds.{IsSample, scaled}
use Rattle.lib_base.proofs.Scales.{scaled_small}
use Rattle.lib_base.specs.declared.limits.TheConstants.{PEAK_REACH}
use Rattle.sound_model.specs.Peaks.{sample_before, tapped, phase_size, peak_at, peak_from, peak_of, first_phase, second_phase, third_phase, fourth_phase}

silence_is_sample : (depth : ℕ) → IsSample depth (pos 0)
silence_is_sample depth = let some = pow_pos (depth - 1) in (omega (arith, ints, some), omega (arith, ints, some))

-- a sample, and the silence past the end
sample_within : (depth : ℕ) (samples : List ℤ) (i : ℕ) → All (IsSample depth) samples → IsSample depth (get_or samples i (pos 0))
sample_within depth samples i all =
    let Fits : ℤ → Type 0 = λ x. IsSample depth x in
    elim (cases_lt i (length samples)) [
      | inl inside ↦ All-get_or Fits samples i (pos 0) inside all
      | inr past ↦ subst Fits (sym (get_or_past samples i (pos 0) past)) (silence_is_sample depth)
    ]

chosen_within : (test : Bool) (x : ℤ) → unsigned_abs x ≤ 2 ^ 23 → unsigned_abs (if test then x else pos 0) ≤ 2 ^ 23
chosen_within true x within = within
chosen_within false x within = omega arith

before_within : (depth : ℕ) (samples : List ℤ) (place count : ℕ) → 4 ≤ depth → depth ≤ 24 → All (IsSample depth) samples
    → unsigned_abs (sample_before depth samples place count) ≤ 2 ^ 23
before_within depth samples place count low high all =
    chosen_within (nat_le count place) (scaled depth (get_or samples (place - count) (pos 0)))
    (scaled_small depth (get_or samples (place - count) (pos 0)) low high (sample_within depth samples (place - count) all))

-- the sum of the sizes of taps
weight_of : List ℤ → ℕ
weight_of [] = 0
weight_of (tap ∷ taps) = unsigned_abs tap + weight_of taps

sum_within : (x y : ℤ) (m n : ℕ) → unsigned_abs x ≤ m → unsigned_abs y ≤ n → unsigned_abs (x +ℤ y) ≤ m + n
sum_within x y m n one other = omega (arith, ints, one, other)

tapped_within : (depth : ℕ) (samples : List ℤ) (place count : ℕ) (taps : List ℤ) → 4 ≤ depth → depth ≤ 24 → All (IsSample depth) samples
    → unsigned_abs (tapped depth samples place count taps) ≤ weight_of taps * 2 ^ 23
unfolding weight_of
tapped_within depth samples place count [] low high all = omega arith
tapped_within depth samples place count (tap ∷ taps) low high all =
    let value = sample_before depth samples place count in
    let apart = unsigned_abs-mul tap value in
    let product = mul-le (unsigned_abs tap) (unsigned_abs value) (unsigned_abs tap) (2 ^ 23) (omega arith) (before_within depth samples place count low high all) in
    let rest = tapped_within depth samples place (count + 1) taps low high all in
    let both = sum_within (tap *ℤ value) (tapped depth samples place (count + 1) taps) (unsigned_abs tap * 2 ^ 23) (weight_of taps * 2 ^ 23) (omega (arith, apart, product)) rest in
    omega (arith, both)

phase_within : (depth : ℕ) (samples : List ℤ) (place : ℕ) (taps : List ℤ) → weight_of taps ≤ 16571 → 4 ≤ depth → depth ≤ 24
    → All (IsSample depth) samples → phase_size depth samples place taps ≤ 16571 * 2 ^ 23
phase_within depth samples place taps light low high all =
    let bound = tapped_within depth samples place 0 taps low high all in
    let least = mul-le (weight_of taps) (2 ^ 23) 16571 (2 ^ 23) light (omega arith) in
    omega (arith, bound, least)

most_of_five : (own a b c d most : ℕ) → own ≤ most → a ≤ most → b ≤ most → c ≤ most → d ≤ most → max own (max (max a b) (max c d)) ≤ most
most_of_five own a b c d most h1 h2 h3 h4 h5 = omega arith

peak_at_within : (depth : ℕ) (samples : List ℤ) (place : ℕ) → 4 ≤ depth → depth ≤ 24 → All (IsSample depth) samples
    → peak_at depth samples place ≤ 16571 * 2 ^ 23
unfolding weight_of
peak_at_within depth samples place low high all =
    let own = before_within depth samples place 0 low high all in
    most_of_five (8192 * unsigned_abs (sample_before depth samples place 0)) (phase_size depth samples place first_phase)
    (phase_size depth samples place second_phase) (phase_size depth samples place third_phase) (phase_size depth samples place fourth_phase)
    (16571 * 2 ^ 23) (omega (arith, own)) (phase_within depth samples place first_phase (omega arith) low high all)
    (phase_within depth samples place second_phase (omega arith) low high all) (phase_within depth samples place third_phase (omega arith) low high all)
    (phase_within depth samples place fourth_phase (omega arith) low high all)

peak_from_within : (depth : ℕ) (samples : List ℤ) (from count : ℕ) → 4 ≤ depth → depth ≤ 24 → All (IsSample depth) samples
    → peak_from depth samples from count ≤ 16571 * 2 ^ 23
peak_from_within depth samples from zero low high all = omega arith
peak_from_within depth samples from (suc count) low high all =
    let rest = peak_from_within depth samples from count low high all in
    let here = peak_at_within depth samples (from + count) low high all in omega (arith, rest, here)

-- a peak is at most that of samples at full scale with the signs of the heaviest phase
pub peak_of_within : (depth frames : ℕ) (lists : List (List ℤ)) → 4 ≤ depth → depth ≤ 24 → All (λ xs. All (IsSample depth) xs) lists
    → peak_of depth frames lists ≤ 16571 * 2 ^ 23
peak_of_within depth frames [] low high all = omega arith
peak_of_within depth frames (samples ∷ lists) low high all =
    let OfChannel : List ℤ → Type 0 = λ xs. All (IsSample depth) xs in
    let here = peak_from_within depth samples 0 (frames + PEAK_REACH - 0) low high (All-head OfChannel samples lists all) in
    let rest = peak_of_within depth frames lists low high (All-tail OfChannel samples lists all) in omega (arith, here, rest)
