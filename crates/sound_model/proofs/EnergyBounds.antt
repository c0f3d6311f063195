-- How great weighted values and energies are, and how many energies there are.
use Rattle.std.proofs.Common.{◌≡◌, ◌≤◌, ◌<◌, ◌-◌, ◌*◌, ◌/◌, ◌^◌, ◌⊎◌, ℕ, zero, suc, List, [], ◌∷◌, map, reverse, take, drop, length, get_or, sum, length-take, refl, ap, ◌∙◌, sym, subst, inl, inr, arith}
use Rattle.std.specs.Prelude.{ℤ, pos, ◌+ℤ◌, unsigned_abs, All}
use Rattle.std.specs.Int.{int_div_euclid}
use Rattle.std.proofs.lemmas.Bool.{cases_lt}
use Rattle.std.proofs.lemmas.Int.{ints}
use Rattle.std.proofs.lemmas.Nat.{mul-le}
use Rattle.std.proofs.lemmas.List.{get_or-reverse, length-reverse, length-map, get_or_append_left, get_or_push, length_push}
use Rattle.std.proofs.lemmas.List.Elements.{All-map, All-nil, All-cons, All-get_or, All-from_get_or, All-take, All-drop}
use Rattle.std.proofs.lemmas.List.Sums.{sum_by-le, sum_by-cons, sum_by-take-le}
use Rattle.lib_base.specs.Sounds.{part}
use Rattle.lib_base.specs.declared.limits.TheConstants.{GREATEST_ENERGY, SEGMENT_FRAMES}
use Rattle.sound_model.specs.Weighted.{Section, held, leaving, weighted, outputs, shelf, high_pass, entering}
use Rattle.sound_model.specs.Segments.{square, segment_energy, first_segments, energy_over, first_energies, energies, weights}

held_within : (limit : ℕ) (z : ℤ) → unsigned_abs (held limit z) ≤ limit
held_within limit z = grind (arith, ints)

leaving_within : (z : ℤ) → unsigned_abs (leaving z) ≤ 2 ^ 30
unfolding leaving
leaving_within z = held_within (2 ^ 30) (int_div_euclid (z +ℤ pos (2 ^ 11)) (pos (2 ^ 12)))

All-reverse : (P : ℤ → Type 0) (xs : List ℤ) → All P xs → All P (reverse xs)
All-reverse P xs all =
    All-from_get_or P (reverse xs) (pos 0)
    (λ i below.
    let whole = length-reverse xs in
    let within : i < length xs = omega (arith, whole, below) in
    let Fits : ℤ → Type 0 = λ x. P x in
    subst Fits (sym (get_or-reverse xs i (pos 0) within)) (All-get_or P xs (length xs - 1 - i) (pos 0) (omega (arith, within)) all))

all_leaving : (us : List ℤ) → All (λ u. unsigned_abs (leaving u) ≤ 2 ^ 30) us
all_leaving [] = All-nil (λ (u : ℤ). unsigned_abs (leaving u) ≤ 2 ^ 30)
all_leaving (u ∷ us) = All-cons (λ (u : ℤ). unsigned_abs (leaving u) ≤ 2 ^ 30) u us (leaving_within u) (all_leaving us)

-- weighted values are held to 2^30
pub weighted_within : (depth : ℕ) (samples : List ℤ) → All (λ w. unsigned_abs w ≤ 2 ^ 30) (weighted depth samples)
weighted_within depth samples =
    let Held : ℤ → Type 0 = λ w. unsigned_abs w ≤ 2 ^ 30 in
    let us = outputs high_pass (outputs shelf (map (entering depth) (reverse samples))) in
    All-reverse Held (map leaving us) (All-map Held leaving us (all_leaving us))

square_within : (w : ℤ) → unsigned_abs w ≤ 2 ^ 30 → square w ≤ 2 ^ 60
unfolding square
square_within w within = let both = mul-le (unsigned_abs w) (unsigned_abs w) (2 ^ 30) (2 ^ 30) within within in omega (arith, both)

all_squares : (ws : List ℤ) → All (λ w. unsigned_abs w ≤ 2 ^ 30) ws → All (λ w. square w ≤ 2 ^ 60) ws
all_squares ws all =
    All-from_get_or (λ (w : ℤ). square w ≤ 2 ^ 60) ws (pos 0)
    (λ i below. square_within (get_or ws i (pos 0)) (All-get_or (λ (w : ℤ). unsigned_abs w ≤ 2 ^ 30) ws i (pos 0) below all))

-- the energy of one channel's segment
pub segment_energy_within : (depth : ℕ) (samples : List ℤ) (j : ℕ) → segment_energy (weighted depth samples) j ≤ SEGMENT_FRAMES * 2 ^ 60
segment_energy_within depth samples j =
    let values = weighted depth samples in
    let piece = part values (SEGMENT_FRAMES * j) SEGMENT_FRAMES in
    let count = length-take SEGMENT_FRAMES (drop (SEGMENT_FRAMES * j) values) in
    let all = All-take (λ (w : ℤ). unsigned_abs w ≤ 2 ^ 30) SEGMENT_FRAMES (drop (SEGMENT_FRAMES * j) values)
    (All-drop (λ (w : ℤ). unsigned_abs w ≤ 2 ^ 30) (SEGMENT_FRAMES * j) values (weighted_within depth samples)) in
    let bound = sum_by-le square (2 ^ 60) piece (all_squares piece all) in
    omega (arith, count, bound)

-- the energy over channels is within their weights' sum times that of one channel
pub energy_over_within : (depth : ℕ) (ws : List ℕ) (lists : List (List ℤ)) (j : ℕ) → energy_over depth ws lists j ≤ sum ws * (SEGMENT_FRAMES * 2 ^ 60)
energy_over_within depth [] lists j = omega arith
energy_over_within depth (w ∷ ws) [] j = omega arith
energy_over_within depth (w ∷ ws) (samples ∷ lists) j =
    let rest = energy_over_within depth ws lists j in
    let one = mul-le w (segment_energy (weighted depth samples) j) w (SEGMENT_FRAMES * 2 ^ 60) (omega arith) (segment_energy_within depth samples j) in
    let total = sum_by-cons (λ (n : ℕ). n) w ws in
    omega (arith, rest, one, total)

length-outputs : (s : Section) (xs : List ℤ) → length (outputs s xs) ≡ length xs
length-outputs s [] = refl
length-outputs s (x ∷ xs) = ap suc (length-outputs s xs)

-- a weighted list is as long as its samples
pub length-weighted : (depth : ℕ) (samples : List ℤ) → length (weighted depth samples) ≡ length samples
length-weighted depth samples =
    let entered = map (entering depth) (reverse samples) in
    length-reverse (map leaving (outputs high_pass (outputs shelf entered)))
    ∙ length-map (outputs high_pass (outputs shelf entered)) leaving
    ∙ length-outputs high_pass (outputs shelf entered) ∙ length-outputs shelf entered
    ∙ length-map (reverse samples) (entering depth) ∙ length-reverse samples

pub length-first_segments : (n : ℕ) (values : List ℤ) → length (first_segments n values) ≡ n
length-first_segments zero values = refl
length-first_segments (suc n) values =
    let rest = length-first_segments n values in
    let more = length_push (first_segments n values) (segment_energy values n) in omega (arith, rest, more)

-- the energies of a channel's first segments, by their places
pub first_segments-get_or : (n j : ℕ) (values : List ℤ) → j < n → get_or (first_segments n values) j 0 ≡ segment_energy values j
first_segments-get_or zero j values below = absurd (omega (arith, below))
first_segments-get_or (suc n) j values below =
    let whole = length-first_segments n values in
    elim (cases_lt j n) [
      | inl earlier ↦
          get_or_append_left (first_segments n values) (segment_energy values n ∷ []) 0 j (omega (arith, whole, earlier))
          ∙ first_segments-get_or n j values earlier
      | inr from ↦
          let last : j ≡ n = omega (arith, below, from) in
          get_or_push (first_segments n values) (segment_energy values n) 0 j (omega (arith, whole, last))
          ∙ ap (λ (i : ℕ). segment_energy values i) (sym last)
    ]

pub length-first_energies : (depth n : ℕ) (lists : List (List ℤ)) → length (first_energies depth n lists) ≡ n
length-first_energies depth zero lists = refl
length-first_energies depth (suc n) lists =
    let rest = length-first_energies depth n lists in
    let more = length_push (first_energies depth n lists) (energy_over depth (weights (length lists)) lists n) in omega (arith, rest, more)

-- the energies of a sound's first segments, by their places
pub first_energies-get_or : (depth n j : ℕ) (lists : List (List ℤ)) → j < n
    → get_or (first_energies depth n lists) j 0 ≡ energy_over depth (weights (length lists)) lists j
first_energies-get_or depth zero j lists below = absurd (omega (arith, below))
first_energies-get_or depth (suc n) j lists below =
    let whole = length-first_energies depth n lists in
    elim (cases_lt j n) [
      | inl earlier ↦
          get_or_append_left (first_energies depth n lists) (energy_over depth (weights (length lists)) lists n ∷ []) 0 j (omega (arith, whole, earlier))
          ∙ first_energies-get_or depth n j lists earlier
      | inr from ↦
          let last : j ≡ n = omega (arith, below, from) in
          get_or_push (first_energies depth n lists) (energy_over depth (weights (length lists)) lists n) 0 j (omega (arith, whole, last))
          ∙ ap (λ (i : ℕ). energy_over depth (weights (length lists)) lists i) (sym last)
    ]

six_cases : (k : ℕ) → 1 ≤ k → k ≤ 6 → (k ≡ 1) ⊎ ((k ≡ 2) ⊎ ((k ≡ 3) ⊎ ((k ≡ 4) ⊎ ((k ≡ 5) ⊎ (k ≡ 6)))))
six_cases k some few = grind arith

pub length-weights : (k : ℕ) → 1 ≤ k → k ≤ 6 → length (weights k) ≡ k
length-weights k some few =
    let Holds : ℕ → Type 0 = λ n. length (weights n) ≡ n in
    elim (six_cases k some few) [
      | inl one ↦ subst Holds (sym one) refl
      | inr (inl two) ↦ subst Holds (sym two) refl
      | inr (inr (inl three)) ↦ subst Holds (sym three) refl
      | inr (inr (inr (inl four))) ↦ subst Holds (sym four) refl
      | inr (inr (inr (inr (inl five)))) ↦ subst Holds (sym five) refl
      | inr (inr (inr (inr (inr six)))) ↦ subst Holds (sym six) refl
    ]

all_weights_few : (k : ℕ) → 1 ≤ k → k ≤ 6 → sum (weights k) ≤ 582
all_weights_few k some few =
    let Holds : ℕ → Type 0 = λ n. sum (weights n) ≤ 582 in
    elim (six_cases k some few) [
      | inl one ↦ subst Holds (sym one) (omega arith)
      | inr (inl two) ↦ subst Holds (sym two) (omega arith)
      | inr (inr (inl three)) ↦ subst Holds (sym three) (omega arith)
      | inr (inr (inr (inl four))) ↦ subst Holds (sym four) (omega arith)
      | inr (inr (inr (inr (inl five)))) ↦ subst Holds (sym five) (omega arith)
      | inr (inr (inr (inr (inr six)))) ↦ subst Holds (sym six) (omega arith)
    ]

-- the weights of some channels are at most 582 in all
pub few_weights : (k c : ℕ) → 1 ≤ k → k ≤ 6 → sum (take c (weights k)) ≤ 582
few_weights k c some few =
    let part = sum_by-take-le (λ (w : ℕ). w) (weights k) c in let all = all_weights_few k some few in omega (arith, part, all)

-- a sound has an energy for each whole segment
pub length-energies : (depth frames : ℕ) (lists : List (List ℤ)) → length (energies depth frames lists) ≡ frames / SEGMENT_FRAMES
length-energies depth frames lists = length-first_energies depth (frames / SEGMENT_FRAMES) lists

-- no energy of a sound is above the greatest
pub energies_within : (depth frames : ℕ) (lists : List (List ℤ)) → 1 ≤ length lists → length lists ≤ 6
    → All (λ e. e ≤ GREATEST_ENERGY) (energies depth frames lists)
energies_within depth frames lists some few =
    let n = frames / SEGMENT_FRAMES in
    All-from_get_or (λ (e : ℕ). e ≤ GREATEST_ENERGY) (first_energies depth n lists) 0
    (λ j below.
    let whole = length-first_energies depth n lists in
    let ws = weights (length lists) in
    let value = first_energies-get_or depth n j lists (omega (arith, below, whole)) in
    let bound = energy_over_within depth ws lists j in
    let weighed = all_weights_few (length lists) some few in
    let least = mul-le (sum ws) (SEGMENT_FRAMES * 2 ^ 60) 582 (SEGMENT_FRAMES * 2 ^ 60) weighed (omega arith) in
    omega (arith, value, bound, least))
