-- Energies of channels, added up one channel after another.
use Rattle.std.proofs.Common.{◌≡◌, ◌≤◌, ◌<◌, ◌+◌, ◌*◌, ◌^◌, ℕ, List, [], ◌∷◌, ◌++◌, take, length, get_or, replicate, sum, length-take, ◌/◌, ap, ◌∙◌, sym, arith}
use Rattle.std.specs.Prelude.{ℤ}
use Rattle.std.proofs.lemmas.List.{take_more, take_all, ext_get_or, length-replicate, get_or-replicate}
use Rattle.std.proofs.lemmas.Nat.{mul-le}
use Rattle.lib_base.specs.declared.limits.TheConstants.{GREATEST_ENERGY, SEGMENT_FRAMES}
use Rattle.sound_model.specs.Weighted.{weighted}
use Rattle.sound_model.specs.Segments.{segment_energy, first_segments, segments_of, energy_over, first_energies, energies, weights}
use Rattle.sound_model.proofs.EnergyBounds.{length-weighted, energy_over_within, length-first_segments, first_segments-get_or, length-first_energies, first_energies-get_or, length-weights, few_weights}
use Rattle.measure_pool.specs.Totals.{partial_energy, AreTotals}

energy_over-push : (depth : ℕ) (ws : List ℕ) (lists : List (List ℤ)) (w : ℕ) (samples : List ℤ) (j : ℕ) → length ws ≡ length lists
    → energy_over depth (ws ++ w ∷ []) (lists ++ samples ∷ []) j ≡ energy_over depth ws lists j + w * segment_energy (weighted depth samples) j
energy_over-push depth [] [] w samples j same = omega arith
energy_over-push depth [] (xs ∷ lists) w samples j same = absurd (omega (arith, same))
energy_over-push depth (v ∷ ws) [] w samples j same = absurd (omega (arith, same))
energy_over-push depth (v ∷ ws) (xs ∷ lists) w samples j same =
    let rest = energy_over-push depth ws lists w samples j (omega (arith, same)) in omega (arith, rest)

-- one channel more
pub partial_energy_more : (depth : ℕ) (ws : List ℕ) (lists : List (List ℤ)) (c j : ℕ) → length ws ≡ length lists → c < length lists
    → partial_energy depth ws lists (c + 1) j
    ≡ partial_energy depth ws lists c j + get_or ws c 0 * segment_energy (weighted depth (get_or lists c [])) j
partial_energy_more depth ws lists c j same below =
    let front = length-take c ws in
    let lists_front = length-take c lists in
    ap (λ (vs : List ℕ). energy_over depth vs (take (c + 1) lists) j) (take_more ws c 0 (omega (arith, same, below)))
    ∙ ap (λ (xss : List (List ℤ)). energy_over depth (take c ws ++ get_or ws c 0 ∷ []) xss j) (take_more lists c [] below)
    ∙ energy_over-push depth (take c ws) (take c lists) (get_or ws c 0) (get_or lists c []) j (omega (arith, front, lists_front, same))

-- totals over all channels are the energies
pub totals_are_energies : (depth frames : ℕ) (lists : List (List ℤ)) (totals : List ℕ) → 1 ≤ length lists → length lists ≤ 6
    → length totals ≡ frames / SEGMENT_FRAMES → AreTotals depth lists (length lists) totals → totals ≡ energies depth frames lists
totals_are_energies depth frames lists totals some few whole are =
    let n = frames / SEGMENT_FRAMES in
    ext_get_or 0 totals (first_energies depth n lists) (whole ∙ sym (length-first_energies depth n lists))
    (λ j below.
    let all_weights = take_all (length lists) (weights (length lists)) (let count = length-weights (length lists) some few in omega (arith, count)) in
    are j below ∙ ap (λ (ws : List ℕ). energy_over depth ws (take (length lists) lists) j) all_weights
    ∙ ap (λ (xss : List (List ℤ)). energy_over depth (weights (length lists)) xss j) (take_all (length lists) lists (omega arith))
    ∙ sym (first_energies-get_or depth n j lists (omega (arith, below, whole))))

-- the energies of one channel, at a place
channel_energy : (depth frames j : ℕ) (samples : List ℤ) (one : List ℕ) → length samples ≡ frames → one ≡ segments_of (weighted depth samples)
    → j < frames / SEGMENT_FRAMES → get_or one j 0 ≡ segment_energy (weighted depth samples) j
channel_energy depth frames j samples one whole is below =
    let values = weighted depth samples in
    let count = length-weighted depth samples in
    let within : j < length values / SEGMENT_FRAMES = omega (arith, count, whole, below) in
    ap (λ (energies : List ℕ). get_or energies j 0) is ∙ first_segments-get_or (length values / SEGMENT_FRAMES) j values within

pub length-channel : (depth frames : ℕ) (samples : List ℤ) (one : List ℕ) → length samples ≡ frames → one ≡ segments_of (weighted depth samples)
    → length one ≡ frames / SEGMENT_FRAMES
length-channel depth frames samples one whole is =
    ap length is ∙ length-first_segments (length (weighted depth samples) / SEGMENT_FRAMES) (weighted depth samples)
    ∙ ap (λ (n : ℕ). n / SEGMENT_FRAMES) (length-weighted depth samples ∙ whole)

-- a total and the next channel's energy, with its weight, are the total over one channel more
next_total : (depth frames c j weight : ℕ) (lists : List (List ℤ)) (totals one : List ℕ) → 1 ≤ length lists → length lists ≤ 6 → c < length lists
    → length totals ≡ frames / SEGMENT_FRAMES → AreTotals depth lists c totals → length (get_or lists c []) ≡ frames
    → one ≡ segments_of (weighted depth (get_or lists c [])) → weight ≡ get_or (weights (length lists)) c 0 → j < length totals
    → get_or totals j 0 + weight * get_or one j 0 ≡ partial_energy depth (weights (length lists)) lists (c + 1) j
next_total depth frames c j weight lists totals one some few channel whole are long one_is weight_is below =
    let ws = weights (length lists) in
    let samples = get_or lists c [] in
    let energy = channel_energy depth frames j samples one long one_is (omega (arith, below, whole)) in
    ap (λ (total : ℕ). total + weight * get_or one j 0) (are j below)
    ∙ ap (λ (e : ℕ). partial_energy depth ws lists c j + weight * e) energy
    ∙ ap (λ (w : ℕ). partial_energy depth ws lists c j + w * segment_energy (weighted depth samples) j) weight_is
    ∙ sym (partial_energy_more depth ws lists c j (length-weights (length lists) some few) channel)

pub totals_within : (depth frames c weight : ℕ) (lists : List (List ℤ)) (totals one : List ℕ) → 1 ≤ length lists → length lists ≤ 6 → c < length lists
    → length totals ≡ frames / SEGMENT_FRAMES → AreTotals depth lists c totals → length (get_or lists c []) ≡ frames
    → one ≡ segments_of (weighted depth (get_or lists c [])) → weight ≡ get_or (weights (length lists)) c 0
    → (j : ℕ) → j < length totals → get_or totals j 0 + weight * get_or one j 0 ≤ GREATEST_ENERGY
totals_within depth frames c weight lists totals one some few channel whole are long one_is weight_is j below =
    let ws = weights (length lists) in
    let next = next_total depth frames c j weight lists totals one some few channel whole are long one_is weight_is below in
    let bound = energy_over_within depth (take (c + 1) ws) (take (c + 1) lists) j in
    let weighed = few_weights (length lists) (c + 1) some few in
    let least = mul-le (sum (take (c + 1) ws)) (SEGMENT_FRAMES * 2 ^ 60) 582 (SEGMENT_FRAMES * 2 ^ 60) weighed (omega arith) in
    omega (arith, next, bound, least)

pub more_totals : (depth frames c weight : ℕ) (lists : List (List ℤ)) (totals one new : List ℕ) → 1 ≤ length lists → length lists ≤ 6 → c < length lists
    → length totals ≡ frames / SEGMENT_FRAMES → AreTotals depth lists c totals → length (get_or lists c []) ≡ frames
    → one ≡ segments_of (weighted depth (get_or lists c [])) → weight ≡ get_or (weights (length lists)) c 0 → length new ≡ length totals
    → ((j : ℕ) → j < length totals → get_or new j 0 ≡ get_or totals j 0 + weight * get_or one j 0)
    → AreTotals depth lists (c + 1) new
more_totals depth frames c weight lists totals one new some few channel whole are long one_is weight_is same sums =
    λ j below.
    let before : j < length totals = omega (arith, below, same) in
    sums j before ∙ next_total depth frames c j weight lists totals one some few channel whole are long one_is weight_is before

-- zeros are the totals over no channel
pub no_totals : (depth n : ℕ) (lists : List (List ℤ)) (totals : List ℕ) → totals ≡ replicate n 0 → AreTotals depth lists 0 totals
no_totals depth n lists totals zeros =
    λ j below.
    let count = length-replicate {A = ℕ} n 0 in
    let same = ap length zeros in
    ap (λ (ts : List ℕ). get_or ts j 0) zeros ∙ get_or-replicate n j 0 0 (omega (arith, below, same, count))
