-- Blocks that pass the gates.
use Rattle.std.proofs.Common.{◌≡◌, ◌≤◌, ◌<◌, ◌+◌, ◌*◌, ◌/◌, ℕ, Bool, true, false, List, [], ◌∷◌, ◌++◌, length, length-append, nat_lt, take, cond, refl, sym, ap, ◌∙◌, Some, None, arith}
use Rattle.std.specs.Prelude.{filter, sum, ◌&&◌}
use Rattle.std.proofs.Math.Nat.{div-le_of_le-mul}
use Rattle.std.proofs.lemmas.Nat.{le-div}
use Rattle.std.proofs.lemmas.List.{take_all}
use Rattle.std.proofs.lemmas.List.Sums.{sum_by-append}
use Rattle.sound_model.specs.Loudness.{is_audible, is_near, mean}
use Rattle.gate_blocks.specs.Bounds.{IsTallyOf}

-- a filter of a filter keeps what passes both tests
filter-filter : (p q : ℕ → Bool) (xs : List ℕ) → filter q (filter p xs) ≡ filter (λ x. p x && q x) xs
filter-filter p q [] = refl
filter-filter p q (x ∷ xs) =
    let rest = filter-filter p q xs in
    elim (p x) as (λ b. filter q (cond b (x ∷ filter p xs) (filter p xs)) ≡ cond (b && q x) (x ∷ filter (λ y. p y && q y) xs) (filter (λ y. p y && q y) xs)) [
      | true ↦ ap (λ (ys : List ℕ). cond (q x) (x ∷ ys) ys) rest
      | false ↦ rest
    ]

-- a tally of one list and one of another make one of both
pub tally-append : (xs ys : List ℕ) (count total more_count more_total : ℕ) → IsTallyOf xs count total → IsTallyOf ys more_count more_total
    → IsTallyOf (xs ++ ys) (count + more_count) (total + more_total)
tally-append xs ys count total more_count more_total one other =
    let counted = one.counted in let counted_more = other.counted in let summed = one.summed in let summed_more = other.summed in
    record {
      counted = omega (arith, length-append xs ys);
      summed = omega (arith, sum_by-append (λ e. e) xs ys);
    }

-- the second gate, by the count and the sum of what passed the first
near_from_tally : (counted xs : List ℕ) (count total : ℕ) → IsTallyOf counted count total
    → filter (λ e. is_audible e && nat_lt total (10 * count * e)) xs ≡ filter (is_near counted) (filter is_audible xs)
unfolding is_near
near_from_tally counted xs count total tally =
    rw (tally.counted, tally.summed) (sym (filter-filter is_audible (λ e. nat_lt (sum counted) (10 * length counted * e)) xs))

-- a tally of all blocks by both tests is one of what passes both gates
pub tally_near : (counted blocks : List ℕ) (n count total near_count near_total : ℕ) → length blocks ≤ n → IsTallyOf counted count total
    → IsTallyOf (filter (λ e. is_audible e && nat_lt total (10 * count * e)) (take n blocks)) near_count near_total
    → IsTallyOf (filter (is_near counted) (filter is_audible blocks)) near_count near_total
tally_near counted blocks n count total near_count near_total all tally near =
    let Near : List ℕ → List ℕ = filter (λ e. is_audible e && nat_lt total (10 * count * e)) in
    let same = ap Near (take_all n blocks all) ∙ near_from_tally counted blocks count total tally in
    record {
      counted = near.counted ∙ ap length same;
      summed = near.summed ∙ ap sum same;
    }

-- the mean of no block is absent
pub mean_of_none : (blocks : List ℕ) (total : ℕ) → IsTallyOf blocks 0 total → mean blocks ≡ None
mean_of_none [] total tally = refl
mean_of_none (e ∷ es) total tally = absurd (let counted = tally.counted in omega arith)

-- the mean of some is their sum over their count
pub mean_of_tally : (blocks : List ℕ) (count total : ℕ) → IsTallyOf blocks count total → (count ≡ 0 → ⊥) → mean blocks ≡ Some (total / count)
mean_of_tally [] count total tally some = absurd (some tally.counted)
mean_of_tally (e ∷ es) count total tally some = rw (tally.counted, tally.summed) refl

-- the mean of blocks with some energy each is above 0
pub mean_positive : (count total : ℕ) → (count ≡ 0 → ⊥) → count ≤ total → 0 < total / count
mean_positive count total some enough = le-div 1 total count (omega (arith, some)) (omega (arith, enough))

-- and within any bound of each
pub mean_within : (count total most : ℕ) → total ≤ count * most → total / count ≤ most
mean_within count total most within = div-le_of_le-mul count within
