-- Sums of neighbouring energies.
use Rattle.std.proofs.Common.{◌≡◌, ◌≤◌, ◌<◌, ◌+◌, ◌*◌, ℕ, suc, true, false, List, [], ◌∷◌, ◌++◌, length, take, drop, cond, length-take, length-drop, append_assoc, refl, sym, ap, ◌∙◌, arith}
use Rattle.std.specs.Prelude.{nat_le}
use Rattle.std.specs.List.{All, sum}
use Rattle.std.proofs.Math.Nat.{mul-le-mul_right}
use Rattle.std.proofs.lemmas.Bool.Decides.{nat_tests}
use Rattle.std.proofs.lemmas.List.{drop-drop}
use Rattle.std.proofs.lemmas.List.Elements.{All-take, All-drop, All-nil, All-cons, All-tail}
use Rattle.std.proofs.lemmas.List.Sums.{sum_by-le}
use Rattle.lib_base.specs.Sounds.{part}
use Rattle.sound_model.specs.Blocks.{neighbour_sums}

-- so many energies, each within a bound, sum to no more than so many times the bound
pub sum-part-le : (most count place : ℕ) (xs : List ℕ) → All (λ e. e ≤ most) xs → sum (part xs place count) ≤ count * most
sum-part-le most count place xs within =
    let Within : ℕ → Type 0 = λ e. e ≤ most in
    let piece = part xs place count in
    let few : length piece ≤ count = omega (arith, length-take count (drop place xs)) in
    let bound = sum_by-le (λ x. x) most piece (All-take Within count (drop place xs) (All-drop Within place xs within)) in
    let more = mul-le-mul_right most few in
    omega (arith, bound, more)

-- where there are enough energies, the first sum is that of the first ones
neighbour_sums-first : (count : ℕ) (xs : List ℕ) → 0 < count → count ≤ length xs
    → neighbour_sums count xs ≡ sum (take count xs) ∷ neighbour_sums count (drop 1 xs)
neighbour_sums-first count [] some enough = absurd (omega (arith, some, enough))
neighbour_sums-first count (e ∷ es) some enough =
    let test : nat_le count (length (e ∷ es)) ≡ true = grind (arith, nat_tests, enough) in
    ap (λ b. cond b (sum (take count (e ∷ es)) ∷ neighbour_sums count es) []) test

-- where there are too few, there is none
pub neighbour_sums-none : (count : ℕ) (xs : List ℕ) → length xs < count → neighbour_sums count xs ≡ []
neighbour_sums-none count [] few = refl
neighbour_sums-none count (e ∷ es) few =
    let test : nat_le count (length (e ∷ es)) ≡ false = grind (arith, nat_tests, few) in
    ap (λ b. cond b (sum (take count (e ∷ es)) ∷ neighbour_sums count es) []) test

-- the sums from a place on are the one there and those from the next place on
pub neighbour_sums-drop : (count place : ℕ) (xs : List ℕ) → 0 < count → place + count ≤ length xs
    → neighbour_sums count (drop place xs) ≡ sum (part xs place count) ∷ neighbour_sums count (drop (place + 1) xs)
neighbour_sums-drop count place xs some enough =
    let left = length-drop place xs in
    neighbour_sums-first count (drop place xs) some (omega (arith, left))
    ∙ ap (λ rest. sum (part xs place count) ∷ neighbour_sums count rest) (drop-drop 1 place xs)

-- the sums before a place, and the one there
pub sums-grow : (count place : ℕ) (xs sums more : List ℕ) (next : ℕ) → 0 < count → place + count ≤ length xs
    → neighbour_sums count xs ≡ sums ++ neighbour_sums count (drop place xs) → next ≡ sum (part xs place count)
    → more ≡ sums ++ next ∷ [] → neighbour_sums count xs ≡ more ++ neighbour_sums count (drop (place + 1) xs)
sums-grow count place xs sums more next some inside so_far is_next grown =
    let rest = neighbour_sums count (drop (place + 1) xs) in
    let step = neighbour_sums-drop count place xs some inside ∙ ap (λ s. s ∷ rest) (sym is_next) in
    so_far ∙ ap (λ (back : List ℕ). sums ++ back) step ∙ sym (append_assoc sums (next ∷ []) rest) ∙ ap (λ (front : List ℕ). front ++ rest) (sym grown)

-- there are no more sums than energies
pub length-neighbour_sums : (count : ℕ) (xs : List ℕ) → length (neighbour_sums count xs) ≤ length xs
length-neighbour_sums count [] = omega arith
length-neighbour_sums count (e ∷ es) =
    let rest = length-neighbour_sums count es in
    elim (nat_le count (length (e ∷ es))) as (λ b. length (cond b (sum (take count (e ∷ es)) ∷ neighbour_sums count es) []) ≤ suc (length es)) [
      | true ↦ omega (arith, rest)
      | false ↦ omega arith
    ]

-- sums of so many energies, each within a bound, are within so many times the bound
pub All-neighbour_sums : (most count : ℕ) (xs : List ℕ) → All (λ e. e ≤ most) xs → All (λ z. z ≤ count * most) (neighbour_sums count xs)
All-neighbour_sums most count [] within = All-nil (λ z. z ≤ count * most)
All-neighbour_sums most count (e ∷ es) within =
    let Sums : ℕ → Type 0 = λ z. z ≤ count * most in
    let first : sum (take count (e ∷ es)) ≤ count * most = sum-part-le most count 0 (e ∷ es) within in
    let rest = All-neighbour_sums most count es (All-tail (λ x. x ≤ most) e es within) in
    elim (nat_le count (length (e ∷ es))) as (λ b. All Sums (cond b (sum (take count (e ∷ es)) ∷ neighbour_sums count es) [])) [
      | true ↦ All-cons Sums (sum (take count (e ∷ es))) (neighbour_sums count es) first rest
      | false ↦ All-nil Sums
    ]
