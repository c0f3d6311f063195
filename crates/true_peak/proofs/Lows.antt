-- Samples that can't raise a peak.
use Rattle.std.proofs.Common.{◌≡◌, ◌≤◌, ◌<◌, ◌+◌, ◌*◌, ◌∙◌, ℕ, zero, suc, ℤ, pos, ◌+ℤ◌, ◌*ℤ◌, List, [], ◌∷◌, take, max, sym, subst, arith, lit≤, unsigned_abs}
use Rattle.std.specs.List.{All}
use Rattle.std.proofs.lemmas.Int.{ints, unsigned_abs-mul}
use Rattle.std.proofs.lemmas.List.{take-take}
use Rattle.std.proofs.lemmas.List.Elements.{All-nil, All-cons, All-take}
use Rattle.std.proofs.lemmas.Nat.{mul-le}
use Rattle.sound_model.specs.Peaks.{first_phase, second_phase, third_phase, fourth_phase}
use Rattle.true_peak.specs.Windows.{dot, size_after}

-- the sizes of taps, summed
abbrev pub weight_of : List ℤ → ℕ
weight_of [] = 0
weight_of (tap ∷ taps) = unsigned_abs tap + weight_of taps

size-add : (a b : ℤ) → unsigned_abs (a +ℤ b) ≤ unsigned_abs a + unsigned_abs b
size-add a b = grind (arith, ints)

-- a value with these others can't raise the peak
abbrev pub Low : ℕ → ℤ → Type 0
Low greatest v = 16571 * unsigned_abs v ≤ greatest

dot_below : (taps values : List ℤ) (greatest : ℕ) → All (Low greatest) values → 16571 * unsigned_abs (dot taps values) ≤ weight_of taps * greatest
unfolding dot
dot_below [] values greatest low = omega arith
dot_below (tap ∷ taps) [] greatest low = omega arith
dot_below (tap ∷ taps) (v ∷ values) greatest low =
    let head : 16571 * unsigned_abs v ≤ greatest = low 0 (pos 0) (omega arith) in
    let rest = dot_below taps values greatest (λ k d inside. low (suc k) d (omega (arith, inside))) in
    let apart = unsigned_abs-mul tap v in
    let product = mul-le (unsigned_abs tap) (16571 * unsigned_abs v) (unsigned_abs tap) greatest (omega arith) head in
    let both = size-add (tap *ℤ v) (dot taps values) in
    omega (arith, head, rest, apart, product, both)

phase_below : (size weight greatest : ℕ) → 16571 * size ≤ weight * greatest → weight ≤ 16571 → size ≤ greatest
phase_below size weight greatest below light =
    let most = mul-le weight greatest 16571 greatest light (omega arith) in
    omega (arith, below, most)

max_below : (a b c d e g : ℕ) → a ≤ g → b ≤ g → c ≤ g → d ≤ g → e ≤ g → g ≡ max g (max a (max (max b c) (max d e)))
max_below a b c d e g ha hb hc hd he = omega arith

-- where a sample and those before it are low, the peak stays
pub low_stays : (x : ℤ) (history : List ℤ) (greatest : ℕ) → Low greatest x → All (Low greatest) history → greatest ≡ max greatest (size_after x history)
low_stays x history greatest low_x low =
    let all = All-cons (Low greatest) x history low_x low in
    let below = λ (taps : List ℤ) (light : weight_of taps ≤ 16571).
    phase_below (unsigned_abs (dot taps (x ∷ history))) (weight_of taps) greatest (dot_below taps (x ∷ history) greatest all) light in
    max_below (8192 * unsigned_abs x) (unsigned_abs (dot first_phase (x ∷ history))) (unsigned_abs (dot second_phase (x ∷ history)))
    (unsigned_abs (dot third_phase (x ∷ history))) (unsigned_abs (dot fourth_phase (x ∷ history))) greatest
    (omega arith) (below first_phase (lit≤ tt)) (below second_phase (lit≤ tt)) (below third_phase (lit≤ tt)) (below fourth_phase (lit≤ tt))

-- the last samples that are low, with one more
pub low_more : (x : ℤ) (xs : List ℤ) (g g' q n : ℕ) → All (Low g) (take q xs) → n ≤ q + 1 → n ≤ 11 → (0 < n → Low g x) → g ≤ g'
    → All (Low g') (take n (x ∷ take 10 xs))
low_more x xs g g' q zero low more few some rise = All-nil (Low g')
low_more x xs g g' q (suc m) low more few some rise =
    let first : Low g x = some (omega arith) in
    let front : take m (take 10 xs) ≡ take m (take q xs) =
    take-take m 10 xs (omega (arith, few)) ∙ sym (take-take m q xs (omega (arith, more))) in
    let Lows : List ℤ → Type 0 = λ ys. All (Low g) ys in
    let rest = subst Lows (sym front) (All-take (Low g) m (take q xs) low) in
    λ k d inside. omega (arith, All-cons (Low g) x (take m (take 10 xs)) first rest k d inside, rise)
