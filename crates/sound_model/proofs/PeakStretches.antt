-- Stretches of places, and channels, put together.
use Rattle.std.proofs.Common.{◌≡◌, ◌≤◌, ◌<◌, ◌+◌, ◌-◌, ◌∙◌, ℕ, zero, suc, List, [], ◌∷◌, ◌++◌, take, length, get_or, max, ap, arith}
use Rattle.std.specs.Prelude.{ℤ}
use Rattle.std.proofs.lemmas.List.{take_more}
use Rattle.lib_base.specs.declared.limits.TheConstants.{PEAK_REACH}
use Rattle.sound_model.specs.Peaks.{peak_at, peak_from, peak_over, peak_of}

joined_max : (a b c : ℕ) → max (max a b) c ≡ max a (max b c)
joined_max a b c = omega arith

max-zero : (a : ℕ) → a ≡ max a 0
max-zero a = omega arith

peak_from-add : (depth : ℕ) (samples : List ℤ) (first m n : ℕ)
    → peak_from depth samples first (m + n) ≡ max (peak_from depth samples first m) (peak_from depth samples (first + m) n)
peak_from-add depth samples first m zero =
    let none : m + 0 ≡ m = omega arith in
    ap (λ (k : ℕ). peak_from depth samples first k) none ∙ max-zero (peak_from depth samples first m)
peak_from-add depth samples first m (suc n) =
    let longer : m + suc n ≡ suc (m + n) = omega arith in
    let place : first + (m + n) ≡ (first + m) + n = omega arith in
    let here = peak_at depth samples ((first + m) + n) in
    ap (λ (k : ℕ). peak_from depth samples first k) longer
    ∙ ap (λ (k : ℕ). max (peak_from depth samples first (m + n)) (peak_at depth samples k)) place
    ∙ ap (λ (k : ℕ). max k here) (peak_from-add depth samples first m n)
    ∙ joined_max (peak_from depth samples first m) (peak_from depth samples (first + m) n) here

-- the peak over two stretches that meet is the greater one of theirs
pub peak_over-join : (depth : ℕ) (samples : List ℤ) (from middle to : ℕ) → from ≤ middle → middle ≤ to
    → peak_over depth samples from to ≡ max (peak_over depth samples from middle) (peak_over depth samples middle to)
peak_over-join depth samples from middle to before after =
    let parts : to - from ≡ (middle - from) + (to - middle) = omega arith in
    let meets : from + (middle - from) ≡ middle = omega arith in
    ap (λ (k : ℕ). peak_from depth samples from k) parts ∙ peak_from-add depth samples from (middle - from) (to - middle)
    ∙ ap (λ (k : ℕ). max (peak_from depth samples from (middle - from)) (peak_from depth samples k (to - middle))) meets

peak_of-push : (depth frames : ℕ) (lists : List (List ℤ)) (samples : List ℤ)
    → peak_of depth frames (lists ++ samples ∷ []) ≡ max (peak_of depth frames lists) (peak_over depth samples 0 (frames + PEAK_REACH))
peak_of-push depth frames [] samples = omega arith
peak_of-push depth frames (first ∷ lists) samples = let rest = peak_of-push depth frames lists samples in omega (arith, rest)

-- one channel more raises the peak to its own, where that is greater
pub peak_of-step : (depth frames : ℕ) (lists : List (List ℤ)) (c most own next : ℕ) → c < length lists
    → most ≡ peak_of depth frames (take c lists) → own ≡ peak_over depth (get_or lists c []) 0 (frames + PEAK_REACH) → next ≡ max most own
    → next ≡ peak_of depth frames (take (c + 1) lists)
peak_of-step depth frames lists c most own next below was value is =
    rw (take_more lists c [] below, peak_of-push depth frames (take c lists) (get_or lists c []), ← was, ← value) is
