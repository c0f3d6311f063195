-- The greatest size at a place, from its parts.
use Rattle.std.proofs.Common.{◌≡◌, ◌∙◌, ◌*◌, ℕ, ℤ, List, ◌∷◌, ap, max, unsigned_abs}
use Rattle.sound_model.specs.Peaks.{first_phase, second_phase, third_phase, fourth_phase}
use Rattle.true_peak.specs.Windows.{dot, size_after}

pub size_of_parts : (x : ℤ) (window history : List ℤ) (own a b c d outer inner rest total : ℕ) → window ≡ x ∷ history → own ≡ unsigned_abs x
    → a ≡ unsigned_abs (dot first_phase window) → b ≡ unsigned_abs (dot second_phase window)
    → c ≡ unsigned_abs (dot third_phase window) → d ≡ unsigned_abs (dot fourth_phase window)
    → outer ≡ max a b → inner ≡ max c d → rest ≡ max outer inner → total ≡ max (8192 * own) rest
    → total ≡ size_after x history
size_of_parts x window history own a b c d outer inner rest total is_window is_own is_a is_b is_c is_d is_outer is_inner is_rest is_total =
    let at = λ (taps : List ℤ). ap (λ (ws : List ℤ). unsigned_abs (dot taps ws)) is_window in
    let first = unsigned_abs (dot first_phase (x ∷ history)) in
    let third = unsigned_abs (dot third_phase (x ∷ history)) in
    let outer_is : outer ≡ max first (unsigned_abs (dot second_phase (x ∷ history))) =
    is_outer ∙ ap (λ (n : ℕ). max n b) (is_a ∙ at first_phase) ∙ ap (λ (n : ℕ). max first n) (is_b ∙ at second_phase) in
    let inner_is : inner ≡ max third (unsigned_abs (dot fourth_phase (x ∷ history))) =
    is_inner ∙ ap (λ (n : ℕ). max n d) (is_c ∙ at third_phase) ∙ ap (λ (n : ℕ). max third n) (is_d ∙ at fourth_phase) in
    is_total ∙ ap (λ (n : ℕ). max (8192 * n) rest) is_own
    ∙ ap (λ (n : ℕ). max (8192 * unsigned_abs x) n)
    (is_rest ∙ ap (λ (n : ℕ). max n inner) outer_is
    ∙ ap (λ (n : ℕ). max (max first (unsigned_abs (dot second_phase (x ∷ history)))) n) inner_is)
