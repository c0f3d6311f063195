-- Tests by a quotient that is rounded up.
use Rattle.std.proofs.Common.{◌≡◌, ◌<◌, ◌≤◌, ◌+◌, ◌*◌, ◌^◌, ℕ, List, length, max, nat_le, true, refl, sym, ap, ◌∙◌, arith, inl, inr, ◌⊎◌}
use Rattle.std.specs.Prelude.{◌&&◌, sum}
use Rattle.std.proofs.lemmas.Bool.{cases_lt}
use Rattle.std.proofs.lemmas.Bool.Decides.{nat_tests}
use Rattle.std.proofs.Math.Nat.{mul-le-mul_right}
use Rattle.lib_base.specs.declared.limits.TheConstants.{FULL_POWER}
use Rattle.sound_model.specs.Ranges.{is_window_audible, is_window_near}

-- a number is reached by so many times another exactly where the quotient, rounded up, is reached by the other
pub ceiling_reached : (c d s e : ℕ) → s ≤ c * d → c * d < s + d → nat_le c e ≡ nat_le s (d * e)
ceiling_reached c d s e enough least = cases (cases_lt e c)
  where
    cases : (e < c) ⊎ (c ≤ e) → nat_le c e ≡ nat_le s (d * e)
    cases (inl less) =
        let more : (e + 1) * d ≤ c * d = mul-le-mul_right d (omega arith) in
        let below : d * e < s = omega (arith, more, least) in
        grind (arith, nat_tests, less, below)
    cases (inr no_less) =
        let more : c * d ≤ e * d = mul-le-mul_right d no_less in
        let reached : s ≤ d * e = omega (arith, more, enough) in
        grind (arith, nat_tests, no_less, reached)

-- the greater of two is reached exactly where both are
pub max_reached : (a b e : ℕ) → nat_le (max a b) e ≡ (nat_le b e && nat_le a e)
max_reached a b e = grind (arith, nat_tests)

-- the quotient of two, rounded up, is within what bounds it
pub ceiling_within : (c n s most : ℕ) → c * (100 * n) < s + 100 * n → s ≤ n * most → 0 < n → 0 < most → c ≤ most
ceiling_within c n s most least within some above = cases (cases_lt most c)
  where
    cases : (most < c) ⊎ (c ≤ most) → c ≤ most
    cases (inl more) =
        let scaled : (most + 1) * (100 * n) ≤ c * (100 * n) = mul-le-mul_right (100 * n) (omega arith) in
        absurd (omega (arith, scaled, least, within))
    cases (inr within_it) = within_it

-- the least energy of a window from -70 LUFS on
abbrev pub least_audible : ℕ
least_audible = 30414610299944660

audible_reached : (e : ℕ) → nat_le least_audible e ≡ is_window_audible e
unfolding is_window_audible
audible_reached e = ceiling_reached least_audible (125 * 10 ^ 7) (180 * FULL_POWER) e (omega arith) (omega arith)

-- what reaches the greater of both bounds passes both gates
pub near_reached : (audible : List ℕ) (e bound near count total : ℕ) → bound ≡ max near least_audible → count ≡ length audible → total ≡ sum audible
    → nat_le near e ≡ nat_le total (100 * count * e) → nat_le bound e ≡ (is_window_audible e && is_window_near audible e)
unfolding is_window_near
near_reached audible e bound near count total is counted summed passes =
    ap (λ n. nat_le n e) is ∙ max_reached near least_audible e
    ∙ rw (audible_reached e, passes, counted, summed) refl

-- and is audible
pub audible_from : (bound near e : ℕ) → bound ≡ max near least_audible → bound ≤ e → is_window_audible e ≡ true
audible_from bound near e is reached = sym (audible_reached e) ∙ at (omega arith)
  where
    at : least_audible ≤ e → nat_le least_audible e ≡ true
    at within = grind (arith, nat_tests, within)
