-- What the levels of an album obey.
use Rattle.std.proofs.Common.{◌≡◌, ◌≤◌, ◌*◌, ◌+◌, ℕ, zero, suc, ℤ, pos, negsuc, ◌+ℤ◌, ◌≤ℤ◌, ◌<◌, List, [], ◌∷◌, ◌++◌, max, map, Option, Some, None, refl, sym, ap, ◌∙◌, subst, arith, inl, inr, ◌⊎◌}
use Rattle.std.specs.List.{AllZip}
use Rattle.std.specs.Prelude.{All, flat_map}
use Rattle.std.specs.Int.{int_max, int_div_euclid}
use Rattle.std.proofs.lemmas.Bool.{cases_lt}
use Rattle.std.proofs.lemmas.Bool.Decides.{nat_tests}
use Rattle.std.proofs.lemmas.Int.{ints, int_max_is}
use Rattle.std.proofs.lemmas.List.Elements.{All-nil, All-cons, All-weaker}
use Rattle.lib_base.specs.declared.files.Measured.{Measured}
use Rattle.lib_base.specs.declared.files.Summary.{Summary}
use Rattle.lib_base.specs.declared.limits.TheConstants.{FULL_POWER}
use Rattle.sound_model.specs.Albums.{IsAlbumSummary, SummarisesMeasured, album_blocks, album_windows, greater_level, greatest_level}
use Rattle.sound_model.specs.Blocks.{blocks_of, windows_of}
use Rattle.sound_model.specs.Levels.{IsLevel, hundredths}
use Rattle.sound_model.specs.Loudness.{IfThere, IsBlockLevel, IsWindowLevel, above_zero, greatest}
use Rattle.sound_model.proofs.LevelLaws.{level-rises}
use Rattle.sound_model.proofs.SummaryLaws.{Summarises-unique, IfThere-unique, IsBlockLevel-unique, IsWindowLevel-unique}

-- an album has one summary
pub IsAlbumSummary-unique : (recordings : List Measured) (a b : Summary) → IsAlbumSummary recordings a → IsAlbumSummary recordings b → a ≡ b
IsAlbumSummary-unique recordings = Summarises-unique _ _ _ _

-- an album of no recording has frames 0, peak 0 and no level
abbrev pub silent : Summary
silent = record { frames = 0; loudness = None; range = None; momentary = None; short_term = None; true_peak = None; peak = 0; gain = None }

pub IsAlbumSummary-none : (summary : Summary) → IsAlbumSummary [] summary → summary ≡ silent
IsAlbumSummary-none summary is = IsAlbumSummary-unique [] summary silent is (record {
  frames_kept = refl;
  loudness = tt;
  range = tt;
  momentary = tt;
  short_term = tt;
  true_peak = tt;
  peak_kept = refl;
  gain = refl;
})

-- the greatest of energies, some after others
pub greatest-append : (xs ys : List ℕ) → greatest (xs ++ ys) ≡ max (greatest xs) (greatest ys)
greatest-append [] ys = omega arith
greatest-append (x ∷ xs) ys = let rest = greatest-append xs ys in omega (arith, rest)

-- the greatest reaches each
pub greatest-reaches : (es : List ℕ) → All (λ e. e ≤ greatest es) es
greatest-reaches [] = All-nil (λ e. e ≤ 0)
greatest-reaches (e ∷ es) =
    let rest = All-weaker (λ x. x ≤ greatest es) (λ x. x ≤ max e (greatest es)) (λ x below. omega (arith, below)) es (greatest-reaches es) in
    All-cons (λ x. x ≤ max e (greatest es)) e es (omega arith) rest

-- hundredths don't fall where the level rises
hundredths-rises : (x y : ℤ) → x ≤ℤ y → hundredths x ≤ℤ hundredths y
unfolding hundredths
hundredths-rises x y rises = halves (x +ℤ pos 1) (y +ℤ pos 1) (omega (arith, ints, rises))
  where
    halves : (v w : ℤ) → v ≤ℤ w → int_div_euclid v (pos 2) ≤ℤ int_div_euclid w (pos 2)
    halves (pos a) (pos b) rises = omega (arith, ints)
    halves (pos a) (negsuc b) rises = omega (arith, ints)
    halves (negsuc a) (pos b) rises = omega (arith, ints)
    halves (negsuc a) (negsuc b) rises = omega (arith, ints)

-- the loudness of a block, and of a window, doesn't fall where the energy rises
pub IsBlockLevel-rises : (a b : ℕ) (v w : ℤ) → a ≤ b → IsBlockLevel a v → IsBlockLevel b w → v ≤ℤ w
IsBlockLevel-rises a b v w more low high =
    let scaled : 125 * a * (24 * FULL_POWER) ≤ 125 * b * (24 * FULL_POWER) = omega (arith, more) in
    rw (low.rounded, high.rounded)
    (hundredths-rises low.level high.level
    (level-rises (125 * b) (24 * FULL_POWER) (125 * a) (24 * FULL_POWER) high.level low.level high.of_ratio low.of_ratio scaled))

pub IsWindowLevel-rises : (a b : ℕ) (v w : ℤ) → a ≤ b → IsWindowLevel a v → IsWindowLevel b w → v ≤ℤ w
IsWindowLevel-rises a b v w more low high =
    let scaled : 25 * a * (36 * FULL_POWER) ≤ 25 * b * (36 * FULL_POWER) = omega (arith, more) in
    rw (low.rounded, high.rounded)
    (hundredths-rises low.level high.level
    (level-rises (25 * b) (36 * FULL_POWER) (25 * a) (36 * FULL_POWER) high.level low.level high.of_ratio low.of_ratio scaled))

above_zero-suc : (n : ℕ) → above_zero (suc n) ≡ Some (suc n)
above_zero-suc n = grind (arith, nat_tests)

-- of two levels that don't fall where energies rise, the greater one is that of the greater energy
greater-right : (R : ℕ → ℤ → Type 0) → ((a b : ℕ) (v w : ℤ) → a ≤ b → R a v → R b w → v ≤ℤ w)
    → (a b : ℕ) (v w : Option ℤ) → a ≤ b → IfThere R (above_zero a) v → IfThere R (above_zero b) w → greater_level v w ≡ w
greater-right R rises zero b None w less h k = refl
greater-right R rises zero b (Some v) w less h k = absurd h
greater-right R rises (suc a) zero v w less h k = absurd (omega arith)
greater-right R rises (suc a) (suc b) None w less h k = absurd (rw (above_zero-suc a) at h)
greater-right R rises (suc a) (suc b) (Some v) None less h k = absurd (rw (above_zero-suc b) at k)
greater-right R rises (suc a) (suc b) (Some v) (Some w) less h k =
    let up = rises (suc a) (suc b) v w less (rw (above_zero-suc a) at h) (rw (above_zero-suc b) at k) in
    let greater : int_max v w ≡ w = omega (arith, ints, int_max_is v w, up) in ap Some greater

greater-left : (R : ℕ → ℤ → Type 0) → ((a b : ℕ) (v w : ℤ) → a ≤ b → R a v → R b w → v ≤ℤ w)
    → (a b : ℕ) (v w : Option ℤ) → b ≤ a → IfThere R (above_zero a) v → IfThere R (above_zero b) w → greater_level v w ≡ v
greater-left R rises zero zero None None less h k = refl
greater-left R rises zero zero None (Some w) less h k = absurd k
greater-left R rises zero zero (Some v) w less h k = absurd h
greater-left R rises zero (suc b) v w less h k = absurd (omega arith)
greater-left R rises (suc a) b None w less h k = absurd (rw (above_zero-suc a) at h)
greater-left R rises (suc a) b (Some v) None less h k = refl
greater-left R rises (suc a) zero (Some v) (Some w) less h k = absurd k
greater-left R rises (suc a) (suc b) (Some v) (Some w) less h k =
    let down = rises (suc b) (suc a) w v less (rw (above_zero-suc b) at k) (rw (above_zero-suc a) at h) in
    let greater : int_max v w ≡ v = omega (arith, ints, int_max_is v w, down) in ap Some greater

greater-of : (R : ℕ → ℤ → Type 0) → ((a b : ℕ) (v w : ℤ) → a ≤ b → R a v → R b w → v ≤ℤ w)
    → (a b : ℕ) (v w : Option ℤ) → IfThere R (above_zero a) v → IfThere R (above_zero b) w
    → IfThere R (above_zero (max a b)) (greater_level v w)
greater-of R rises a b v w h k = cases (cases_lt a b)
  where
    cases : (a < b) ⊎ (b ≤ a) → IfThere R (above_zero (max a b)) (greater_level v w)
    cases (inl less) =
        let most : max a b ≡ b = omega arith in
        rw (most, greater-right R rises a b v w (omega arith) h k) k
    cases (inr no_less) =
        let most : max a b ≡ a = omega arith in
        rw (most, greater-left R rises a b v w no_less h k) h

-- the greatest level of recordings is that of the greatest energy of all
greatest_level-of : (R : ℕ → ℤ → Type 0) → ((a b : ℕ) (v w : ℤ) → a ≤ b → R a v → R b w → v ≤ℤ w)
    → (energies : Measured → List ℕ) (level : Summary → Option ℤ)
    → ((m : Measured) (s : Summary) → SummarisesMeasured m s → IfThere R (above_zero (greatest (energies m))) (level s))
    → (recordings : List Measured) (own : List Summary) → AllZip SummarisesMeasured recordings own
    → IfThere R (above_zero (greatest (flat_map energies recordings))) (greatest_level (map level own))
greatest_level-of R rises energies level has [] [] all = tt
greatest_level-of R rises energies level has [] (s ∷ own) all = absurd all
greatest_level-of R rises energies level has (m ∷ recordings) [] all = absurd all
greatest_level-of R rises energies level has (m ∷ recordings) (s ∷ own) all =
    let rest = greatest_level-of R rises energies level has recordings own all.1 in
    rw (greatest-append (energies m) (flat_map energies recordings))
    (greater-of R rises (greatest (energies m)) (greatest (flat_map energies recordings)) (level s) (greatest_level (map level own))
    (has m s all.0) rest)

-- an album's momentary loudness is the greatest of its recordings' own
pub momentary_of_recordings : (recordings : List Measured) (own : List Summary) (album : Summary) → AllZip SummarisesMeasured recordings own
    → IsAlbumSummary recordings album → album.momentary ≡ greatest_level (map (λ (s : Summary). s.momentary) own)
momentary_of_recordings recordings own album all is =
    IfThere-unique IsBlockLevel IsBlockLevel-unique (above_zero (greatest (album_blocks recordings))) _ _ is.momentary
    (greatest_level-of IsBlockLevel IsBlockLevel-rises (λ (m : Measured). blocks_of m.energies) (λ (s : Summary). s.momentary)
    (λ m s of. of.momentary) recordings own all)

-- and so is its short-term loudness
pub short_term_of_recordings : (recordings : List Measured) (own : List Summary) (album : Summary) → AllZip SummarisesMeasured recordings own
    → IsAlbumSummary recordings album → album.short_term ≡ greatest_level (map (λ (s : Summary). s.short_term) own)
short_term_of_recordings recordings own album all is =
    IfThere-unique IsWindowLevel IsWindowLevel-unique (above_zero (greatest (album_windows recordings))) _ _ is.short_term
    (greatest_level-of IsWindowLevel IsWindowLevel-rises (λ (m : Measured). windows_of m.energies) (λ (s : Summary). s.short_term)
    (λ m s of. of.short_term) recordings own all)
