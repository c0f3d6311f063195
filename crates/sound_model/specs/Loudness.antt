-- Gated loudness, in hundredths of LUFS (BS.1770-4 Annex 1; the offset of -0.691 dB in fixed point, the strict gates and the mean that
-- is rounded down are the library's own).
use Rattle.std.specs.Prelude.{◌≡◌, ◌*◌, ◌/◌, ◌^◌, ◌==◌, ℕ, ℤ, Bool, List, [], ◌∷◌, length, sum, filter, max, nat_lt, Option, None, Some, if◌then◌else◌, ⊤}
use Rattle.lib_base.specs.declared.limits.TheConstants.{FULL_POWER}
use Rattle.sound_model.specs.Levels.{IsLevel, hundredths}

-- both absent, or both there and related
abbrev pub IfThere : {A B : Type 0} → (A → B → Type 0) → Option A → Option B → Type 0
IfThere R None None = ⊤
IfThere R None (Some y) = ⊥
IfThere R (Some x) None = ⊥
IfThere R (Some x) (Some y) = R x y

-- The loudness of a block's energy. The energy is 1,920,000 times the block's mean power (19,200 frames, weights in hundredths), and
-- 10^7 / 1,920,000 is 125/24.
pub record IsBlockLevel (energy : ℕ) (loudness : ℤ) : Type 0 where
  pub level : ℤ
  pub of_ratio : IsLevel (125 * energy) (24 * FULL_POWER) level
  pub rounded : loudness ≡ hundredths level

-- The loudness of a window's energy, which is 14,400,000 times its mean power (144,000 frames): 10^7 / 14,400,000 is 25/36.
pub record IsWindowLevel (energy : ℕ) (loudness : ℤ) : Type 0 where
  pub level : ℤ
  pub of_ratio : IsLevel (25 * energy) (36 * FULL_POWER) level
  pub rounded : loudness ≡ hundredths level

-- a block is above the absolute threshold, -70 LUFS: 10^-7 of the power for 0 LUFS
unfoldable pub is_audible : ℕ → Bool
is_audible energy = nat_lt (24 * FULL_POWER) (125 * 10 ^ 7 * energy)

-- a block is above the relative threshold, the mean of these less 10 LU
unfoldable pub is_near : List ℕ → ℕ → Bool
is_near blocks energy = nat_lt (sum blocks) (10 * length blocks * energy)

-- the blocks that pass both gates: of those above the absolute threshold, those above the relative one, their mean less 10 LU
abbrev pub gated : List ℕ → List ℕ
gated blocks = let audible = filter is_audible blocks in filter (is_near audible) audible

-- the mean of energies, rounded down
abbrev pub mean : List ℕ → Option ℕ
mean [] = None
mean (e ∷ es) = Some (sum (e ∷ es) / length (e ∷ es))

-- the loudness of blocks: that of the mean of those that pass both gates, absent where none does
abbrev pub IsLoudness : List ℕ → Option ℤ → Type 0
IsLoudness blocks loudness = IfThere IsBlockLevel (mean (gated blocks)) loudness

-- the greatest of energies, 0 where there is none
abbrev pub greatest : List ℕ → ℕ
greatest [] = 0
greatest (e ∷ es) = max e (greatest es)

-- a number, absent where it is 0
abbrev pub above_zero : ℕ → Option ℕ
above_zero n = if n == 0 then None else Some n
