-- What is measured has one value.
use Rattle.std.proofs.Common.{◌≡◌, ◌*◌, ◌^◌, ℕ, List, Option, Some, None, refl, ap, ◌∙◌, sym}
use Rattle.std.specs.Prelude.{ℤ, option_map}
use Rattle.lib_base.specs.declared.files.Summary.{Summary}
use Rattle.lib_base.specs.declared.limits.TheConstants.{FULL_POWER}
use Rattle.sound_model.specs.Levels.{hundredths}
use Rattle.sound_model.specs.Loudness.{IfThere, IsBlockLevel, IsWindowLevel, IsLoudness, mean, gated, above_zero, greatest}
use Rattle.sound_model.specs.Summaries.{Summarises, IsPeakLevel, gain_of}
use Rattle.sound_model.proofs.LevelLaws.{level-unique}
use Rattle.sound_model.proofs.RangeLaws.{IsRange-unique}

pub IfThere-unique : {A B : Type 0} (R : A → B → Type 0) → ((a : A) (v w : B) → R a v → R a w → v ≡ w)
    → (o : Option A) (x y : Option B) → IfThere R o x → IfThere R o y → x ≡ y
IfThere-unique R unique None None None h k = refl
IfThere-unique R unique None (Some v) y h k = absurd h
IfThere-unique R unique None None (Some w) h k = absurd k
IfThere-unique R unique (Some a) None y h k = absurd h
IfThere-unique R unique (Some a) (Some v) None h k = absurd k
IfThere-unique R unique (Some a) (Some v) (Some w) h k = ap Some (unique a v w h k)

pub IsBlockLevel-unique : (energy : ℕ) (v w : ℤ) → IsBlockLevel energy v → IsBlockLevel energy w → v ≡ w
IsBlockLevel-unique energy v w x y =
    x.rounded ∙ ap hundredths (level-unique (125 * energy) (24 * FULL_POWER) x.level y.level x.of_ratio y.of_ratio) ∙ sym y.rounded

pub IsWindowLevel-unique : (energy : ℕ) (v w : ℤ) → IsWindowLevel energy v → IsWindowLevel energy w → v ≡ w
IsWindowLevel-unique energy v w x y =
    x.rounded ∙ ap hundredths (level-unique (25 * energy) (36 * FULL_POWER) x.level y.level x.of_ratio y.of_ratio) ∙ sym y.rounded

-- blocks have one loudness
pub IsLoudness-unique : (blocks : List ℕ) (x y : Option ℤ) → IsLoudness blocks x → IsLoudness blocks y → x ≡ y
IsLoudness-unique blocks x y h k = IfThere-unique IsBlockLevel IsBlockLevel-unique (mean (gated blocks)) x y h k

IsPeakLevel-unique : (peak : ℕ) (v w : ℤ) → IsPeakLevel peak v → IsPeakLevel peak w → v ≡ w
IsPeakLevel-unique peak v w x y =
    x.rounded ∙ ap hundredths (level-unique (peak ^ 2) (2 ^ 72) x.level y.level x.of_ratio y.of_ratio) ∙ sym y.rounded

same_summary : (a b : Summary) → a.frames ≡ b.frames → a.loudness ≡ b.loudness → a.range ≡ b.range → a.momentary ≡ b.momentary
    → a.short_term ≡ b.short_term → a.true_peak ≡ b.true_peak → a.peak ≡ b.peak → a.gain ≡ b.gain → a ≡ b
same_summary a b frames loudness range momentary short_term true_peak peak gain = rw (frames, loudness, range, momentary, short_term, true_peak, peak, gain) refl

-- blocks, windows and a peak have one summary
pub Summarises-unique : (frames : ℕ) (blocks windows : List ℕ) (peak : ℕ) (a b : Summary) → Summarises frames blocks windows peak a
    → Summarises frames blocks windows peak b → a ≡ b
Summarises-unique frames blocks windows peak a b x y =
    let loudness = IsLoudness-unique blocks a.loudness b.loudness x.loudness y.loudness in
    let range = IsRange-unique windows a.range b.range x.range y.range in
    let momentary = IfThere-unique IsBlockLevel IsBlockLevel-unique (above_zero (greatest blocks)) a.momentary b.momentary x.momentary y.momentary in
    let short_term =
    IfThere-unique IsWindowLevel IsWindowLevel-unique (above_zero (greatest windows)) a.short_term b.short_term x.short_term y.short_term in
    let true_peak = IfThere-unique IsPeakLevel IsPeakLevel-unique (above_zero peak) a.true_peak b.true_peak x.true_peak y.true_peak in
    same_summary a b (x.frames_kept ∙ sym y.frames_kept) loudness range momentary short_term true_peak (x.peak_kept ∙ sym y.peak_kept)
    (x.gain ∙ ap (λ (loudness : Option ℤ). option_map gain_of loudness) loudness ∙ sym y.gain)
