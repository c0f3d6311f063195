-- Runs that come to the same place.
use Rattle.std.proofs.Common.{◌≡◌, ◌<◌, ◌+◌, ◌∙◌, ℕ, ℤ, pos, List, ◌++◌, length, get_or, take, drop, ap, sym, subst, refl, arith}
use Rattle.std.proofs.lemmas.List.{get_or-take, get_or-drop, take_all, drop_at}
use Rattle.lib_base.specs.Sounds.{part}
use Rattle.sound_model.specs.Peaks.{scaled, sample_before}
use Rattle.true_peak.specs.declared.runs.Run.{Run}
use Rattle.true_peak.specs.Heard.{Heard}
use Rattle.true_peak.proofs.Places.{sample_at, history_at-append, peak_over-append}

pub Heard-at : (run : Run) (depth : ℕ) (all : List ℤ) (first p q : ℕ) → p ≡ q → Heard run depth all first p → Heard run depth all first q
Heard-at run depth all first p q same heard = let P : ℕ → Type 0 = λ n. Heard run depth all first n in subst P same heard

-- a sample of a piece, at its place in the whole
pub sample_of_piece : (depth : ℕ) (samples all : List ℤ) (place i : ℕ) → i < length samples → samples ≡ part all place (length samples)
    → scaled depth (get_or samples i (pos 0)) ≡ sample_before depth all (place + i) 0
sample_of_piece depth samples all place i inside is_part =
    ap (scaled depth)
    (ap (λ (xs : List ℤ). get_or xs i (pos 0)) is_part ∙ get_or-take (length samples) (drop place all) i (pos 0) inside
    ∙ get_or-drop place all i (pos 0))
    ∙ sym (sample_at depth all (place + i))

-- what is fed is the part of the whole behind what was fed before
pub part-append : (fed samples : List ℤ) → samples ≡ part (fed ++ samples) (length fed) (length samples)
part-append fed samples =
    sym (take_all (length samples) samples (omega arith))
    ∙ sym (ap (λ (xs : List ℤ). take (length samples) xs) (drop_at fed samples (length fed) refl))

-- a run over a list is one over the beginning of a longer list
pub Heard-append : (run : Run) (depth : ℕ) (fed more : List ℤ) → Heard run depth fed 0 (length fed) → Heard run depth (fed ++ more) 0 (length fed)
Heard-append run depth fed more heard = record {
  history = heard.history ∙ sym (history_at-append depth fed more (length fed) (omega arith));
  greatest = heard.greatest ∙ sym (peak_over-append depth fed more 0 (length fed) (omega arith) (omega arith));
}
