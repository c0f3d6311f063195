use Rattle.std.proofs.Common.{◌≤◌, ◌∙◌, ◌∷◌, ℕ, ℤ, List, take, ap, sym, subst, max, arith}
use Rattle.std.specs.List.{All}
use Rattle.std.proofs.lemmas.Int.{to_z-of_z}
use Rattle.true_peak.specs.Windows.{size_after}
use Rattle.sound_model.specs.Peaks.{sample_before, peak_over}
use Rattle.true_peak.proofs.Lows.{Low, low_more}
use Rattle.true_peak.proofs.Places.{history_at-next, peak_at_history, peak_over-next}
use Rattle.true_peak.proofs.runs.Run.over.Goals as goal

pub invariant_of-result : goal.invariant_of-result
invariant_of-result c =
    let self = c.args.self in
    let value_fits = c.ranges.value in
    let after = simp to_z-of_z at c.after.ensures in
    let size = simp to_z-of_z at c.greatest_with.ensures in
    let is_low = simp to_z-of_z at c.is_low-is_low.ensures in
    let rise : self.greatest ≤ c.greatest_with.result = omega (arith, size) in
    let Lows : List ℤ → Type 0 = λ ys. All (Low c.greatest_with.result) (take c.low_with.result ys) in
    record {
      few = c.low_with.ensures.few;
      are_low =
          subst Lows (sym after)
          (low_more c.args.value self.history.before self.greatest c.greatest_with.result self.low c.low_with.result
          self.are_low c.low_with.ensures.more c.low_with.ensures.few (λ some. is_low.0 (c.low_with.ensures.some some)) rise);
    }

pub returns : goal.returns
returns c = λ depth samples first place order is_value heard.
    let value_fits = c.ranges.value in
    let after = simp to_z-of_z at c.after.ensures in
    let size = simp to_z-of_z at c.greatest_with.ensures in
    let newest = sample_before depth samples place 0 in
    record {
      history =
          after ∙ ap (λ (z : ℤ). z ∷ take 10 c.args.self.history.before) is_value
          ∙ ap (λ (zs : List ℤ). newest ∷ take 10 zs) heard.history ∙ sym (history_at-next depth samples place);
      greatest =
          size ∙ ap (λ (n : ℕ). max n (size_after c.args.value c.args.self.history.before)) heard.greatest
          ∙ ap (λ (n : ℕ). max (peak_over depth samples first place) n)
          (ap (λ (z : ℤ). size_after z c.args.self.history.before) is_value
          ∙ ap (λ (zs : List ℤ). size_after newest zs) heard.history ∙ sym (peak_at_history depth samples place))
          ∙ sym (peak_over-next depth samples first place order);
    }
