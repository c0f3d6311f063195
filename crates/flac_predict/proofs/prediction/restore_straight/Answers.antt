use Rattle.std.proofs.Common.{◌∙◌, ◌+ℤ◌, ℤ, pos, get_or, refl, ap, sym, subst, rules, arith, w32, w64, FitsSigned, to_z}
use Rattle.std.proofs.lemmas.Int.{to_z-of_z}
use Rattle.lib_base.specs.Sounds.{IsSample}
use Rattle.file_model.specs.Predict.{fixed_weights, Spells, Leaves}
use Rattle.file_model.proofs.Predictions.{Spells-warm_up, Spells_unique, Leaves_none}
use Rattle.flac_predict.proofs.Restoring.{Restored-more, Restored-whole, Leaves-here, last_set, before_set}
use Rattle.flac_predict.proofs.Weighing.{straight_predicted}
use Rattle.flac_predict.proofs.prediction.restore_straight.Goals as goal

pub loop-place-init : goal.loop-place-init
loop-place-init c = record {
  restored = record {
    spelled = Spells-warm_up (fixed_weights 2) c.args.samples.now 0 c.args.depth c.requires.warm_up;
    rest = λ t from. refl;
  };
  last = search rules;
  before = search rules;
}

pub loop-place-preserved : goal.loop-place-preserved
loop-place-preserved c =
    let place = c.loop-place.place in
    let samples = c.loop-place.samples in
    let sample = c.in-Some.sample in
    let last = to_z w32 c.loop-place.last-bits in
    let before = to_z w32 c.loop-place.before-bits in
    let so_far = c.loop-place.invariant in
    let residual_fits : FitsSigned w32 (get_or samples place (pos 0)) = search rules in
    let line_fits : FitsSigned w64 c.straight.result = search rules in
    let value_fits : FitsSigned w64 c.sum_of-value.result = search rules in
    let sample_fits : FitsSigned w32 sample = search rules in
    let value = simp to_z-of_z at c.sum_of-value.ensures in
    let told = simp to_z-of_z at c.in-Some.ensures in
    let line = c.straight.ensures.value ∙ straight_predicted samples place last before so_far.last so_far.before in
    record {
      restored =
          simp to_z-of_z
          (Restored-more (fixed_weights 2) samples c.args.samples.now 0 c.args.depth place sample (omega arith) (omega arith) (omega arith)
          (told.1 ∙ value ∙ ap (λ (z : ℤ). get_or samples place (pos 0) +ℤ z) line)
          (subst (IsSample c.args.depth) (sym told.1) told.0) so_far.restored);
      last = simp to_z-of_z (last_set samples place sample (omega arith));
      before = simp to_z-of_z (before_set samples place sample last (omega arith) so_far.last);
    }

leaves : (c : goal.In-None) → Leaves (fixed_weights 2) 0 c.args.depth c.args.samples.now c.loop-place.place
leaves c =
    let place = c.loop-place.place in
    let samples = c.loop-place.samples in
    let last = to_z w32 c.loop-place.last-bits in
    let before = to_z w32 c.loop-place.before-bits in
    let so_far = c.loop-place.invariant in
    let residual_fits : FitsSigned w32 (get_or samples place (pos 0)) = search rules in
    let line_fits : FitsSigned w64 c.straight.result = search rules in
    let value_fits : FitsSigned w64 c.sum_of-value.result = search rules in
    let value = simp to_z-of_z at c.sum_of-value.ensures in
    let told = simp to_z-of_z at c.in-None.ensures in
    let line = c.straight.ensures.value ∙ straight_predicted samples place last before so_far.last so_far.before in
    Leaves-here (fixed_weights 2) samples c.args.samples.now 0 c.args.depth place c.sum_of-value.result
    (omega arith) (omega arith) (omega arith)
    (value ∙ ap (λ (z : ℤ). get_or samples place (pos 0) +ℤ z) line) told so_far.restored

pub returns-in-None-clause-leaves : goal.returns-in-None-clause-leaves
returns-in-None-clause-leaves c = leaves c

pub returns-in-None-clause-none : goal.returns-in-None-clause-none
returns-in-None-clause-none c = λ spelled.
    Leaves_none (fixed_weights 2) spelled c.args.samples.now 0 c.args.depth c.loop-place.place (leaves c)

spells : (c : goal.After-loop-place) → Spells (fixed_weights 2) 0 c.args.depth c.loop-place.samples c.args.samples.now
spells c =
    Restored-whole (fixed_weights 2) c.loop-place.samples c.args.samples.now 0 c.args.depth c.loop-place.place
    (omega arith) (omega arith) c.loop-place.invariant.restored

pub returns-clause-restored : goal.returns-clause-restored
returns-clause-restored c = spells c

pub returns-clause-only : goal.returns-clause-only
returns-clause-only c = λ spelled other.
    Spells_unique (fixed_weights 2) spelled c.loop-place.samples c.args.samples.now 0 c.args.depth other (spells c)
