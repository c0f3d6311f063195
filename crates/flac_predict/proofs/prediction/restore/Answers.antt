use Rattle.std.proofs.Common.{◌∙◌, ◌+ℤ◌, ℤ, pos, get_or, refl, ap, sym, subst, rules, arith, w32, w64, FitsSigned}
use Rattle.std.proofs.lemmas.Int.{to_z-of_z}
use Rattle.lib_base.specs.Sounds.{IsSample}
use Rattle.file_model.specs.Predict.{Spells, Leaves}
use Rattle.file_model.proofs.Predictions.{Spells-warm_up, Spells_unique, Leaves_none}
use Rattle.flac_predict.proofs.Restoring.{Restored-more, Restored-whole, Leaves-here, All-wider}
use Rattle.flac_predict.proofs.prediction.restore.Goals as goal

pub loop-place-init : goal.loop-place-init
loop-place-init c = record {
  spelled = Spells-warm_up c.args.weights.now c.args.samples.now c.args.shift c.args.depth c.requires.warm_up;
  rest = λ t from. refl;
}

pub prediction-requires-clause-within : goal.prediction-requires-clause-within
prediction-requires-clause-within c =
    All-wider c.args.depth _ c.requires.low c.requires.high c.loop-place.invariant.spelled.within

pub loop-place-preserved : goal.loop-place-preserved
loop-place-preserved c =
    let place = c.loop-place.place in
    let samples = c.loop-place.samples in
    let residual_fits : FitsSigned w32 (get_or samples place (pos 0)) = search rules in
    let prediction_fits : FitsSigned w64 c.prediction.result = search rules in
    let value_fits : FitsSigned w64 c.sum_of-value.result = search rules in
    let sample_fits : FitsSigned w32 c.in-Some.sample = search rules in
    let value = simp to_z-of_z at c.sum_of-value.ensures in
    let told = simp to_z-of_z at c.in-Some.ensures in
    simp to_z-of_z
    (Restored-more c.args.weights.now samples c.args.samples.now c.args.shift c.args.depth place c.in-Some.sample
    (omega arith) (omega arith) (omega arith)
    (told.1 ∙ value ∙ ap (λ (z : ℤ). get_or samples place (pos 0) +ℤ z) c.prediction.ensures.value)
    (subst (IsSample c.args.depth) (sym told.1) told.0)
    c.loop-place.invariant)

leaves : (c : goal.In-None) → Leaves c.args.weights.now c.args.shift c.args.depth c.args.samples.now c.loop-place.place
leaves c =
    let place = c.loop-place.place in
    let samples = c.loop-place.samples in
    let residual_fits : FitsSigned w32 (get_or samples place (pos 0)) = search rules in
    let prediction_fits : FitsSigned w64 c.prediction.result = search rules in
    let value_fits : FitsSigned w64 c.sum_of-value.result = search rules in
    let value = simp to_z-of_z at c.sum_of-value.ensures in
    let told = simp to_z-of_z at c.in-None.ensures in
    Leaves-here c.args.weights.now samples c.args.samples.now c.args.shift c.args.depth place c.sum_of-value.result
    (omega arith) (omega arith) (omega arith)
    (value ∙ ap (λ (z : ℤ). get_or samples place (pos 0) +ℤ z) c.prediction.ensures.value)
    told c.loop-place.invariant

pub returns-in-None-clause-leaves : goal.returns-in-None-clause-leaves
returns-in-None-clause-leaves c = leaves c

pub returns-in-None-clause-none : goal.returns-in-None-clause-none
returns-in-None-clause-none c = λ spelled.
    Leaves_none c.args.weights.now spelled c.args.samples.now c.args.shift c.args.depth c.loop-place.place (leaves c)

spells : (c : goal.After-loop-place) → Spells c.args.weights.now c.args.shift c.args.depth c.loop-place.samples c.args.samples.now
spells c =
    Restored-whole c.args.weights.now c.loop-place.samples c.args.samples.now c.args.shift c.args.depth c.loop-place.place
    (omega arith) (omega arith) c.loop-place.invariant

pub returns-clause-restored : goal.returns-clause-restored
returns-clause-restored c = spells c

pub returns-clause-only : goal.returns-clause-only
returns-clause-only c = λ spelled other.
    Spells_unique c.args.weights.now spelled c.loop-place.samples c.args.samples.now c.args.shift c.args.depth other (spells c)
