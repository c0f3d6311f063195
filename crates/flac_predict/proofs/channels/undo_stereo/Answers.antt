use Rattle.std.proofs.Common.{pos, get_or, rules, arith, w32, FitsSigned}
use Rattle.std.proofs.lemmas.Int.{to_z-of_z}
use Rattle.file_model.specs.Pairs.{SpellsPair}
use Rattle.file_model.proofs.Pairings.{SpellsPair_unique}
use Rattle.flac_predict.proofs.Pairing.{RestoredPairs-more, RestoredPairs-whole}
use Rattle.flac_predict.proofs.channels.undo_stereo.Goals as goal

pub loop-place-preserved : goal.loop-place-preserved
loop-place-preserved c =
    let place = c.loop-place.place in
    let first = c.loop-place.first in
    let second = c.loop-place.second in
    let first_fits : FitsSigned w32 (get_or first place (pos 0)) = search rules in
    let second_fits : FitsSigned w32 (get_or second place (pos 0)) = search rules in
    let left_fits : FitsSigned w32 c.in-Some.left = search rules in
    let right_fits : FitsSigned w32 c.in-Some.right = search rules in
    let told = simp to_z-of_z at c.in-Some.ensures in
    simp to_z-of_z
    (RestoredPairs-more c.args.kind c.args.depth place first second c.args.first.now c.args.second.now c.in-Some.left c.in-Some.right
    (omega arith) (omega arith) (omega arith) (omega arith) told.0 told.1 told.2 c.loop-place.invariant)

spells : (c : goal.After-loop-place)
    → SpellsPair c.args.kind c.args.depth c.loop-place.first c.loop-place.second c.args.first.now c.args.second.now
spells c =
    RestoredPairs-whole c.args.kind c.args.depth c.loop-place.place
    c.loop-place.first c.loop-place.second c.args.first.now c.args.second.now
    (omega arith) (omega arith) (omega arith) (omega arith) c.loop-place.invariant

pub returns-clause-restored : goal.returns-clause-restored
returns-clause-restored c = spells c

pub returns-clause-only : goal.returns-clause-only
returns-clause-only c = λ left right other.
    SpellsPair_unique c.args.kind left right c.loop-place.first c.loop-place.second c.args.first.now c.args.second.now
    c.args.depth other (spells c)
