use Rattle.std.proofs.Common.{rules, arith, ◌*ℤ◌, ℤ, pos, get_or, w32, FitsSigned}
use Rattle.std.proofs.lemmas.Int.{to_z-of_z}
use Rattle.flac_frames.proofs.Subframes.{none_behind, within_there, one_shifted, all_shifted}
use Rattle.flac_frames.proofs.subframe.shift_back.Goals as goal

pub returns-then-wasted-eq0-clause-shifted : goal.returns-then-wasted-eq0-clause-shifted
returns-then-wasted-eq0-clause-shifted c = none_behind c.args.wasted c.args.out.now c.if-wasted-eq0.true

pub shifted-requires-clause-within : goal.shifted-requires-clause-within
shifted-requires-clause-within c =
    let fits : FitsSigned w32 (get_or c.loop-place.out c.loop-place.place (pos 0)) = search rules in
    simp to_z-of_z
    (within_there c.args.depth c.args.wasted c.args.out.now c.loop-place.out c.loop-place.place (omega arith) c.requires.within c.loop-place.invariant.shifted)

pub loop-place-preserved : goal.loop-place-preserved
loop-place-preserved c =
    let fits : FitsSigned w32 (get_or c.loop-place.out c.loop-place.place (pos 0)) = search rules in
    let result_fits : FitsSigned w32 c.shifted.result = search rules in
    let is = simp to_z-of_z at c.shifted.ensures.value in
    simp to_z-of_z
    (record {
      shifted =
          one_shifted c.args.wasted c.args.out.now c.loop-place.out c.loop-place.place c.shifted.result (omega arith) (omega arith) is c.loop-place.invariant.shifted;
    })

pub returns-clause-within : goal.returns-clause-within
returns-clause-within c =
    all_shifted c.args.depth c.args.wasted c.args.out.now c.loop-place.out c.loop-place.place c.requires.wasted (omega arith) c.requires.within
    c.loop-place.invariant.shifted
