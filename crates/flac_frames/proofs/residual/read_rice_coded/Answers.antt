-- One residual more, one that is none, or no more to read.
use Rattle.std.proofs.Common.{◌∙◌, rules, arith, w32, FitsSigned}
use Rattle.std.proofs.lemmas.Int.{to_z-of_z}
use Rattle.bit_codec.specs.Reader.{left}
use Rattle.file_model.specs.Subframe.{residual_at}
use Rattle.flac_frames.proofs.Times.{times_step, times_fails, times_done}
use Rattle.flac_frames.proofs.residual.read_rice_coded.Goals as goal

pub loop-place-preserved : goal.loop-place-preserved
loop-place-preserved c =
    let fits : FitsSigned w32 c.in-Ok.residual = search rules in
    simp to_z-of_z
    (record {
      goes =
          times_step (residual_at c.args.low) c.loop-place.out c.loop-place.place _ c.in-Ok.residual (left c.loop-place.reader)
          (left c.read_residual.new.reader) _ (omega arith) (omega arith) c.in-Ok.ensures.gives c.loop-place.invariant.goes;
      later = search rules;
      whole = c.in-Ok.ensures.whole ∙ c.loop-place.invariant.whole;
    })

pub returns-in-Err-clause-gives : goal.returns-in-Err-clause-gives
returns-in-Err-clause-gives c =
    times_fails (residual_at c.args.low) _ c.loop-place.place _ (left c.loop-place.reader) _ _ (omega arith) c.in-Err.ensures.gives
    c.loop-place.invariant.goes

pub returns-clause-gives : goal.returns-clause-gives
returns-clause-gives c =
    times_done (residual_at c.args.low) c.loop-place.out c.loop-place.place _ (left c.loop-place.reader) _ (omega arith) (omega arith)
    c.loop-place.invariant.goes
