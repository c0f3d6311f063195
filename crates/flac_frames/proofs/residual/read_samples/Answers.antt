-- One sample more, a field that is cut, or no more to read.
use Rattle.std.proofs.Common.{ap, sym, ◌∙◌, List, Bool, Err, rules, arith, w32, FitsSigned}
use Rattle.std.proofs.lemmas.Int.{to_z-of_z}
use Rattle.bit_codec.specs.Reader.{left}
use Rattle.file_model.specs.Fields.{signed_field}
use Rattle.file_model.specs.FlacHeader.{of_frame}
use Rattle.flac_frames.proofs.Residuals.{signed_shorter}
use Rattle.flac_frames.proofs.Times.{front_none, times_step, times_fails, times_done}
use Rattle.flac_frames.proofs.residual.read_samples.Goals as goal

pub loop-place-preserved : goal.loop-place-preserved
loop-place-preserved c =
    let fits : FitsSigned w32 c.in-Ok.sample = search rules in
    simp to_z-of_z
    (record {
      goes =
          times_step (λ (rest : List Bool). of_frame (signed_field c.args.depth rest)) c.loop-place.out c.loop-place.place _ c.in-Ok.sample (left c.loop-place.reader)
          (left c.signed.new.self) _ (omega arith) (omega arith) (ap of_frame c.in-Ok.ensures.gives) c.loop-place.invariant.goes;
      later = (let shorter = signed_shorter c.args.depth (left c.loop-place.reader) _ _ c.in-Ok.ensures.gives in omega (arith, shorter));
      whole = c.in-Ok.ensures.whole ∙ c.loop-place.invariant.whole;
    })

pub returns-in-Err-clause-gives : goal.returns-in-Err-clause-gives
returns-in-Err-clause-gives c =
    times_fails (λ (rest : List Bool). of_frame (signed_field c.args.depth rest)) _ c.loop-place.place _ (left c.loop-place.reader) _ _ (omega arith)
    (ap of_frame c.in-Err.ensures.gives ∙ ap Err (sym c.into.ensures)) c.loop-place.invariant.goes

pub returns-clause-gives : goal.returns-clause-gives
returns-clause-gives c =
    times_done (λ (rest : List Bool). of_frame (signed_field c.args.depth rest)) c.loop-place.out c.loop-place.place _ (left c.loop-place.reader) _ (omega arith)
    (omega arith) c.loop-place.invariant.goes
