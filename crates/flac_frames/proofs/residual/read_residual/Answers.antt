-- A residual within range, one beyond it, or a field that is cut.
use Rattle.std.proofs.Common.{◌∙◌, ap, sym, Ok, rules, arith, ℤ, w32, FitsSigned}
use Rattle.std.proofs.lemmas.Int.{to_z-of_z}
use Rattle.bit_codec.specs.Reader.{left}
use Rattle.flac_frames.proofs.Residuals.{residual_within, residual_beyond, residual_cut, residual_later}
use Rattle.flac_frames.proofs.residual.read_residual.Goals as goal

pub returns-in-Ok-clause-gives : goal.returns-in-Ok-clause-gives
returns-in-Ok-clause-gives c =
    residual_beyond c.args.low (left c.args.reader.now) c.in-Ok.folded _ c.in-Ok.ensures.gives (omega arith)

pub returns-in-Ok-2-clause-gives : goal.returns-in-Ok-2-clause-gives
returns-in-Ok-2-clause-gives c =
    let fits : FitsSigned w32 c.unfolded.result = search rules in
    simp to_z-of_z
    (residual_within c.args.low (left c.args.reader.now) c.in-Ok.folded (left c.rice.new.self) c.in-Ok.ensures.gives (omega arith)
    ∙ ap (λ (z : ℤ). Ok (z, left c.rice.new.self)) (sym c.unfolded.ensures))

pub returns-in-Ok-2-clause-later : goal.returns-in-Ok-2-clause-later
returns-in-Ok-2-clause-later c = residual_later c.args.low (left c.args.reader.now) _ _ c.in-Ok.ensures.gives

pub returns-in-Err-clause-gives : goal.returns-in-Err-clause-gives
returns-in-Err-clause-gives c =
    residual_cut c.args.low (left c.args.reader.now) c.in-Err.fault c.into.result c.in-Err.ensures.gives c.into.ensures
