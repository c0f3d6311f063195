use Rattle.std.proofs.Common.{arith}
use Rattle.flac_frames.proofs.Subframes.{predictor_within, within_front}
use Rattle.flac_frames.proofs.subframe.read_linear.Goals as goal

-- the warm-up was read as samples
pub returns-clause-warm_up : goal.returns-clause-warm_up
returns-clause-warm_up c =
    within_front c.args.depth c.args.order _ c.read_samples.new.out c.read_residuals.new.out _ _ (omega arith) c.in_ok-read_samples.ensures.gives

pub returns-clause-weights : goal.returns-clause-weights
returns-clause-weights c =
    predictor_within c.args.order _ c.in_ok-linear.linear _ (omega (arith, c.in_ok-linear.ensures.order)) (omega (arith, c.in_ok-linear.ensures.order))
    c.in_ok-linear.ensures.gives
