use Rattle.std.proofs.Common.{arith}
use Rattle.flac_frames.proofs.Subframes.{within_front, on_ok}
use Rattle.flac_frames.proofs.subframe.read_fixed.Goals as goal

-- the warm-up was read as samples
pub returns-clause-warm_up : goal.returns-clause-warm_up
returns-clause-warm_up c =
    on_ok c.read_residuals.result
    (within_front c.args.depth c.args.order _ c.read_samples.new.out c.read_residuals.new.out _ _ (omega arith) c.in_ok-read_samples.ensures.gives)
