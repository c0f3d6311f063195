use Rattle.std.proofs.Common.{◌≡◌, List, Ok, length, drop, ap, sym, subst, arith}
use Rattle.std.specs.Prelude.{ℤ}
use Rattle.file_model.specs.FlacFrame.{Frame}
use Rattle.flac_frames.specs.Frames.{frame_in}
use Rattle.flac_frames.proofs.Frames.{refilled}
use Rattle.flac_frames.proofs.frame.read_frame.Goals as goal

-- the cells are those that were lent
pub returns-in-Ok-clause-frame : goal.returns-in-Ok-clause-frame
returns-in-Ok-clause-frame c =
    let size = ap length c.as_mut_slice.ensures.value in
    subst (λ (cells : List ℤ). Frame c.args.info.now (drop c.args.at c.args.bytes.now) (Ok (frame_in cells c.args.info.now.channels c.args.at c.in-Ok.end)))
    (sym (refilled c.args.scratch.now.cells c.frame_at.new.cells (omega (arith, size)))) c.in-Ok.ensures.comes
