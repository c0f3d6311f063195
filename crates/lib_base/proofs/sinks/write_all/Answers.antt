use Rattle.std.proofs.Common.{arith}
use Rattle.lib_base.proofs.Writing.{Appends-take}
use Rattle.lib_base.proofs.sinks.write_all.Goals as goal

pub loop-done-preserved : goal.loop-done-preserved
loop-done-preserved g c =
    let piece = c.in_ok-done.ensures.within in
    let taken = rw c.split_at.ensures.back at c.in_ok-done.ensures.content in (
      omega (arith, c.split_at.ensures.back_len, piece.0),
      Appends-take _ _ _ _ _ _ c.loop-done.invariant.1 taken,
      omega (arith, c.loop-done.invariant.2, c.in_ok-done.ensures.faults.later),
    )
