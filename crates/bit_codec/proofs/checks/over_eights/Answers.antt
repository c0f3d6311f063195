use Rattle.bit_codec.proofs.CheckLemmas.{crc16_none, eights_step}
use Rattle.bit_codec.proofs.checks.over_eights.Goals as goal

pub loop-place-init : goal.loop-place-init
loop-place-init c = crc16_none

pub loop-place-preserved : goal.loop-place-preserved
loop-place-preserved c =
    eights_step c.args.bytes.now c.split_at.result.1.now c.loop-place.place c.loop-place.check c.after_eight-check.result
    c.split_at.ensures.back c.loop-place.invariant c.after_eight-check.ensures
