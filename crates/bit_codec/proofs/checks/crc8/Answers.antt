use Rattle.std.proofs.Common.{arith}
use Rattle.bit_codec.proofs.CheckLemmas.{crc8_none, crc8_step}
use Rattle.bit_codec.proofs.checks.crc8.Goals as goal

pub loop-byte-init : goal.loop-byte-init
loop-byte-init c = crc8_none

pub loop-byte-preserved : goal.loop-byte-preserved
loop-byte-preserved c =
    crc8_step c.args.bytes.now c.loop-byte.byte-index c.loop-byte.check c.header_entry-check.result c.loop-byte-test.true
    (omega arith) (omega (arith, c.type_inv.bytes c.loop-byte.byte-index)) c.loop-byte.invariant c.header_entry-check.ensures
