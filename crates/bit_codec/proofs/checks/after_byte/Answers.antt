use Rattle.std.proofs.Common.{arith}
use Rattle.bit_codec.proofs.CheckLemmas.{crc16_more}
use Rattle.bit_codec.proofs.checks.after_byte.Goals as goal

pub returns : goal.returns
returns c = λ before is.
    crc16_more before c.args.check c.args.byte c.frame_entry.result (omega arith) (omega arith) is c.frame_entry.ensures
