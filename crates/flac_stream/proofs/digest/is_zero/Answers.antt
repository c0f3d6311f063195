use Rattle.std.proofs.Common.{◌≡◌, ◌∙◌, get_or, sym, arith}
use Rattle.flac_stream.proofs.Digests.{zero_more, zero_not, zero_all}
use Rattle.flac_stream.proofs.digest.is_zero.Goals as goal

pub loop-byte-preserved : goal.loop-byte-preserved
loop-byte-preserved c =
    sym (zero_more c.args.bytes.now c.loop-byte.byte-index c.loop-byte-test.true (omega arith)) ∙ c.loop-byte.invariant

pub returns : goal.returns
returns c = sym (zero_all c.args.bytes.now c.loop-byte.byte-index (omega arith)) ∙ c.loop-byte.invariant
