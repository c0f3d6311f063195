use Rattle.std.proofs.Common.{◌++◌, ◌*◌, ◌/◌, ℕ, List, length, take, ap, ◌∙◌, arith}
use Rattle.std.proofs.lemmas.List.{take_all}
use Rattle.file_model.specs.Crc.{crc16}
use Rattle.bit_codec.proofs.CheckLemmas.{crc16_start, crc16_step, crc16_whole}
use Rattle.bit_codec.proofs.checks.crc16.Goals as goal

pub loop-byte-init : goal.loop-byte-init
loop-byte-init c = crc16_start _ c.over_eights-check.result c.over_eights-check.ensures

pub loop-byte-preserved : goal.loop-byte-preserved
loop-byte-preserved c =
    crc16_step _ c.split_at.result.1.now c.loop-byte.byte-index c.loop-byte.check c.after_byte-check.result c.loop-byte-test.true
    c.loop-byte.invariant c.after_byte-check.ensures

pub returns : goal.returns
returns c =
    crc16_whole c.args.bytes.now c.split_at.result.1.now (8 * (length c.args.bytes.now / 8)) c.loop-byte.check c.split_at.ensures.back
    (c.loop-byte.invariant ∙ ap (λ (xs : List ℕ). crc16 (take (8 * (length c.args.bytes.now / 8)) c.args.bytes.now ++ xs))
    (take_all c.loop-byte.byte-index c.split_at.result.1.now (omega arith)))
