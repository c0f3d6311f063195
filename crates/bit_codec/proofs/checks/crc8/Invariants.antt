use Rattle.std.proofs.Common.{◌≡◌, take}
use Rattle.file_model.specs.Crc.{crc8}
use Rattle.bit_codec.proofs.checks.crc8.Given as goal

-- the check of the bytes so far
abbrev pub invariant-loop-byte : goal.invariant-loop-byte
invariant-loop-byte l = l.check ≡ crc8 (take l.byte-index l.bytes)
