use Rattle.std.proofs.Common.{◌≡◌, ◌++◌, take}
use Rattle.file_model.specs.Crc.{crc16}
use Rattle.bit_codec.proofs.checks.crc16.Given as goal

-- the check of the words, and of the bytes behind them so far
abbrev pub invariant-loop-byte : goal.invariant-loop-byte
invariant-loop-byte l = l.check ≡ crc16 (take l.whole l.bytes ++ take l.byte-index l.byte-items)
