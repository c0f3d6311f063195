use Rattle.std.proofs.Common.{◌≡◌, ◌*◌, take}
use Rattle.file_model.specs.Crc.{crc16}
use Rattle.bit_codec.proofs.checks.over_eights.Given as goal

-- the check of the words so far
abbrev pub invariant-loop-place : goal.invariant-loop-place
invariant-loop-place l = l.check ≡ crc16 (take (8 * l.place) l.bytes)
