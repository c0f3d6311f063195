use Rattle.std.proofs.Common.{◌≡◌, drop}
use Rattle.std.specs.Prelude.{nat_eq}
use Rattle.std.specs.List.{list_all}
use Rattle.flac_stream.proofs.digest.is_zero.Given as goal

-- the bytes that are left decide
abbrev pub invariant-loop-byte : goal.invariant-loop-byte
invariant-loop-byte l = list_all (nat_eq 0) (drop l.byte-index l.bytes) ≡ list_all (nat_eq 0) l.bytes
