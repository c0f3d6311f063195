-- What a reader stands for.
use Rattle.std.specs.Prelude.{◌+◌, ◌*◌, ℕ, Bool, List, drop}
use Rattle.file_model.specs.Bits.{bits}
use Rattle.bit_codec.specs.declared.reader.BitReader.{BitReader}

-- the bytes that it reads
unfoldable pub source : BitReader → List ℕ
source reader = reader.bytes.now

-- where it stands: how many bits from the start of the bytes
unfoldable pub place : BitReader → ℕ
place reader = 8 * reader.byte + reader.bit

-- the bits that are left
unfoldable pub left : BitReader → List Bool
left reader = drop (place reader) (bits (source reader))
