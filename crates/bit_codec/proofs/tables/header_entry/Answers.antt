-- The stored table is that of the bytes.
use Rattle.std.proofs.Common.{◌≡◌, ◌<◌, ℕ, map, get_or, refl, ap, ◌∙◌, zero-add}
use Rattle.std.specs.List.{range_with_len}
use Rattle.std.proofs.lemmas.List.FromFn.{get_or-map-range_with_len}
use Rattle.file_model.specs.Bits.{bits_in, number}
use Rattle.file_model.specs.Crc.{less, divided, remainder, header_divisor}
use Rattle.bit_codec.specs.declared.tables.TheConstants.{HEADER_ENTRIES}
use Rattle.bit_codec.proofs.tables.header_entry.Goals as goal

byte_check : ℕ → ℕ
byte_check byte = number (remainder header_divisor (bits_in 8 byte))

stored : HEADER_ENTRIES ≡ map byte_check (range_with_len 0 256)
unfolding byte_check bits_in number less divided remainder
stored = refl

entry_at : (byte : ℕ) → byte < 256 → get_or HEADER_ENTRIES byte 0 ≡ number (remainder header_divisor (bits_in 8 byte))
unfolding byte_check
entry_at byte within =
    ap (λ entries. get_or entries byte 0) stored
    ∙ get_or-map-range_with_len byte_check 0 256 byte byte 0 within (zero-add byte)

pub returns : goal.returns
returns c = entry_at c.args.byte c.ranges.byte.fits
