-- The stored tables: that of the bytes, and for each more byte of zeros one that follows from the table before it.
use Rattle.std.proofs.Common.{◌≡◌, ◌<◌, ◌+◌, ◌*◌, ◌/◌, ◌%◌, ℕ, zero, suc, Bool, List, [], length, map, get_or, refl, ap, sym, ◌∙◌, zero-add, arith}
use Rattle.std.specs.Int.Bits.{bit_xor}
use Rattle.std.specs.List.{range_with_len}
use Rattle.std.proofs.lemmas.List.{append-nil, get_or-map}
use Rattle.std.proofs.lemmas.List.FromFn.{get_or-map-range_with_len}
use Rattle.file_model.specs.Bits.{bits_in, number}
use Rattle.file_model.specs.Crc.{less, divided, remainder, frame_divisor}
use Rattle.bit_codec.specs.declared.tables.TheConstants.{FRAME_ENTRIES}
use Rattle.bit_codec.proofs.CheckLemmas.{byte_check, byte_check_below, byte_check_next}
use Rattle.bit_codec.proofs.tables.frame_entry.Goals as goal

abbrev row : ℕ → List ℕ
row zeros = get_or FRAME_ENTRIES zeros []

first_check : ℕ → ℕ
first_check byte = number (remainder frame_divisor (bits_in 8 byte))

-- a check after one more byte, which is 0
advanced : ℕ → ℕ
advanced check = bit_xor (get_or (row 0) (check / 256) 0) (check % 256 * 256)

first_row : row 0 ≡ map first_check (range_with_len 0 256)
unfolding first_check bits_in number less divided remainder
first_row = refl

row_1 : row 1 ≡ map advanced (row 0)
unfolding advanced
row_1 = refl

row_2 : row 2 ≡ map advanced (row 1)
unfolding advanced
row_2 = refl

row_3 : row 3 ≡ map advanced (row 2)
unfolding advanced
row_3 = refl

row_4 : row 4 ≡ map advanced (row 3)
unfolding advanced
row_4 = refl

row_5 : row 5 ≡ map advanced (row 4)
unfolding advanced
row_5 = refl

row_6 : row 6 ≡ map advanced (row 5)
unfolding advanced
row_6 = refl

row_7 : row 7 ≡ map advanced (row 6)
unfolding advanced
row_7 = refl

first_entry : (byte : ℕ) → byte < 256 → get_or (row 0) byte 0 ≡ first_check byte
first_entry byte within =
    ap (λ entries. get_or entries byte 0) first_row ∙ get_or-map-range_with_len first_check 0 256 byte byte 0 within (zero-add byte)

-- an entry of a table, and that of the next one
next_entry : (this next : List ℕ) (behind byte : ℕ) → next ≡ map advanced this → byte < length this → get_or this byte 0 ≡ byte_check behind byte
    → get_or next byte 0 ≡ byte_check (behind + 8) byte
unfolding advanced first_check
next_entry this next behind byte follows within is =
    ap (λ entries. get_or entries byte 0) follows ∙ get_or-map advanced this byte 0 0 within ∙ ap advanced is
    ∙ ap (λ (n : ℕ). bit_xor n (byte_check behind byte % 256 * 256)) (first_entry (byte_check behind byte / 256) (let below = byte_check_below behind byte in omega arith))
    ∙ sym (byte_check_next behind byte)

entry_0 : (byte : ℕ) → byte < 256 → get_or (row 0) byte 0 ≡ byte_check 0 byte
unfolding first_check
entry_0 byte within = first_entry byte within ∙ ap (λ (xs : List Bool). number (remainder frame_divisor xs)) (sym (append-nil (bits_in 8 byte)))

entry_1 : (byte : ℕ) → byte < 256 → get_or (row 1) byte 0 ≡ byte_check 8 byte
entry_1 byte within = next_entry (row 0) (row 1) 0 byte row_1 within (entry_0 byte within)

entry_2 : (byte : ℕ) → byte < 256 → get_or (row 2) byte 0 ≡ byte_check 16 byte
entry_2 byte within = next_entry (row 1) (row 2) 8 byte row_2 within (entry_1 byte within)

entry_3 : (byte : ℕ) → byte < 256 → get_or (row 3) byte 0 ≡ byte_check 24 byte
entry_3 byte within = next_entry (row 2) (row 3) 16 byte row_3 within (entry_2 byte within)

entry_4 : (byte : ℕ) → byte < 256 → get_or (row 4) byte 0 ≡ byte_check 32 byte
entry_4 byte within = next_entry (row 3) (row 4) 24 byte row_4 within (entry_3 byte within)

entry_5 : (byte : ℕ) → byte < 256 → get_or (row 5) byte 0 ≡ byte_check 40 byte
entry_5 byte within = next_entry (row 4) (row 5) 32 byte row_5 within (entry_4 byte within)

entry_6 : (byte : ℕ) → byte < 256 → get_or (row 6) byte 0 ≡ byte_check 48 byte
entry_6 byte within = next_entry (row 5) (row 6) 40 byte row_6 within (entry_5 byte within)

entry_7 : (byte : ℕ) → byte < 256 → get_or (row 7) byte 0 ≡ byte_check 56 byte
entry_7 byte within = next_entry (row 6) (row 7) 48 byte row_7 within (entry_6 byte within)

entry_at : (behind byte : ℕ) → behind < 8 → byte < 256 → get_or (row behind) byte 0 ≡ byte_check (8 * behind) byte
entry_at zero byte few within = entry_0 byte within
entry_at (suc zero) byte few within = entry_1 byte within
entry_at (suc (suc zero)) byte few within = entry_2 byte within
entry_at (suc (suc (suc zero))) byte few within = entry_3 byte within
entry_at (suc (suc (suc (suc zero)))) byte few within = entry_4 byte within
entry_at (suc (suc (suc (suc (suc zero))))) byte few within = entry_5 byte within
entry_at (suc (suc (suc (suc (suc (suc zero)))))) byte few within = entry_6 byte within
entry_at (suc (suc (suc (suc (suc (suc (suc zero))))))) byte few within = entry_7 byte within
entry_at behind byte few within = absurd (omega arith)

pub returns : goal.returns
returns c = entry_at c.args.zeros c.args.byte c.requires c.ranges.byte.fits
