-- Worked bits, fields and checks.
use Rattle.std.proofs.Common.{◌≡◌, true, false, [], ◌∷◌, ◌++◌, Ok, Err, refl}
use Rattle.std.specs.Prelude.{pos, negsuc}
use Rattle.file_model.specs.declared.bits.BitFault.TheVariants.{Cut, BadNumber}
use Rattle.file_model.specs.Bits.{bits_in, bits, number}
use Rattle.file_model.specs.Crc.{less, divided, remainder, crc8, crc16}
use Rattle.file_model.specs.Fields.{field, signed_field, unary_at, rice_at, lead, coded_more, coded_at, align_at}

-- 5 in four bits
five : bits_in 4 5 ≡ false ∷ true ∷ false ∷ true ∷ []
unfolding bits_in
five = refl

five_back : number (false ∷ true ∷ false ∷ true ∷ []) ≡ 5
unfolding number
five_back = refl

-- a field may cross bytes
crossing : field 12 (bits (0xAB ∷ 0xCD ∷ [])) ≡ Ok (0xABC, bits_in 4 0xD)
unfolding bits bits_in number field
crossing = refl

cut : field 9 (bits (0xAB ∷ [])) ≡ Err Cut
unfolding bits bits_in field
cut = refl

none : field 0 [] ≡ Ok (0, [])
unfolding number field
none = refl

minus_three : signed_field 4 (bits (0xD0 ∷ [])) ≡ Ok (negsuc 2, bits_in 4 0)
unfolding bits bits_in number field signed_field
minus_three = refl

signed_none : signed_field 0 (true ∷ []) ≡ Ok (pos 0, true ∷ [])
unfolding number field signed_field
signed_none = refl

two_zeros : unary_at (bits_in 4 3) ≡ Ok (2, true ∷ [])
unfolding bits_in unary_at
two_zeros = refl

zeros_alone : unary_at (bits_in 8 0) ≡ Err Cut
unfolding bits_in unary_at
zeros_alone = refl

-- 001 10: the quotient 2 and the low bits 2
rice : rice_at 2 (bits_in 6 0b001101) ≡ Ok (10, true ∷ [])
unfolding bits_in number field unary_at rice_at
rice = refl

rice_cut : rice_at 3 (bits_in 5 0b00110) ≡ Err Cut
unfolding bits_in number field unary_at rice_at
rice_cut = refl

-- coded numbers of one, two and seven bytes
coded_one : coded_at (bits (0x41 ∷ [])) ≡ Ok (65, [])
unfolding bits bits_in number field lead coded_more coded_at
coded_one = refl

coded_two : coded_at (bits (0xC3 ∷ 0xA9 ∷ [])) ≡ Ok (233, [])
unfolding bits bits_in number field lead coded_more coded_at
coded_two = refl

coded_seven : coded_at (bits (0xFE ∷ 0x80 ∷ 0x80 ∷ 0x80 ∷ 0x80 ∷ 0x80 ∷ 0x80 ∷ [])) ≡ Ok (0, [])
unfolding bits bits_in number field lead coded_more coded_at
coded_seven = refl

-- what is no coded number, and what ends in one
bad_first : coded_at (bits (0x80 ∷ [])) ≡ Err BadNumber
unfolding bits bits_in number field lead coded_more coded_at
bad_first = refl

bad_last_first : coded_at (bits (0xFF ∷ [])) ≡ Err BadNumber
unfolding bits bits_in number field lead coded_more coded_at
bad_last_first = refl

coded_cut : coded_at (bits (0xC3 ∷ [])) ≡ Err Cut
unfolding bits bits_in number field lead coded_more coded_at
coded_cut = refl

bad_second : coded_at (bits (0xC3 ∷ 0x29 ∷ [])) ≡ Err BadNumber
unfolding bits bits_in number field lead coded_more coded_at
bad_second = refl

bad_before_cut : coded_at (bits (0xE3 ∷ 0x29 ∷ [])) ≡ Err BadNumber
unfolding bits bits_in number field lead coded_more coded_at
bad_before_cut = refl

-- up to a whole byte over zeros, over others, and over nothing
aligned : align_at (bits_in 3 0 ++ bits (7 ∷ [])) ≡ (true, bits (7 ∷ []))
unfolding bits bits_in number align_at
aligned = refl

aligned_over_one : align_at (bits_in 3 1 ++ bits (7 ∷ [])) ≡ (false, bits (7 ∷ []))
unfolding bits bits_in number align_at
aligned_over_one = refl

aligned_already : align_at (bits (7 ∷ [])) ≡ (true, bits (7 ∷ []))
unfolding bits bits_in number align_at
aligned_already = refl

-- a message of 14 bits by x^3 + x + 1
divided_by_hand : remainder (false ∷ true ∷ true ∷ []) (bits_in 14 0b11010011101100) ≡ true ∷ false ∷ false ∷ []
unfolding bits_in less divided remainder
divided_by_hand = refl

-- the check values of both polynomials, over the digits 1 to 9
check_8 : crc8 (0x31 ∷ 0x32 ∷ 0x33 ∷ 0x34 ∷ 0x35 ∷ 0x36 ∷ 0x37 ∷ 0x38 ∷ 0x39 ∷ []) ≡ 0xF4
unfolding bits bits_in number less divided remainder crc8
check_8 = refl

check_16 : crc16 (0x31 ∷ 0x32 ∷ 0x33 ∷ 0x34 ∷ 0x35 ∷ 0x36 ∷ 0x37 ∷ 0x38 ∷ 0x39 ∷ []) ≡ 0xFEE8
unfolding bits bits_in number less divided remainder crc16
check_16 = refl

-- a frame's header, and the frame up to its end
header : crc8 (0xFF ∷ 0xF8 ∷ 0x6A ∷ 0x08 ∷ 0x00 ∷ 0x0F ∷ []) ≡ 0x0A
unfolding bits bits_in number less divided remainder crc8
header = refl

frame : crc16 (0xFF ∷ 0xF8 ∷ 0x6A ∷ 0x08 ∷ 0x00 ∷ 0x0F ∷ 0x0A ∷ 0x00 ∷ 0x00 ∷ 0x01 ∷ []) ≡ 0xBE85
unfolding bits bits_in number less divided remainder crc16
frame = refl
