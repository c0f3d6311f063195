-- Worked frames: one of sixteen samples of 1, and the rule that each edit of it breaks.
use Rattle.std.proofs.Common.{◌≡◌, inl, inr, ℕ, true, false, List, [], ◌∷◌, ◌++◌, take, drop, replicate, None, Ok, Err, refl, sym, arith, lit<, lit≤}
use Rattle.std.specs.Prelude.{ℤ, pos, negsuc, ◌-ℤ◌, slice_set, map}
use Rattle.std.proofs.lemmas.Int.{ints}
use Rattle.std.proofs.lemmas.List.Elements.{All-replicate, All-get_or}
use Rattle.lib_base.specs.Sounds.{IsSample}
use Rattle.file_model.specs.declared.flac_info.Info.{Info}
use Rattle.file_model.specs.declared.flac_rules.FlacRule.TheVariants.{LostSync, ReservedBlockSize, ForbiddenRate, ReservedChannels, ReservedDepth, ReservedBit, OtherCodedNumber, FrameRate, FrameChannels, FrameDepth, HeaderCheck, SubframeBit, ReservedSubframe, WastedBits, PredictorOrder, ForbiddenPrecision, NegativeShift, OtherPartitions, OutOfRange, FrameCheck, CutFrame}
use Rattle.file_model.specs.Bits.{bits_in, bits, number}
use Rattle.file_model.specs.Crc.{less, divided, remainder, crc8, crc16}
use Rattle.file_model.specs.Fields.{field, signed_field, unary_at, rice_at, lead, coded_more, coded_at, align_at}
use Rattle.file_model.specs.FlacHeader.{codes_at, size_at, rate_at, header_at}
use Rattle.file_model.specs.FlacFrame.{Body, Frame, footer_at}
use Rattle.file_model.specs.Outcomes.{times_at}
use Rattle.file_model.proofs.Predictions.{Spells-plain}
use Rattle.file_model.specs.Predict.{at, weighted_before, predicted}
use Rattle.file_model.specs.Subframe.{Coded, unfolded, IsSpelledBy, subframe_head_at, wasted_at, subframe_at, residual_at, partition_at, partitions_at, residuals_at, predictor_at, content_at}

-- one channel of 16 bits
unfoldable pub info : Info
info = record { rate = 48000; channels = 1; depth = 16; total = 16; md5 = replicate 16 0 }

-- a header of seven bytes, a subframe of three, and the check
unfoldable pub frame : List ℕ
frame = 0xFF ∷ 0xF8 ∷ 0x6A ∷ 0x08 ∷ 0x00 ∷ 0x0F ∷ 0x0A ∷ 0x00 ∷ 0x00 ∷ 0x01 ∷ 0xBE ∷ 0x85 ∷ []

-- the frame with another byte at a place
abbrev edited : ℕ → ℕ → List ℕ
edited place byte = slice_set frame place byte

-- what its subframe codes
ones : Coded
ones = record { weights = []; shift = 0; numbers = replicate 16 (pos 1); wasted = 0 }

-- ---- the header

pub row_header : header_at info frame ≡ Ok (record { block = 16; stereo = None; length = 7 })
unfolding info frame bits_in bits number less divided remainder crc8 field lead coded_more coded_at codes_at size_at rate_at header_at
row_header = refl

row_sync : header_at info (edited 1 0xF0) ≡ Err LostSync
unfolding info frame bits_in bits number less divided remainder crc8 field lead coded_more coded_at codes_at size_at rate_at header_at
row_sync = refl

row_block_size : header_at info (edited 2 0x0A) ≡ Err ReservedBlockSize
unfolding info frame bits_in bits number less divided remainder crc8 field lead coded_more coded_at codes_at size_at rate_at header_at
row_block_size = refl

row_rate_code : header_at info (edited 2 0x6F) ≡ Err ForbiddenRate
unfolding info frame bits_in bits number less divided remainder crc8 field lead coded_more coded_at codes_at size_at rate_at header_at
row_rate_code = refl

row_channel_code : header_at info (edited 3 0xB8) ≡ Err ReservedChannels
unfolding info frame bits_in bits number less divided remainder crc8 field lead coded_more coded_at codes_at size_at rate_at header_at
row_channel_code = refl

row_depth_code : header_at info (edited 3 0x06) ≡ Err ReservedDepth
unfolding info frame bits_in bits number less divided remainder crc8 field lead coded_more coded_at codes_at size_at rate_at header_at
row_depth_code = refl

row_reserved_bit : header_at info (edited 3 0x09) ≡ Err ReservedBit
unfolding info frame bits_in bits number less divided remainder crc8 field lead coded_more coded_at codes_at size_at rate_at header_at
row_reserved_bit = refl

row_coded_number : header_at info (edited 4 0x80) ≡ Err OtherCodedNumber
unfolding info frame bits_in bits number less divided remainder crc8 field lead coded_more coded_at codes_at size_at rate_at header_at
row_coded_number = refl

row_rate : header_at info (edited 2 0x69) ≡ Err FrameRate
unfolding info frame bits_in bits number less divided remainder crc8 field lead coded_more coded_at codes_at size_at rate_at header_at
row_rate = refl

row_channels : header_at info (edited 3 0x18) ≡ Err FrameChannels
unfolding info frame bits_in bits number less divided remainder crc8 field lead coded_more coded_at codes_at size_at rate_at header_at
row_channels = refl

row_depth : header_at info (edited 3 0x02) ≡ Err FrameDepth
unfolding info frame bits_in bits number less divided remainder crc8 field lead coded_more coded_at codes_at size_at rate_at header_at
row_depth = refl

row_check : header_at info (edited 6 0x0B) ≡ Err HeaderCheck
unfolding info frame bits_in bits number less divided remainder crc8 field lead coded_more coded_at codes_at size_at rate_at header_at
row_check = refl

-- one byte is no header yet
row_one_byte : header_at info (0xFF ∷ []) ≡ Err CutFrame
unfolding bits_in bits number field codes_at header_at
row_one_byte = refl

-- the greatest block, which the format leaves out
row_greatest_block : size_at 7 (bits (0xFF ∷ 0xFF ∷ [])) ≡ Ok (65536, [])
unfolding bits_in bits number field size_at
row_greatest_block = refl

-- ---- a subframe

row_subframe : subframe_at 16 16 (bits (drop 7 frame)) ≡ Ok (ones, bits (0xBE ∷ 0x85 ∷ []))
unfolding frame bits_in bits number field signed_field unary_at rice_at residual_at partition_at partitions_at residuals_at predictor_at wasted_at subframe_head_at content_at subframe_at times_at ones
row_subframe = refl

row_subframe_bit : subframe_at 16 16 (bits (drop 7 (edited 7 0x80))) ≡ Err SubframeBit
unfolding frame bits_in bits number field signed_field unary_at rice_at residual_at partition_at partitions_at residuals_at predictor_at wasted_at subframe_head_at content_at subframe_at times_at
row_subframe_bit = refl

row_reserved_subframe : subframe_at 16 16 (bits (drop 7 (edited 7 0x04))) ≡ Err ReservedSubframe
unfolding frame bits_in bits number field signed_field unary_at rice_at residual_at partition_at partitions_at residuals_at predictor_at wasted_at subframe_head_at content_at subframe_at times_at
row_reserved_subframe = refl

row_wasted_bits : subframe_at 16 16 (bits (drop 7 (edited 7 0x01))) ≡ Err WastedBits
unfolding frame bits_in bits number field signed_field unary_at rice_at residual_at partition_at partitions_at residuals_at predictor_at wasted_at subframe_head_at content_at subframe_at times_at
row_wasted_bits = refl

row_order : subframe_at 16 16 (bits (drop 7 (edited 7 0x60))) ≡ Err PredictorOrder
unfolding frame bits_in bits number field signed_field unary_at rice_at residual_at partition_at partitions_at residuals_at predictor_at wasted_at subframe_head_at content_at subframe_at times_at
row_order = refl

row_precision : subframe_at 16 16 (bits (drop 7 (slice_set (edited 7 0x40) 10 0xF0))) ≡ Err ForbiddenPrecision
unfolding frame bits_in bits number field signed_field unary_at rice_at residual_at partition_at partitions_at residuals_at predictor_at wasted_at subframe_head_at content_at subframe_at times_at
row_precision = refl

row_shift : subframe_at 16 16 (bits (drop 7 (slice_set (edited 7 0x40) 10 0x08))) ≡ Err NegativeShift
unfolding frame bits_in bits number field signed_field unary_at rice_at residual_at partition_at partitions_at residuals_at predictor_at wasted_at subframe_head_at content_at subframe_at times_at
row_shift = refl

row_method : subframe_at 16 16 (bits (drop 7 (slice_set (edited 7 0x10) 8 0x80))) ≡ Err OtherPartitions
unfolding frame bits_in bits number field signed_field unary_at rice_at residual_at partition_at partitions_at residuals_at predictor_at wasted_at subframe_head_at content_at subframe_at times_at
row_method = refl

-- a unary count of wasted bits that runs to the end is a cut field, though the count breaks a rule
-- so far
row_wasted_cut : subframe_at 16 4 (bits (0x01 ∷ 0x00 ∷ [])) ≡ Err CutFrame
unfolding frame bits_in bits number field signed_field unary_at rice_at residual_at partition_at partitions_at residuals_at predictor_at wasted_at subframe_head_at content_at subframe_at times_at
row_wasted_cut = refl

-- one wasted bit of four, and -3 in the other three
row_wasted : subframe_at 1 4 (bits (0x01 ∷ 0xD0 ∷ [])) ≡ Ok (record { weights = []; shift = 0; numbers = negsuc 2 ∷ []; wasted = 1 }, bits_in 4 0)
unfolding frame bits_in bits number field signed_field unary_at rice_at residual_at partition_at partitions_at residuals_at predictor_at wasted_at subframe_head_at content_at subframe_at times_at
row_wasted = refl

-- numbers are folded as 0, -1, 1, -2
row_unfolded : map unfolded (0 ∷ 1 ∷ 2 ∷ 3 ∷ []) ≡ pos 0 ∷ negsuc 0 ∷ pos 1 ∷ negsuc 1 ∷ []
row_unfolded = refl

-- the greatest residual and the least, and one below it: a quotient of 3 and thirty low bits
row_greatest : residual_at 30 (bits_in 34 0x7FFF_FFFE) ≡ Ok (pos 0x7FFF_FFFF, [])
unfolding frame bits_in bits number field signed_field unary_at rice_at residual_at partition_at partitions_at residuals_at predictor_at wasted_at subframe_head_at content_at subframe_at times_at
row_greatest = refl

row_least : residual_at 30 (bits_in 34 0x7FFF_FFFD) ≡ Ok (negsuc 0x7FFF_FFFE, [])
unfolding frame bits_in bits number field signed_field unary_at rice_at residual_at partition_at partitions_at residuals_at predictor_at wasted_at subframe_head_at content_at subframe_at times_at
row_least = refl

row_past_least : residual_at 30 (bits_in 34 0x7FFF_FFFF) ≡ Err OutOfRange
unfolding frame bits_in bits number field signed_field unary_at rice_at residual_at partition_at partitions_at residuals_at predictor_at wasted_at subframe_head_at content_at subframe_at times_at
row_past_least = refl

-- two samples behind one warm-up sample in two partitions, of which the first is empty
row_empty_partition : residuals_at 2 1 (bits_in 15 0b000001000000001) ≡ Ok (pos 0 ∷ [], [])
unfolding bits_in number field unary_at rice_at residual_at partition_at partitions_at residuals_at times_at
row_empty_partition = refl

-- weights of two bits, and a shift of 3
row_predictor : predictor_at 2 (bits_in 13 0b0001000110111) ≡ Ok ((3, pos 1 ∷ negsuc 0 ∷ []), [])
unfolding bits_in number field signed_field predictor_at times_at
row_predictor = refl

-- ---- the footer

row_footer : footer_at frame (bits (0xBE ∷ 0x85 ∷ [])) ≡ Ok 12
unfolding frame bits_in bits number less divided remainder crc16 field align_at footer_at
row_footer = refl

row_frame_check : footer_at (edited 11 0x84) (bits (0xBE ∷ 0x84 ∷ [])) ≡ Err FrameCheck
unfolding frame bits_in bits number less divided remainder crc16 field align_at footer_at
row_frame_check = refl

row_frame_cut : footer_at (take 11 frame) (bits (0xBE ∷ [])) ≡ Err CutFrame
unfolding frame bits_in bits number less divided remainder crc16 field align_at footer_at
row_frame_cut = refl

-- a bit that is not 0 before the check, and no check behind it
row_padding : footer_at frame (true ∷ []) ≡ Err FrameCheck
unfolding number align_at footer_at
row_padding = refl

-- ---- whole frames

ones_spelled : IsSpelledBy 16 ones (replicate 16 (pos 1))
unfolding ones
ones_spelled = record {
  spelled = replicate 16 (pos 1);
  spells = Spells-plain 16 (replicate 16 (pos 1)) (All-replicate (IsSample 16) 16 (pos 1) (omega (arith, ints), omega (arith, ints)));
  shifted = refl;
}

pub row_body : Body info frame (record { block = 16; stereo = None; length = 7 }) (Ok (record { lists = replicate 16 (pos 1) ∷ []; length = 12 }))
unfolding info
row_body = inl (
  (replicate 16 (pos 1) ∷ [], bits (0xBE ∷ 0x85 ∷ [])),
  inl (
    (replicate 16 (pos 1), bits (0xBE ∷ 0x85 ∷ [])),
    inl ((ones, bits (0xBE ∷ 0x85 ∷ [])), sym row_subframe, inl (replicate 16 (pos 1), ones_spelled, refl)),
    inl (([], bits (0xBE ∷ 0x85 ∷ [])), refl, refl),
  ),
  inl (replicate 16 (pos 1) ∷ [], refl, inl (12, sym row_footer, refl)),
)

row_frame : Frame info frame (Ok (record { lists = replicate 16 (pos 1) ∷ []; length = 12 }))
row_frame = inl (record { block = 16; stereo = None; length = 7 }, sym row_header, row_body)

-- bytes whose header is broken are no frame
row_frame_of_header : Frame info (edited 1 0xF0) (Err LostSync)
row_frame_of_header = inr (LostSync, sym row_sync, refl)

-- A residual of -65,536 where a sample has 16 bits: order 0, one partition, the escape, numbers of
-- 17 bits.
far : List ℕ
far = take 7 frame ++ (0x10 ∷ 0x03 ∷ 0xE3 ∷ replicate 34 0)

far_coded : Coded
far_coded = record { weights = []; shift = 0; numbers = negsuc 65535 ∷ replicate 15 (pos 0); wasted = 0 }

row_far_header : header_at info far ≡ Ok (record { block = 16; stereo = None; length = 7 })
unfolding far info frame bits_in bits number less divided remainder crc8 field lead coded_more coded_at codes_at size_at rate_at header_at
row_far_header = refl

row_far_subframe : subframe_at 16 16 (bits (drop 7 far)) ≡ Ok (far_coded, false ∷ [])
unfolding far far_coded frame bits_in bits number field signed_field unary_at rice_at residual_at partition_at partitions_at residuals_at predictor_at wasted_at subframe_head_at content_at subframe_at times_at
row_far_subframe = refl

too_low : (sample : ℤ) → negsuc 65535 ≡ sample -ℤ pos 0 → IsSample 16 sample → ⊥
too_low sample is within = omega (arith, ints, is, within.0)

far_spells_none : (samples : List ℤ) → IsSpelledBy 16 far_coded samples → ⊥
unfolding far_coded weighted_before predicted
far_spells_none samples h =
    too_low (at h.spelled 0) (h.spells.residual 0 (lit≤ tt) (lit< tt))
    (All-get_or (IsSample 16) h.spelled 0 (pos 0) (omega (arith, h.spells.as_many)) h.spells.within)

row_out_of_range : Frame info far (Err OutOfRange)
unfolding info
row_out_of_range = inl (
  record { block = 16; stereo = None; length = 7 },
  sym row_far_header,
  inr (
    OutOfRange,
    inr (
      OutOfRange,
      inl ((far_coded, false ∷ []), sym row_far_subframe, inr (OutOfRange, (far_spells_none, refl), refl)),
      refl,
    ),
    refl,
  ),
)
