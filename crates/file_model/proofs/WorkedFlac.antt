-- A worked file: `fLaC`, STREAMINFO, and one frame of sixteen samples of 1; and the rules that
-- edits of it break.
use Rattle.std.proofs.Common.{◌≡◌, inl, inr, ℕ, true, List, [], ◌∷◌, ◌++◌, take, drop, replicate, None, Ok, Err, refl, ap, sym, arith, lit<}
use Rattle.std.specs.Prelude.{pos, negsuc, slice_index, slice_set, codes}
use Rattle.file_model.specs.declared.flac_rules.FlacRule.TheVariants.{NoFlac, CutBlock, InvalidBlock, NoStreaminfo, RepeatedBlock, OtherRate, OtherChannels, OtherDepth, CutFrame, OtherTotal, OtherMd5, TooManySamples}
use Rattle.file_model.specs.Bits.{bits_in, bits, number}
use Rattle.file_model.specs.Fields.{field}
use Rattle.file_model.specs.FlacBreaks.{FlacBreaks}
use Rattle.file_model.specs.FlacFile.{FlacBlock, block_at, AreBlocks, info_in, info_at, NextFrame, sound_at, sound_in, IsFlacOf, bytes_of}
use Rattle.file_model.specs.FlacFrame.{FlacFrame}
use Rattle.file_model.specs.Pcm.{Pcm}
use Rattle.file_model.specs.FlacHeader.{codes_at, header_at}
use Rattle.md5.specs.Md5.{block_words, rounds, compress, hash_after, digest_bytes, md5}
use Rattle.file_model.proofs.WorkedFrames.{info, frame, row_header, row_body}

-- STREAMINFO: blocks of 16 samples, 48,000 Hz, one channel of 16 bits, 16 samples, no MD5
streaminfo : List ℕ
streaminfo =
    0x00 ∷ 0x10 ∷ 0x00 ∷ 0x10 ∷ 0x00 ∷ 0x00 ∷ 0x00 ∷ 0x00 ∷ 0x00 ∷ 0x00 ∷ 0x0B ∷ 0xB8 ∷ 0x00 ∷ 0xF0 ∷ 0x00 ∷ 0x00 ∷ 0x00 ∷ 0x10
    ∷ replicate 16 0

-- its head, flagged as the last block
head : List ℕ
head = 0x80 ∷ 0x00 ∷ 0x00 ∷ 0x22 ∷ []

-- a file of 54 bytes
file : List ℕ
file = codes "fLaC" ++ (head ++ (streaminfo ++ frame))

-- the file with another byte at a place
abbrev edited : ℕ → ℕ → List ℕ
edited place byte = slice_set file place byte

-- its one block
first : FlacBlock
first = record { kind = 0; content = streaminfo }

-- its one frame
framed : FlacFrame
framed = record { lists = replicate 16 (pos 1) ∷ []; length = 12 }

-- its sound
sound : Pcm
sound = record { depth = 16; frames = 16; lists = replicate 16 (pos 1) ∷ [] }

row_block : block_at [] (drop 4 file) ≡ Ok (record { is_last = true; block = first; rest = frame })
unfolding file head streaminfo first frame bits_in bits number field block_at
row_block = refl

row_blocks : AreBlocks (drop 4 file) (first ∷ []) frame
row_blocks = record { before = []; last = first; last_bytes = drop 4 file; up_to_last = refl; ends = row_block; blocks_are = refl }

row_info : info_at streaminfo ≡ Ok info
unfolding streaminfo info bits_in bits number info_in info_at
row_info = refl

row_next : NextFrame info 0 frame (Ok framed)
unfolding info framed
row_next = inl (record { block = 16; stereo = None; length = 7 }, sym row_header, inl (true, refl, row_body))

row_file : IsFlacOf file (first ∷ []) info (framed ∷ []) sound
unfolding file head streaminfo first frame framed info sound sound_at
row_file = record {
  frame_bytes = frame;
  head = record { marked = refl; are_blocks = row_blocks };
  says = row_info;
  whole = (row_next, refl);
  sounds = refl;
}

-- ---- other heads

row_no_flac : FlacBreaks (edited 0 0x67) NoFlac 0
unfolding file head streaminfo frame
row_no_flac = inl (record { other = λ same. let byte = ap (λ (bytes : List ℕ). slice_index bytes 0) same in omega (arith, byte); rule_is = refl; place_is = refl })

row_cut_block : FlacBreaks (take 41 file) CutBlock 4
unfolding file head streaminfo frame bits_in bits number field block_at
row_cut_block = inr (inl (record {
  marked = refl;
  before = [];
  rest = drop 4 (take 41 file);
  up_to_here = refl;
  breaks = refl;
  place_is = refl;
}))

row_no_block : block_at [] [] ≡ Err CutBlock
unfolding bits_in bits number field block_at
row_no_block = refl

row_invalid_block : block_at [] (drop 4 (edited 4 0xFF)) ≡ Err InvalidBlock
unfolding file head streaminfo frame bits_in bits number field block_at
row_invalid_block = refl

row_no_streaminfo : block_at [] (drop 4 (edited 4 0x81)) ≡ Err NoStreaminfo
unfolding file head streaminfo frame bits_in bits number field block_at
row_no_streaminfo = refl

-- STREAMINFO of 33 bytes is none, and it is as long as it says
row_short_streaminfo : block_at [] (drop 4 (edited 7 0x21)) ≡ Err NoStreaminfo
unfolding file head streaminfo frame bits_in bits number field block_at
row_short_streaminfo = refl

-- the file with its block twice
twice : List ℕ
twice = take 42 (edited 4 0x00) ++ drop 4 file

row_repeated_block : FlacBreaks twice RepeatedBlock 42
unfolding twice file head streaminfo frame first bits_in bits number field block_at
row_repeated_block = inr (inl (record {
  marked = refl;
  before = first ∷ [];
  rest = drop 4 file;
  up_to_here = (drop 4 file, refl, refl);
  breaks = refl;
  place_is = refl;
}))

row_other_rate : FlacBreaks (edited 18 0x0A) OtherRate 18
unfolding file head streaminfo frame bits_in bits number field block_at info_in info_at
row_other_rate = inr (inr (inl (record {
  blocks = record { kind = 0; content = slice_set streaminfo 10 0x0A } ∷ [];
  rest = frame;
  head = record {
    marked = refl;
    are_blocks = record {
      before = [];
      last = record { kind = 0; content = slice_set streaminfo 10 0x0A };
      last_bytes = drop 4 (edited 18 0x0A);
      up_to_last = refl;
      ends = refl;
      blocks_are = refl;
    };
  };
  breaks = refl;
})))

row_other_channels : info_at (slice_set streaminfo 12 0x0C) ≡ Err (record { rule = OtherChannels; place = 20 })
unfolding streaminfo bits_in bits number info_in info_at
row_other_channels = refl

row_other_depth : info_at (slice_set streaminfo 13 0x20) ≡ Err (record { rule = OtherDepth; place = 20 })
unfolding streaminfo bits_in bits number info_in info_at
row_other_depth = refl

-- ---- other frames

-- one sample too many over all channels, and as many as are read
row_too_many : NextFrame info 134217713 frame (Err TooManySamples)
unfolding info
row_too_many = inl (record { block = 16; stereo = None; length = 7 }, sym row_header, inr (TooManySamples, refl, refl))

row_just_enough : NextFrame info 134217712 frame (Ok framed)
unfolding info framed
row_just_enough = inl (record { block = 16; stereo = None; length = 7 }, sym row_header, inl (true, refl, row_body))

row_cut_frame : FlacBreaks (take 43 file) CutFrame 42
unfolding file head streaminfo frame first info bits_in bits number field block_at info_in info_at codes_at header_at
row_cut_frame = inr (inr (inr (inl (record {
  blocks = first ∷ [];
  frame_bytes = 0xFF ∷ [];
  head = record {
    marked = refl;
    are_blocks = record { before = []; last = first; last_bytes = drop 4 (take 43 file); up_to_last = refl; ends = refl; blocks_are = refl };
  };
  info = info;
  says = refl;
  frames = [];
  rest = 0xFF ∷ [];
  up_to_here = refl;
  some = lit< tt;
  breaks = inr (CutFrame, refl, refl);
  place_is = refl;
}))))

-- ---- other ends

-- STREAMINFO's total is one more, or not known; no frame comes where it says sixteen samples
row_other_total : sound_at (record { rate = 48000; channels = 1; depth = 16; total = 17; md5 = replicate 16 0 }) (framed ∷ [])
    ≡ Err (record { rule = OtherTotal; place = 21 })
unfolding framed sound_at
row_other_total = refl

row_no_total : sound_at (record { rate = 48000; channels = 1; depth = 16; total = 0; md5 = replicate 16 0 }) (framed ∷ []) ≡ Ok sound
unfolding framed sound sound_at
row_no_total = refl

row_no_frames : sound_at info [] ≡ Err (record { rule = OtherTotal; place = 21 })
unfolding info sound_at
row_no_frames = refl

-- an MD5 that is not that of the samples
row_other_md5 : sound_at (record { rate = 48000; channels = 1; depth = 16; total = 16; md5 = replicate 15 0 ++ 1 ∷ [] }) (framed ∷ [])
    ≡ Err (record { rule = OtherMd5; place = 26 })
unfolding framed sound_at block_words rounds compress hash_after digest_bytes md5
row_other_md5 = refl

-- two frames of two channels: each channel goes on in the next frame
row_two_frames : sound_in (record { rate = 48000; channels = 2; depth = 12; total = 0; md5 = [] })
    (record { lists = (pos 1 ∷ pos 2 ∷ []) ∷ (pos 3 ∷ pos 4 ∷ []) ∷ []; length = 9 } ∷ record { lists = (pos 5 ∷ []) ∷ (negsuc 1 ∷ []) ∷ []; length = 9 } ∷ [])
    ≡ record { depth = 12; frames = 3; lists = (pos 1 ∷ pos 2 ∷ pos 5 ∷ []) ∷ (pos 3 ∷ pos 4 ∷ negsuc 1 ∷ []) ∷ [] }
row_two_frames = refl

-- interleaved, with a sign, in two bytes each
row_bytes : bytes_of (record { depth = 12; frames = 2; lists = (pos 1 ∷ pos 258 ∷ []) ∷ (negsuc 0 ∷ negsuc 2047 ∷ []) ∷ [] })
    ≡ 0x01 ∷ 0x00 ∷ 0xFF ∷ 0xFF ∷ 0x02 ∷ 0x01 ∷ 0x00 ∷ 0xF8 ∷ []
row_bytes = refl
