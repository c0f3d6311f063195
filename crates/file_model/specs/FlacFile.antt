-- A FLAC file: `fLaC`, metadata blocks, and frames to the file's end (RFC 9639 sections 6 to 9).
-- What stands next is a block or a frame, or the rule that is broken first.
use Rattle.std.specs.Prelude.{◌≡◌, ◌+◌, ◌*◌, ◌/◌, ◌==◌, ◌&&◌, ◌||◌, ℕ, zero, suc, ℤ, Bool, true, false, not, nat_le, nat_eq, List, [], ◌∷◌, ◌++◌, length, take, drop, flat_map, sum_by, codes, Result, Ok, Err}
use Rattle.std.specs.List.{list_any, list_all}
use Rattle.std.specs.Int.{w32, cast_unsigned}
use Rattle.std.specs.Cmp.Lexicographic.{pointwise}
use Rattle.md5.specs.Md5.{md5}
use Rattle.lib_base.specs.Sounds.{part, samples_of}
use Rattle.lib_base.specs.declared.limits.TheConstants.{SAMPLE_RATE, MOST_CHANNELS, LEAST_DEPTH, GREATEST_DEPTH, MOST_SAMPLES}
use Rattle.file_model.specs.declared.bits.BitFault.{BitFault}
use Rattle.file_model.specs.declared.flac_fields.TheConstants.{BLOCKS_AT, BLOCK_HEAD_BYTES, STREAMINFO, COMMENTS, INVALID, STREAMINFO_BYTES, RATE_AT, CHANNELS_AT, TOTAL_AT, MD5_AT}
use Rattle.file_model.specs.declared.flac_info.Info.{Info}
use Rattle.file_model.specs.declared.flac_rules.FlacRule.{FlacRule}
use Rattle.file_model.specs.declared.flac_rules.FlacRule.TheVariants.{CutBlock, InvalidBlock, NoStreaminfo, RepeatedBlock, OtherRate, OtherChannels, OtherDepth, OtherTotal, OtherMd5, TooManySamples}
use Rattle.file_model.specs.Bits.{bits, number}
use Rattle.file_model.specs.Chunks.{four_bytes}
use Rattle.file_model.specs.Fields.{field}
use Rattle.file_model.specs.FlacFrame.{FlacFrame, Body}
use Rattle.file_model.specs.FlacHeader.{header_at}
use Rattle.file_model.specs.Outcomes.{◌>>=◌, holds, Is, Then}
use Rattle.file_model.specs.Pcm.{Pcm, interleaved}

-- a rule, and the place in the file where it is broken
pub record FlacBreak : Type 0 where
  pub rule : FlacRule
  pub place : ℕ

-- ---- metadata blocks (section 8)

-- a block's type and its content
pub record FlacBlock : Type 0 where
  pub kind : ℕ
  pub content : List ℕ

-- a field of a block's head: it passes the end of the file, or is there
abbrev pub of_block : {A : Type 0} → Result A BitFault → Result A FlacRule
of_block (Ok value) = Ok value
of_block (Err fault) = Err CutBlock

-- the first block is STREAMINFO, of 34 bytes (section 8.2)
abbrev pub may_stand_first : List FlacBlock → ℕ → ℕ → Bool
may_stand_first [] kind count = (kind == STREAMINFO) && (count == STREAMINFO_BYTES)
may_stand_first (first ∷ more) kind count = true

-- a second STREAMINFO, or a second block of comments (sections 8.2 and 8.6)
abbrev pub is_repeat : List FlacBlock → ℕ → Bool
is_repeat before kind =
    ((kind == STREAMINFO) || (kind == COMMENTS)) && list_any (λ (block : FlacBlock). block.kind == kind) before

-- a block, whether it is flagged as the last one, and the bytes behind it
pub record BlockRead : Type 0 where
  pub is_last : Bool
  pub block : FlacBlock
  pub rest : List ℕ

-- The block at the start of these bytes, which stand behind some other blocks (section 8.1).
unfoldable pub block_at : List FlacBlock → List ℕ → Result BlockRead FlacRule
block_at before bytes = do
  last ← of_block (field 1 (bits bytes))
  kind ← of_block (field 7 last.1)
  count ← of_block (field 24 kind.1)
  _ ← holds (nat_le (BLOCK_HEAD_BYTES + count.0) (length bytes)) CutBlock
  _ ← holds (not (kind.0 == INVALID)) InvalidBlock
  _ ← holds (may_stand_first before kind.0 count.0) NoStreaminfo
  _ ← holds (not (is_repeat before kind.0)) RepeatedBlock
  Ok (record {
    is_last = last.0 == 1;
    block = record { kind = kind.0; content = part bytes BLOCK_HEAD_BYTES count.0 };
    rest = drop (BLOCK_HEAD_BYTES + count.0) bytes;
  })

-- Behind some blocks the bytes are these ones, none of them flagged as the last, and then the rest.
abbrev pub BlocksUpTo : List FlacBlock → List ℕ → List FlacBlock → List ℕ → Type 0
BlocksUpTo before bytes [] rest = bytes ≡ rest
BlocksUpTo before bytes (block ∷ blocks) rest =
    (more : List ℕ) × (block_at before bytes ≡ Ok (record { is_last = false; block = block; rest = more }))
    × BlocksUpTo (before ++ block ∷ []) more blocks rest

-- The bytes are these blocks, of which the last one is flagged and no other, and then the rest.
pub record AreBlocks (bytes : List ℕ) (blocks : List FlacBlock) (rest : List ℕ) : Type 0 where
  pub before : List FlacBlock
  pub last : FlacBlock
  pub last_bytes : List ℕ
  pub up_to_last : BlocksUpTo [] bytes before last_bytes
  pub ends : block_at before last_bytes ≡ Ok (record { is_last = true; block = last; rest = rest })
  pub blocks_are : blocks ≡ before ++ last ∷ []

-- the number in so many bits from a bit on
abbrev pub bits_number : List ℕ → ℕ → ℕ → ℕ
bits_number content from count = number (part (bits content) from count)

-- What STREAMINFO says (section 8.2). Block and frame sizes before these fields are not consulted.
unfoldable pub info_in : List ℕ → Info
info_in content = record {
  rate = bits_number content 80 20;
  channels = bits_number content 100 3 + 1;
  depth = bits_number content 103 5 + 1;
  total = bits_number content 108 36;
  md5 = part content MD5_AT 16;
}

-- the place in the file of a byte of STREAMINFO's content
abbrev pub place_of : ℕ → ℕ
place_of byte = BLOCKS_AT + BLOCK_HEAD_BYTES + byte

-- a rule, and the place in the file of a byte of STREAMINFO
abbrev pub breaks_at : FlacRule → ℕ → FlacBreak
breaks_at rule byte = record { rule = rule; place = place_of byte }

-- what STREAMINFO says, where such a sound is read: at 48,000 Hz, of 1 to 6 channels of 4 to 24 bits
unfoldable pub info_at : List ℕ → Result Info FlacBreak
info_at content = do
  _ ← holds ((info_in content).rate == SAMPLE_RATE) (breaks_at OtherRate RATE_AT)
  _ ← holds (nat_le (info_in content).channels MOST_CHANNELS) (breaks_at OtherChannels CHANNELS_AT)
  _ ← holds (nat_le LEAST_DEPTH (info_in content).depth && nat_le (info_in content).depth GREATEST_DEPTH) (breaks_at OtherDepth CHANNELS_AT)
  Ok (info_in content)

-- ---- frames (section 9)

-- the samples of each channel in a frame
abbrev pub block_of : FlacFrame → ℕ
block_of frame = length (samples_of frame.lists 0)

-- the samples of each channel in frames
abbrev pub blocks_of : List FlacFrame → ℕ
blocks_of frames = sum_by block_of frames

-- The frame at the start of these bytes, in a file of this information that has so many samples of
-- each channel before it. How many samples are read is tried between its header and its rest.
abbrev pub NextFrame : Info → ℕ → List ℕ → Result FlacFrame FlacRule → Type 0
NextFrame info before bytes =
    Then (Is (header_at info bytes)) (λ header.
    Then (Is (holds (nat_le (info.channels * (before + header.block)) MOST_SAMPLES) TooManySamples)) (λ _.
    Body info bytes header))

-- Behind so many samples of each channel the bytes are these frames, and then the rest.
abbrev pub FramesUpTo : Info → ℕ → List ℕ → List FlacFrame → List ℕ → Type 0
FramesUpTo info before bytes [] rest = bytes ≡ rest
FramesUpTo info before bytes (frame ∷ frames) rest =
    NextFrame info before bytes (Ok frame) × FramesUpTo info (before + block_of frame) (drop frame.length bytes) frames rest

-- ---- the sound

-- the samples of a channel, frame after frame
abbrev pub channel_in : List FlacFrame → ℕ → List ℤ
channel_in frames channel = flat_map (λ (frame : FlacFrame). samples_of frame.lists channel) frames

-- the samples of the first so many channels
abbrev pub channels_in : List FlacFrame → ℕ → List (List ℤ)
channels_in frames zero = []
channels_in frames (suc count) = channels_in frames count ++ channel_in frames count ∷ []

-- the sound of frames
abbrev pub sound_in : Info → List FlacFrame → Pcm
sound_in info frames = record { depth = info.depth; frames = blocks_of frames; lists = channels_in frames info.channels }

-- a sample with a sign in as few whole bytes as its depth takes, the lowest first (section 8.2)
abbrev pub whole_bytes : ℕ → ℤ → List ℕ
whole_bytes depth sample = take ((depth + 7) / 8) (four_bytes (cast_unsigned w32 sample))

-- what the MD5 is of: the samples of all channels, interleaved (section 8.2)
abbrev pub bytes_of : Pcm → List ℕ
bytes_of sound = flat_map (whole_bytes sound.depth) (interleaved sound.frames sound.lists)

-- a total of 0 is not known
abbrev pub is_total : ℕ → ℕ → Bool
is_total total frames = (total == 0) || (total == frames)

-- an MD5 of zeros was not computed
abbrev pub is_md5 : List ℕ → Pcm → Bool
is_md5 digest sound = list_all (nat_eq 0) digest || pointwise nat_eq digest (md5 (bytes_of sound))

-- the sound of the frames of a whole file, which STREAMINFO's total and MD5 meet (section 8.2)
unfoldable pub sound_at : Info → List FlacFrame → Result Pcm FlacBreak
sound_at info frames = do
  _ ← holds (is_total info.total (blocks_of frames)) (breaks_at OtherTotal TOTAL_AT)
  _ ← holds (is_md5 info.md5 (sound_in info frames)) (breaks_at OtherMd5 MD5_AT)
  Ok (sound_in info frames)

-- ---- the file

-- the content of the first block
abbrev pub first_content : List FlacBlock → List ℕ
first_content [] = []
first_content (block ∷ blocks) = block.content

-- the bytes are `fLaC`, these blocks, and then the rest
pub record IsHead (bytes : List ℕ) (blocks : List FlacBlock) (rest : List ℕ) : Type 0 where
  pub marked : part bytes 0 BLOCKS_AT ≡ codes "fLaC"
  pub are_blocks : AreBlocks (drop BLOCKS_AT bytes) blocks rest

-- the bytes are a FLAC file of these blocks, this information, these frames and this sound
pub record IsFlacOf (bytes : List ℕ) (blocks : List FlacBlock) (info : Info) (frames : List FlacFrame) (sound : Pcm) : Type 0 where
  pub frame_bytes : List ℕ
  pub head : IsHead bytes blocks frame_bytes
  pub says : info_at (first_content blocks) ≡ Ok info
  pub whole : FramesUpTo info 0 frame_bytes frames []
  pub sounds : sound_at info frames ≡ Ok sound

-- the bytes are a FLAC file of this sound
abbrev pub IsFlac : List ℕ → Pcm → Type 0
IsFlac bytes sound =
    (blocks : List FlacBlock) × (info : Info) × (frames : List FlacFrame) × IsFlacOf bytes blocks info frames sound
