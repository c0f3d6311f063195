-- The sound of a FLAC file that is accepted is a sound.
use Rattle.std.proofs.Common.{◌≡◌, ◌≤◌, ◌<◌, ◌+◌, ◌*◌, inl, inr, ℕ, zero, suc, Bool, List, [], ◌∷◌, length, take, drop, Option, Ok, refl, ap, sym, ◌∙◌, subst, arith}
use Rattle.std.specs.Prelude.{ℤ, ◌==◌, nat_le, All, IfSome}
use Rattle.std.proofs.lemmas.Bool.{eqb-true, leb-true}
use Rattle.std.proofs.lemmas.List.{length_push}
use Rattle.std.proofs.lemmas.List.Elements.{All-nil, All-append, All-push, All-get_or}
use Rattle.std.proofs.lemmas.Nat.{mul-le}
use Rattle.lib_base.specs.Sounds.{IsSample, IsSound, samples_of}
use Rattle.lib_base.specs.declared.limits.TheConstants.{MOST_SAMPLES}
use Rattle.file_model.specs.declared.flac_info.Info.{Info}
use Rattle.file_model.specs.declared.flac_rules.FlacRule.TheVariants.{FrameRate, FrameChannels, FrameDepth, HeaderCheck, FrameCheck, TooManySamples, OtherTotal, OtherMd5}
use Rattle.file_model.specs.Bits.{bits}
use Rattle.file_model.specs.Crc.{crc8, crc16}
use Rattle.file_model.specs.Fields.{field, coded_at, align_at}
use Rattle.file_model.specs.FlacFile.{FlacBlock, breaks_at, is_total, is_md5, block_of, blocks_of, channel_in, channels_in, first_content, NextFrame, FramesUpTo, sound_in, sound_at, IsFlacOf, IsFlac}
use Rattle.file_model.specs.FlacFrame.{FlacFrame, footer_at, Body, Frame}
use Rattle.file_model.specs.FlacHeader.{FlacHeader, of_frame, bytes_before, codes_at, size_at, rate_at, channels_of, stereo_of, depth_of, header_at}
use Rattle.file_model.specs.Outcomes.{holds}
use Rattle.file_model.specs.Pcm.{Pcm}
use Rattle.flac_frames.specs.Frames.{HasBlock}
use Rattle.flac_frames.proofs.Residuals.{ok_is}
use Rattle.flac_frames.proofs.Stereos.{two_channels}
use Rattle.flac_frames.proofs.Wholes.{both_give}
use Rattle.flac_stream.specs.Frames.{AreEven}
use Rattle.flac_stream.proofs.FrameSounds.{held_fact, IsLong, AreWithin, AreChannels, sounding_channels}
use Rattle.flac_stream.proofs.Hearing.{blocks_of-cons, length-channel_in}
use Rattle.flac_stream.proofs.Infos.{IsWithin, info_fits}

-- ---- the next frame

-- a pair is all of the file's channels
header_pair : (info : Info) (bytes : List ℕ) (header : FlacHeader) → header_at info bytes ≡ Ok header → IfSome header.stereo (λ _. info.channels ≡ 2)
unfolding header_at
header_pair info bytes header is =
    let codes = both_give (codes_at (bits bytes)) _ header is in
    let number = both_give (of_frame (coded_at codes.0.1)) _ header codes.2 in
    let size = both_give (size_at codes.0.0.size number.0.1) _ header number.2 in
    let rate = both_give (rate_at info.rate codes.0.0.rate size.0.1) _ header size.2 in
    let own_rate = both_give (holds (rate.0.0 == info.rate) FrameRate) _ header rate.2 in
    let fact = channels_of codes.0.0.channels == info.channels in
    let own_channels = both_give (holds fact FrameChannels) _ header own_rate.2 in
    let own_depth = both_give (holds (depth_of info.depth codes.0.0.depth == info.depth) FrameDepth) _ header own_channels.2 in
    let check = both_give (of_frame (field 8 rate.0.1)) _ header own_depth.2 in
    let checked = both_give (holds (check.0.0 == crc8 (take (bytes_before bytes rate.0.1) bytes)) HeaderCheck) _ header check.2 in
    let same : stereo_of codes.0.0.channels ≡ header.stereo = ap (λ (h : FlacHeader). h.stereo) (ok_is _ _ checked.2) in
    let channels = eqb-true (channels_of codes.0.0.channels) info.channels (held_fact fact FrameChannels own_channels.0 own_channels.1) in
    subst (λ (o : Option _). IfSome o (λ _. info.channels ≡ 2)) same (two_channels codes.0.0.channels info.channels channels)

-- a frame is no longer than the bytes that it stands in
footer_inside : (bytes : List ℕ) (rest : List Bool) (end : ℕ) → footer_at bytes rest ≡ Ok end → end ≤ length bytes
unfolding footer_at
footer_inside bytes rest end is =
    let zeros = both_give (holds (align_at rest).0 FrameCheck) _ end is in
    let check = both_give (of_frame (field 16 (align_at rest).1)) _ end zeros.2 in
    let checked = both_give (holds (check.0.0 == crc16 (take (bytes_before bytes (align_at rest).1) bytes)) FrameCheck) _ end check.2 in
    let same = ok_is _ _ checked.2 in
    omega (arith, same)

-- a frame's length, its channels and their samples
pub record IsFrameOf (info : Info) (block : ℕ) (bytes : List ℕ) (frame : FlacFrame) : Type 0 where
  pub inside : frame.length ≤ length bytes
  pub channels : AreChannels info.channels block info.depth frame.lists

body_sounds : (info : Info) (bytes : List ℕ) (header : FlacHeader) (frame : FlacFrame) → IfSome header.stereo (λ _. info.channels ≡ 2)
    → Body info bytes header (Ok frame) → IsFrameOf info header.block bytes frame
body_sounds info bytes header frame pair (inl (coded, channels, inl (lists, sounding, inl (end, footer, out)))) =
    let same : frame ≡ record { lists = lists; length = end } = ok_is _ _ out in
    subst (IsFrameOf info header.block bytes) (sym same) (record {
      inside = footer_inside bytes coded.1 end (sym footer);
      channels = sounding_channels header.stereo info.channels header.block info.depth _ coded.0 lists coded.1 pair channels sounding;
    })
body_sounds info bytes header frame pair (inl (coded, channels, inl (lists, sounding, inr (fault, footer, out)))) = cc
body_sounds info bytes header frame pair (inl (coded, channels, inr (fault, sounding, out))) = cc
body_sounds info bytes header frame pair (inr (fault, channels, out)) = cc

-- a frame that stands next, behind so many samples of each channel
pub record IsNext (info : Info) (before : ℕ) (bytes : List ℕ) (frame : FlacFrame) : Type 0 where
  pub stands : Frame info bytes (Ok frame)
  pub whole : IsFrameOf info (block_of frame) bytes frame
  pub few : before + block_of frame ≤ MOST_SAMPLES

block_is : (info : Info) (block : ℕ) (bytes : List ℕ) (frame : FlacFrame) → 1 ≤ info.channels → IsFrameOf info block bytes frame → block_of frame ≡ block
block_is info block bytes frame some is =
    let all = is.channels.as_many in
    All-get_or (IsLong block) frame.lists 0 [] (omega (arith, some, all)) is.channels.long

-- a frame has as many samples of each channel as its header says
pub frame_block : (info : Info) (bytes : List ℕ) (frame : FlacFrame) (block : ℕ) → 1 ≤ info.channels → Frame info bytes (Ok frame) → HasBlock info bytes block
    → block_of frame ≡ block
frame_block info bytes frame block some (inl (header, is, body)) (other, is_other, block_is_other) =
    let same : header ≡ other = ok_is header other (is ∙ is_other) in
    block_is info header.block bytes frame some (body_sounds info bytes header frame (header_pair info bytes header (sym is)) body)
    ∙ ap (λ (h : FlacHeader). h.block) same ∙ sym block_is_other
frame_block info bytes frame block some (inr (rule, is, out)) headed = cc

samples_few : (channels before block : ℕ) → 1 ≤ channels → channels * (before + block) ≤ MOST_SAMPLES → before + block ≤ MOST_SAMPLES
samples_few channels before block some most =
    let itself : before + block ≤ before + block = omega arith in
    let more = mul-le 1 (before + block) channels (before + block) some itself in
    omega (arith, most, more)

pub next_is : (info : Info) (before : ℕ) (bytes : List ℕ) (frame : FlacFrame) → 1 ≤ info.channels → NextFrame info before bytes (Ok frame)
    → IsNext info before bytes frame
next_is info before bytes frame some (inl (header, is, inl (fact, tried, body))) =
    let whole = body_sounds info bytes header frame (header_pair info bytes header (sym is)) body in
    let block = block_is info header.block bytes frame some whole in
    let most = leb-true (info.channels * (before + header.block)) MOST_SAMPLES (held_fact (nat_le (info.channels * (before + header.block)) MOST_SAMPLES) TooManySamples fact (sym tried)) in
    let few = samples_few info.channels before header.block some most in
    record {
      stands = inl (header, is, body);
      whole = subst (λ (n : ℕ). IsFrameOf info n bytes frame) (sym block) whole;
      few = omega (arith, few, block);
    }
next_is info before bytes frame some (inl (header, is, inr (rule, tried, out))) = cc
next_is info before bytes frame some (inr (rule, is, out)) = cc

-- ---- frames

pub frames_even : (info : Info) (frames : List FlacFrame) (before : ℕ) (bytes rest : List ℕ) → 1 ≤ info.channels → FramesUpTo info before bytes frames rest
    → AreEven info.channels frames
frames_even info [] before bytes rest some goes = tt
frames_even info (frame ∷ frames) before bytes rest some goes =
    let next = next_is info before bytes frame some goes.0 in (
      λ channel less.
          let all = next.whole.channels.as_many in
          All-get_or (IsLong (block_of frame)) frame.lists channel [] (omega (arith, less, all)) next.whole.channels.long,
      frames_even info frames (before + block_of frame) (drop frame.length bytes) rest some goes.1,
    )

frames_few : (info : Info) (frames : List FlacFrame) (before : ℕ) (bytes rest : List ℕ) → 1 ≤ info.channels → before ≤ MOST_SAMPLES
    → FramesUpTo info before bytes frames rest → before + blocks_of frames ≤ MOST_SAMPLES
frames_few info [] before bytes rest some few goes = omega (arith, few)
frames_few info (frame ∷ frames) before bytes rest some few goes =
    let next = next_is info before bytes frame some goes.0 in
    let more = frames_few info frames (before + block_of frame) (drop frame.length bytes) rest some next.few goes.1 in
    let parts = blocks_of-cons frame frames in
    omega (arith, more, parts)

channel_within : (info : Info) (channel : ℕ) (frames : List FlacFrame) (before : ℕ) (bytes rest : List ℕ) → 1 ≤ info.channels → channel < info.channels
    → FramesUpTo info before bytes frames rest → All (IsSample info.depth) (channel_in frames channel)
channel_within info channel [] before bytes rest some less goes = All-nil (IsSample info.depth)
channel_within info channel (frame ∷ frames) before bytes rest some less goes =
    let next = next_is info before bytes frame some goes.0 in
    let all = next.whole.channels.as_many in
    All-append (IsSample info.depth) (samples_of frame.lists channel) (channel_in frames channel)
    (All-get_or (AreWithin info.depth) frame.lists channel [] (omega (arith, less, all)) next.whole.channels.within)
    (channel_within info channel frames (before + block_of frame) (drop frame.length bytes) rest some less goes.1)

-- ---- all channels

pub length-channels_in : (frames : List FlacFrame) (count : ℕ) → length (channels_in frames count) ≡ count
length-channels_in frames zero = refl
length-channels_in frames (suc count) =
    let so_far = length-channels_in frames count in
    let more = length_push (channels_in frames count) (channel_in frames count) in
    omega (arith, so_far, more)

channels_all : (P : List ℤ → Type 0) (frames : List FlacFrame) (count channels : ℕ) → count ≤ channels → ((channel : ℕ) → channel < channels → P (channel_in frames channel))
    → All P (channels_in frames count)
channels_all P frames zero channels few each = All-nil P
channels_all P frames (suc count) channels few each =
    All-push P (channels_in frames count) (channel_in frames count) (channels_all P frames count channels (omega (arith, few)) each)
    (each count (omega (arith, few)))

-- what the frames of a file spell is a sound
sound_of_frames : (info : Info) (frames : List FlacFrame) (bytes : List ℕ) → IsWithin info → FramesUpTo info 0 bytes frames []
    → IsSound (channels_in frames info.channels) info.depth (blocks_of frames)
sound_of_frames info frames bytes within goes =
    let some = within.some in
    let few = within.few in
    let itself : info.channels ≤ info.channels = omega arith in
    let long = length-channels_in frames info.channels in
    let most = frames_few info frames 0 bytes [] some (omega arith) goes in
    let even = frames_even info frames 0 bytes [] some goes in
    record {
      has_channel = omega (arith, some, long);
      few_channels = omega (arith, few, long);
      least_depth = within.low;
      greatest_depth = within.high;
      short = omega (arith, most);
      equal =
          channels_all (λ (xs : List ℤ). length xs ≡ blocks_of frames) frames info.channels info.channels itself
          (λ channel less. length-channel_in info.channels channel frames even less);
      within =
          channels_all (λ (xs : List ℤ). All (IsSample info.depth) xs) frames info.channels info.channels itself
          (λ channel less. channel_within info channel frames 0 bytes [] some less goes);
    }

-- the sound of a file is that of its frames
pub sound_is : (info : Info) (frames : List FlacFrame) (sound : Pcm) → sound_at info frames ≡ Ok sound → sound_in info frames ≡ sound
unfolding sound_at
sound_is info frames sound is =
    let total = both_give (holds (is_total info.total (blocks_of frames)) (breaks_at OtherTotal 13)) _ sound is in
    let md5 = both_give (holds (is_md5 info.md5 (sound_in info frames)) (breaks_at OtherMd5 18)) _ sound total.2 in
    ok_is _ _ md5.2

-- an accepted FLAC file's sound is a sound
pub IsFlacOf_sounds : (bytes : List ℕ) (blocks : List FlacBlock) (info : Info) (frames : List FlacFrame) (sound : Pcm)
    → IsFlacOf bytes blocks info frames sound → IsSound sound.lists sound.depth sound.frames
IsFlacOf_sounds bytes blocks info frames sound is =
    subst (λ (s : Pcm). IsSound s.lists s.depth s.frames) (sound_is info frames sound is.sounds)
    (sound_of_frames info frames is.frame_bytes (info_fits (first_content blocks) info is.says) is.whole)

pub IsFlac_sounds : (bytes : List ℕ) (sound : Pcm) → IsFlac bytes sound → IsSound sound.lists sound.depth sound.frames
IsFlac_sounds bytes sound (blocks, info, frames, is) = IsFlacOf_sounds bytes blocks info frames sound is

-- and has no more frames than a file may have samples
pub IsFlac_few : (bytes : List ℕ) (sound : Pcm) → IsFlac bytes sound → sound.frames ≤ MOST_SAMPLES
IsFlac_few bytes sound (blocks, info, frames, is) =
    let some = (info_fits (first_content blocks) info is.says).some in
    let few = frames_few info frames 0 is.frame_bytes [] some (omega arith) is.whole in
    subst (λ (s : Pcm). s.frames ≤ MOST_SAMPLES) (sound_is info frames sound is.sounds) (omega (arith, few))
