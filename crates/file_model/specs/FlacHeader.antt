-- The header of a FLAC frame (RFC 9639 section 9.1). What is read is a value and the bits behind
-- it, or the rule that is broken first, in the order of the bits.
use Rattle.std.specs.Prelude.{◌+◌, ◌-◌, ◌*◌, ◌/◌, ◌^◌, ◌==◌, ℕ, Bool, not, nat_lt, nat_le, if◌then◌else◌, List, length, take, Option, None, Some, Result, Ok, Err}
use Rattle.file_model.specs.declared.bits.BitFault.{BitFault}
use Rattle.file_model.specs.declared.flac_info.Info.{Info}
use Rattle.file_model.specs.declared.flac_rules.FlacRule.{FlacRule}
use Rattle.file_model.specs.declared.flac_rules.FlacRule.TheVariants.{LostSync, ReservedBlockSize, ForbiddenRate, ReservedChannels, ReservedDepth, ReservedBit, FrameRate, FrameChannels, FrameDepth, HeaderCheck}
use Rattle.file_model.specs.declared.pairs.Stereo.{Stereo}
use Rattle.file_model.specs.declared.pairs.Stereo.TheVariants.{LeftSide, SideRight, MidSide}
use Rattle.file_model.specs.Bits.{bits}
use Rattle.file_model.specs.Crc.{crc8}
use Rattle.file_model.specs.Fields.{field, coded_at}
use Rattle.file_model.specs.FlacRules.{rule_of_fault}
use Rattle.file_model.specs.Outcomes.{◌>>=◌, holds}

-- a field of a frame: where it is none, that breaks a rule
abbrev pub of_frame : {A : Type 0} → Result A BitFault → Result A FlacRule
of_frame (Ok value) = Ok value
of_frame (Err fault) = Err (rule_of_fault fault)

-- the codes at the start: of the block's size, of the rate, of the channels and of the depth
pub record Codes : Type 0 where
  pub size : ℕ
  pub rate : ℕ
  pub channels : ℕ
  pub depth : ℕ

-- the 15 bits by which a frame is found, the strategy, and the codes (sections 9.1 to 9.1.4)
unfoldable pub codes_at : List Bool → Result (Codes × List Bool) FlacRule
codes_at bits = do
  sync ← of_frame (field 15 bits)
  _ ← holds (sync.0 == 0b111111111111100) LostSync
  strategy ← of_frame (field 1 sync.1)
  size ← of_frame (field 4 strategy.1)
  _ ← holds (not (size.0 == 0)) ReservedBlockSize
  rate ← of_frame (field 4 size.1)
  _ ← holds (not (rate.0 == 15)) ForbiddenRate
  channels ← of_frame (field 4 rate.1)
  _ ← holds (nat_lt channels.0 11) ReservedChannels
  depth ← of_frame (field 3 channels.1)
  _ ← holds (not (depth.0 == 3)) ReservedDepth
  reserved ← of_frame (field 1 depth.1)
  _ ← holds (reserved.0 == 0) ReservedBit
  Ok (record { size = size.0; rate = rate.0; channels = channels.0; depth = depth.0 }, reserved.1)

-- the number of samples of each channel, which may stand behind the coded number (sections 9.1.1
-- and 9.1.6)
unfoldable pub size_at : ℕ → List Bool → Result (ℕ × List Bool) FlacRule
size_at code bits =
    if code == 1 then Ok (192, bits)
    else if nat_le code 5 then Ok (144 * 2 ^ code, bits)
    else if code == 6 then one_more 8
    else if code == 7 then one_more 16
    else Ok (2 ^ code, bits)
  where
    one_more : ℕ → Result (ℕ × List Bool) FlacRule
    one_more count = do
      less ← of_frame (field count bits)
      Ok (less.0 + 1, less.1)

-- the frames a second, for those codes that name them (section 9.1.2)
abbrev pub named_rate : ℕ → ℕ
named_rate code =
    if code == 1 then 88200
    else if code == 2 then 176400
    else if code == 3 then 192000
    else if code == 4 then 8000
    else if code == 5 then 16000
    else if code == 6 then 22050
    else if code == 7 then 24000
    else if code == 8 then 32000
    else if code == 9 then 44100
    else if code == 10 then 48000
    else 96000

-- the frames a second, which may be STREAMINFO's or stand behind the block's size (sections 9.1.2
-- and 9.1.7)
unfoldable pub rate_at : ℕ → ℕ → List Bool → Result (ℕ × List Bool) FlacRule
rate_at own code bits =
    if code == 0 then Ok (own, bits)
    else if nat_le code 11 then Ok (named_rate code, bits)
    else if code == 12 then units 1000 8
    else if code == 13 then units 1 16
    else units 10 16
  where
    units : ℕ → ℕ → Result (ℕ × List Bool) FlacRule
    units unit count = do
      many ← of_frame (field count bits)
      Ok (many.0 * unit, many.1)

-- the number of channels (section 9.1.3)
abbrev pub channels_of : ℕ → ℕ
channels_of code = if nat_lt code 8 then code + 1 else 2

-- how two channels stand for left and right (section 9.1.3)
abbrev pub stereo_of : ℕ → Option Stereo
stereo_of code =
    if code == 8 then Some LeftSide
    else if code == 9 then Some SideRight
    else if code == 10 then Some MidSide
    else None

-- the bits of a sample, which may be STREAMINFO's (section 9.1.4)
abbrev pub depth_of : ℕ → ℕ → ℕ
depth_of own code =
    if code == 0 then own
    else if code == 1 then 8
    else if code == 2 then 12
    else if code == 4 then 16
    else if code == 5 then 20
    else if code == 6 then 24
    else 32

-- the samples of each channel, how two channels stand for left and right, and the bytes of the
-- header
pub record FlacHeader : Type 0 where
  pub block : ℕ
  pub stereo : Option Stereo
  pub length : ℕ

-- how many bytes stand before these bits, which are the last ones of the bytes
abbrev pub bytes_before : List ℕ → List Bool → ℕ
bytes_before bytes rest = length bytes - length rest / 8

-- The header of a frame of a file of this information, at the start of the bytes. The coded number
-- is not consulted (sections 9.1.5 and 9.1.8).
unfoldable pub header_at : Info → List ℕ → Result FlacHeader FlacRule
header_at info bytes = do
  codes ← codes_at (bits bytes)
  number ← of_frame (coded_at codes.1)
  size ← size_at codes.0.size number.1
  rate ← rate_at info.rate codes.0.rate size.1
  _ ← holds (rate.0 == info.rate) FrameRate
  _ ← holds (channels_of codes.0.channels == info.channels) FrameChannels
  _ ← holds (depth_of info.depth codes.0.depth == info.depth) FrameDepth
  check ← of_frame (field 8 rate.1)
  _ ← holds (check.0 == crc8 (take (bytes_before bytes rate.1) bytes)) HeaderCheck
  Ok (record { block = size.0; stereo = stereo_of codes.0.channels; length = bytes_before bytes check.1 })
