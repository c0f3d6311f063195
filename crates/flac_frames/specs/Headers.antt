-- A header as the code holds it.
use Rattle.std.specs.Prelude.{◌≡◌, ◌≤◌, ◌+◌, ◌%◌, ℕ, Bool, List, length, IfSome}
use Rattle.file_model.specs.declared.flac_info.Info.{Info}
use Rattle.file_model.specs.FlacHeader as model
use Rattle.flac_frames.specs.declared.frame.TheConstants.{GREATEST_BLOCK}
use Rattle.flac_frames.specs.declared.header.Codes.{Codes}
use Rattle.flac_frames.specs.declared.header.Header.{Header}

-- the codes at the start
abbrev pub codes_of : Codes → model.Codes
codes_of codes = record { size = codes.size; rate = codes.rate; channels = codes.channels; depth = codes.depth }

-- what the header says
abbrev pub header_of : Header → model.FlacHeader
header_of header = record { block = header.block; stereo = header.stereo; length = header.length }

-- whole bytes were read
abbrev pub TakesBytes : List Bool → List Bool → Type 0
TakesBytes before behind = (length behind ≤ length before) × (length before % 8 ≡ length behind % 8)

-- The header is one of a frame of the file: its block has samples, and no more than a block can, its
-- bytes are there, and a pair is all of the file's channels.
pub record IsFit (info : Info) (bytes : List ℕ) (at : ℕ) (header : Header) : Type 0 where
  pub some : 1 ≤ header.block
  pub few : header.block ≤ GREATEST_BLOCK
  pub inside : at + header.length ≤ length bytes
  pub pair : IfSome header.stereo (λ _. info.channels ≡ 2)
