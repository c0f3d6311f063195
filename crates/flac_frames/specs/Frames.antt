-- A frame as the code holds it: its end, and the cells with its samples.
use Rattle.std.specs.Prelude.{◌≡◌, ◌-◌, ◌==◌, ℕ, ℤ, Bool, List, take, Option, Result, Ok}
use Rattle.std.specs.Simd.{first_chunks}
use Rattle.file_model.specs.declared.flac_rules.FlacRule.{FlacRule}
use Rattle.file_model.specs.declared.flac_rules.FlacRule.TheVariants.{FrameCheck}
use Rattle.file_model.specs.declared.pairs.Stereo.{Stereo}
use Rattle.file_model.specs.Crc.{crc16}
use Rattle.file_model.specs.Fields.{field}
use Rattle.file_model.specs.declared.flac_info.Info.{Info}
use Rattle.file_model.specs.FlacHeader.{FlacHeader, header_at, bytes_before, of_frame}
use Rattle.file_model.specs.FlacFrame.{FlacFrame, depths_of, Channels, Sounding}
use Rattle.file_model.specs.Outcomes.{◌>>=◌, holds, Is, Then}
use Rattle.flac_frames.specs.declared.frame.FrameEnd.{FrameEnd}

-- the channels of a frame, left and right where two of them stand for these
abbrev pub Sound : ℕ → ℕ → ℕ → Option Stereo → List Bool → Result (List (List ℤ) × List Bool) FlacRule → Type 0
Sound block channels depth stereo bits =
    Then (Channels block (depths_of channels depth stereo) bits) (λ coded.
    Then (Sounding stereo depth coded.0) (λ lists. Is (Ok (lists, coded.1))))

-- So many channels of a block, one after another at the start of the cells, and the bytes from a
-- place to the frame's end.
abbrev pub frame_in : List ℤ → ℕ → ℕ → FrameEnd → FlacFrame
frame_in cells channels at end = record { lists = first_chunks end.block channels cells; length = end.next - at }

-- the check over a frame's bytes, behind the zeros of its footer
unfoldable pub check_at : List ℕ → List Bool → Result ℕ FlacRule
check_at bytes rest = do
  check ← of_frame (field 16 rest)
  _ ← holds (check.0 == crc16 (take (bytes_before bytes rest) bytes)) FrameCheck
  Ok (bytes_before bytes check.1)

-- the header at the start of the bytes is of a block of so many samples
abbrev pub HasBlock : Info → List ℕ → ℕ → Type 0
HasBlock info bytes block = (header : FlacHeader) × (header_at info bytes ≡ Ok header) × (block ≡ header.block)
