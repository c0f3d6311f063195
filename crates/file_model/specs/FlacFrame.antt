-- A FLAC frame: its header, its subframes and its footer (RFC 9639 section 9).
use Rattle.std.specs.Prelude.{◌≡◌, ◌==◌, ℕ, ℤ, Bool, List, [], ◌∷◌, take, drop, replicate, Option, None, Some, Result, Ok}
use Rattle.file_model.specs.declared.flac_info.Info.{Info}
use Rattle.file_model.specs.declared.flac_rules.FlacRule.{FlacRule}
use Rattle.file_model.specs.declared.flac_rules.FlacRule.TheVariants.{OutOfRange, FrameCheck}
use Rattle.file_model.specs.declared.pairs.Stereo.{Stereo}
use Rattle.file_model.specs.Bits.{bits}
use Rattle.file_model.specs.Crc.{crc16}
use Rattle.file_model.specs.Fields.{field, align_at}
use Rattle.file_model.specs.FlacHeader.{FlacHeader, header_at, bytes_before, of_frame}
use Rattle.file_model.specs.Outcomes.{◌>>=◌, holds, Is, Then, Finds}
use Rattle.file_model.specs.Pairs.{first_depth, second_depth, SpellsPair}
use Rattle.file_model.specs.Subframe.{Channel}

-- the samples of a frame's channels, and how many bytes it has
pub record FlacFrame : Type 0 where
  pub lists : List (List ℤ)
  pub length : ℕ

-- the bits of a coded sample in each channel: one more for a side channel (section 4.2)
abbrev pub depths_of : ℕ → ℕ → Option Stereo → List ℕ
depths_of channels depth None = replicate channels depth
depths_of channels depth (Some kind) = first_depth kind depth ∷ second_depth kind depth ∷ []

-- the channels, one after another, each with samples of its own depth (section 9.2)
abbrev pub Channels : ℕ → List ℕ → List Bool → Result (List (List ℤ) × List Bool) FlacRule → Type 0
Channels block [] bits = Is (Ok ([], bits))
Channels block (depth ∷ depths) bits =
    Then (Channel block depth bits) (λ first.
    Then (Channels block depths first.1) (λ others. Is (Ok (first.0 ∷ others.0, others.1))))

-- left and right are what the two channels spell
abbrev pub IsPairOf : Stereo → ℕ → List ℤ → List ℤ → List (List ℤ) → Type 0
IsPairOf kind depth first second lists =
    (left : List ℤ) × (right : List ℤ) × (lists ≡ left ∷ right ∷ []) × SpellsPair kind depth left right first second

-- The channels of the sound: as they stand, or left and right where two channels stand for them.
-- They are refused where they spell none (section 4.2).
abbrev pub Sounding : Option Stereo → ℕ → List (List ℤ) → Result (List (List ℤ)) FlacRule → Type 0
Sounding None depth lists = Is (Ok lists)
Sounding (Some kind) depth [] = Is (Ok [])
Sounding (Some kind) depth (first ∷ []) = Is (Ok (first ∷ []))
Sounding (Some kind) depth (first ∷ second ∷ others) = Finds (IsPairOf kind depth first second) OutOfRange

-- The footer: zeros up to a whole byte, and the check over all bytes of the frame before it
-- (section 9.3). Given are the bytes from the frame's start on, and those of their bits that stand
-- behind the subframes.
unfoldable pub footer_at : List ℕ → List Bool → Result ℕ FlacRule
footer_at bytes rest = do
  _ ← holds (align_at rest).0 FrameCheck
  check ← of_frame (field 16 (align_at rest).1)
  _ ← holds (check.0 == crc16 (take (bytes_before bytes (align_at rest).1) bytes)) FrameCheck
  Ok (bytes_before bytes check.1)

-- the rest of a frame of this header, at whose start the bytes begin
abbrev pub Body : Info → List ℕ → FlacHeader → Result FlacFrame FlacRule → Type 0
Body info bytes header =
    Then (Channels header.block (depths_of info.channels info.depth header.stereo) (bits (drop header.length bytes))) (λ coded.
    Then (Sounding header.stereo info.depth coded.0) (λ lists.
    Then (Is (footer_at bytes coded.1)) (λ end. Is (Ok (record { lists = lists; length = end })))))

-- What stands at the start of the bytes: a frame, with the samples of its channels and its length,
-- or the rule that is broken first.
abbrev pub Frame : Info → List ℕ → Result FlacFrame FlacRule → Type 0
Frame info bytes = Then (Is (header_at info bytes)) (Body info bytes)
