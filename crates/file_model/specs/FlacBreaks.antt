-- The rule that a FLAC file breaks first, and the place where it breaks it. What stands before that
-- place is as it is in a FLAC file.
use Rattle.std.specs.Prelude.{◌≡◌, ◌≢◌, ◌⊎◌, ◌+◌, ◌<◌, ℕ, List, [], length, drop, codes, Ok, Err}
use Rattle.lib_base.specs.Sounds.{part}
use Rattle.file_model.specs.declared.flac_fields.TheConstants.{BLOCKS_AT}
use Rattle.file_model.specs.declared.flac_info.Info.{Info}
use Rattle.file_model.specs.declared.flac_rules.FlacRule.{FlacRule}
use Rattle.file_model.specs.declared.flac_rules.FlacRule.TheVariants.{NoFlac}
use Rattle.file_model.specs.FlacFile.{FlacBlock, block_at, BlocksUpTo, info_at, blocks_of, NextFrame, FramesUpTo, sound_at, first_content, IsHead}
use Rattle.file_model.specs.FlacFrame.{FlacFrame}

-- others than `fLaC` at the start (RFC 9639 section 6)
pub record IsNoFlac (bytes : List ℕ) (rule : FlacRule) (place : ℕ) : Type 0 where
  pub other : part bytes 0 BLOCKS_AT ≢ codes "fLaC"
  pub rule_is : rule ≡ NoFlac
  pub place_is : place ≡ 0

-- behind whole blocks comes one that breaks the rule, seen at its head
pub record BreaksInBlock (bytes : List ℕ) (rule : FlacRule) (place : ℕ) : Type 0 where
  pub marked : part bytes 0 BLOCKS_AT ≡ codes "fLaC"
  pub before : List FlacBlock
  pub rest : List ℕ
  pub up_to_here : BlocksUpTo [] (drop BLOCKS_AT bytes) before rest
  pub breaks : block_at before rest ≡ Err rule
  pub place_is : place + length rest ≡ length bytes

-- behind whole blocks, STREAMINFO's fields break the rule
pub record BreaksInInfo (bytes : List ℕ) (rule : FlacRule) (place : ℕ) : Type 0 where
  pub blocks : List FlacBlock
  pub rest : List ℕ
  pub head : IsHead bytes blocks rest
  pub breaks : info_at (first_content blocks) ≡ Err (record { rule = rule; place = place })

-- behind whole blocks and whole frames come bytes that break the rule as a frame, seen at their start
pub record BreaksInFrame (bytes : List ℕ) (rule : FlacRule) (place : ℕ) : Type 0 where
  pub blocks : List FlacBlock
  pub frame_bytes : List ℕ
  pub head : IsHead bytes blocks frame_bytes
  pub info : Info
  pub says : info_at (first_content blocks) ≡ Ok info
  pub frames : List FlacFrame
  pub rest : List ℕ
  pub up_to_here : FramesUpTo info 0 frame_bytes frames rest
  pub some : 0 < length rest
  pub breaks : NextFrame info (blocks_of frames) rest (Err rule)
  pub place_is : place + length rest ≡ length bytes

-- blocks and frames are whole to the file's end, and STREAMINFO's total or MD5 breaks the rule
pub record BreaksAtEnd (bytes : List ℕ) (rule : FlacRule) (place : ℕ) : Type 0 where
  pub blocks : List FlacBlock
  pub frame_bytes : List ℕ
  pub head : IsHead bytes blocks frame_bytes
  pub info : Info
  pub says : info_at (first_content blocks) ≡ Ok info
  pub frames : List FlacFrame
  pub whole : FramesUpTo info 0 frame_bytes frames []
  pub breaks : sound_at info frames ≡ Err (record { rule = rule; place = place })

-- the bytes break the rule at the place, before any other
abbrev pub FlacBreaks : List ℕ → FlacRule → ℕ → Type 0
FlacBreaks bytes rule place =
    IsNoFlac bytes rule place ⊎ (BreaksInBlock bytes rule place ⊎ (BreaksInInfo bytes rule place
    ⊎ (BreaksInFrame bytes rule place ⊎ BreaksAtEnd bytes rule place)))
