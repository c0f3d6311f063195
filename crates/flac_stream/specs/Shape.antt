-- What callers see of a FLAC file, and what reading it gives.
use Rattle.std.specs.Prelude.{◌≡◌, ℕ, List, drop, Option}
use Rattle.file_model.specs.declared.flac_info.Info.{Info}
use Rattle.file_model.specs.FlacFile.{FlacBlock, IsFlacOf}
use Rattle.file_model.specs.FlacFrame.{FlacFrame}
use Rattle.file_model.specs.Pcm.{Pcm}
use Rattle.flac_stream.specs.declared.blocks.Block.{Block as Stored}
use Rattle.flac_stream.specs.declared.frames.FramePlace.{FramePlace}
use Rattle.flac_stream.specs.Blocks.{AreKept}
use Rattle.flac_stream.specs.Frames.{places_from}

-- what STREAMINFO says, the blocks, which of them holds comments, the samples of each channel,
-- where the first frame begins, and where each frame does
pub record Shape : Type 0 where
  pub info : Info
  pub blocks : List Stored
  pub comments : Option ℕ
  pub frames : ℕ
  pub sound_start : ℕ
  pub places : List FramePlace

-- The file is what reading the bytes gives: they are a FLAC file of these blocks, this information,
-- these frames and this sound, with their places.
pub record IsReadOf (bytes : List ℕ) (file : Shape) : Type 0 where
  pub blocks : List FlacBlock
  pub frames : List FlacFrame
  pub sound : Pcm
  pub reads : IsFlacOf bytes blocks file.info frames sound
  pub starts : reads.frame_bytes ≡ drop file.sound_start bytes
  pub kept : AreKept bytes file.sound_start file.blocks file.comments blocks
  pub count_is : file.frames ≡ sound.frames
  pub places_are : file.places ≡ places_from file.sound_start 0 frames
