-- Frames as they are kept while a file is read, and the MD5 of their samples.
use Rattle.std.specs.Prelude.{◌≡◌, ◌≤◌, ◌<◌, ◌+◌, ◌*◌, ◌/◌, ℕ, ℤ, Bool, true, not, nat_eq, List, [], ◌∷◌, ◌++◌, length, take, drop, ⊤, Ok}
use Rattle.std.specs.List.{flat_map, list_all}
use Rattle.std.specs.Int.{w32, cast_unsigned}
use Rattle.std.specs.Simd.{first_chunks}
use Rattle.md5.specs.Md5.{Holds}
use Rattle.lib_base.specs.Sounds.{samples_of}
use Rattle.file_model.specs.declared.flac_info.Info.{Info}
use Rattle.file_model.specs.Chunks.{four_bytes}
use Rattle.file_model.specs.FlacFile.{FlacBlock, IsHead, first_content, info_at, block_of, blocks_of, FramesUpTo, sound_in, bytes_of}
use Rattle.file_model.specs.FlacFrame.{FlacFrame}
use Rattle.file_model.specs.Pcm.{interleaved}
use Rattle.flac_stream.specs.declared.digest.SoundDigest.{SoundDigest}
use Rattle.flac_stream.specs.declared.frames.FramePlace.{FramePlace}

-- a sample in so many bytes
abbrev pub in_bytes : ℕ → ℤ → List ℕ
in_bytes count sample = take count (four_bytes (cast_unsigned w32 sample))

-- how many bytes a sample of this depth takes
abbrev pub bytes_for : ℕ → ℕ
bytes_for depth = (depth + 7) / 8

-- whether an MD5 is one that was computed
abbrev pub is_asked : List ℕ → Bool
is_asked digest = not (list_all (nat_eq 0) digest)

-- The digest is that of the message so far, where it is asked for.
pub record WasFed (asked : Bool) (digest : SoundDigest) (message : List ℕ) : Type 0 where
  pub asked_is : digest.is_asked ≡ asked
  pub holds : asked ≡ true → (held : List ℕ) × Holds digest.hasher held × (held ++ digest.piece.items ≡ message)

-- the call that fed a frame's samples
abbrev pub FedFrame : ℕ → ℕ → ℕ → List ℤ → SoundDigest → SoundDigest → Type 0
FedFrame count block channels cells old new =
    (asked : Bool) (message : List ℕ) → WasFed asked old message
    → WasFed asked new (message ++ flat_map (in_bytes count) (interleaved block (first_chunks block channels cells)))

-- each of so many channels has as many samples as the frame's first one
abbrev pub IsEven : ℕ → FlacFrame → Type 0
IsEven channels frame = (channel : ℕ) → channel < channels → length (samples_of frame.lists channel) ≡ block_of frame

abbrev pub AreEven : ℕ → List FlacFrame → Type 0
AreEven channels [] = ⊤
AreEven channels (frame ∷ frames) = IsEven channels frame × AreEven channels frames

-- where each frame begins, and how many samples of each channel stand before it
abbrev pub places_from : ℕ → ℕ → List FlacFrame → List FramePlace
places_from at before [] = []
places_from at before (frame ∷ frames) =
    record { at = at; first = before } ∷ places_from (at + frame.length) (before + block_of frame) frames

-- the place behind frames, of which the first begins here
abbrev pub end_from : ℕ → List FlacFrame → ℕ
end_from at [] = at
end_from at (frame ∷ frames) = end_from (at + frame.length) frames

-- the file has whole blocks before this place, of which STREAMINFO says this
pub record IsStarted (bytes : List ℕ) (info : Info) (start : ℕ) : Type 0 where
  pub blocks : List FlacBlock
  pub head : IsHead bytes blocks (drop start bytes)
  pub says : info_at (first_content blocks) ≡ Ok info

-- Whole frames stand from the one place up to the other. They have so many samples of each channel,
-- they begin at these places, and this is the digest of their samples.
pub record AreHeard (info : Info) (bytes : List ℕ) (start at before : ℕ) (places : List FramePlace) (digest : SoundDigest) : Type 0 where
  pub frames : List FlacFrame
  pub goes : FramesUpTo info 0 (drop start bytes) frames (drop at bytes)
  pub count_is : blocks_of frames ≡ before
  pub even : AreEven info.channels frames
  pub places_are : places ≡ places_from start 0 frames
  pub end_is : end_from start frames ≡ at
  pub inside : at ≤ length bytes
  pub fed : WasFed (is_asked info.md5) digest (bytes_of (sound_in info frames))
