-- A sound that is read from the frames of a file.
use Rattle.std.specs.Prelude.{◌≡◌, ◌≤◌, ◌<◌, ◌+◌, ◌*◌, ℕ, ℤ, List, length, drop, map, slice_index_or, Ok}
use Rattle.std.specs.Coded.{Coded-set, coded_list, coded_ℤ}
use Rattle.std.proofs.Math.Logic.{∥∥₁_prop, ∥∥₁_elim}
use mathlib.Core.HLevel.{Σ_prop_path}
use Rattle.std.proofs.Common.{ap, sym, ◌∙◌}
use Rattle.lib_base.specs.Sounds.{part, samples_of}
use Rattle.lib_base.specs.declared.limits.TheConstants.{MOST_CHANNELS, LEAST_DEPTH, GREATEST_DEPTH}
use Rattle.file_model.specs.FlacFile.{block_of, IsFlac}
use Rattle.file_model.specs.FlacFrame.{FlacFrame, Frame}
use Rattle.file_model.specs.Pcm.{Pcm}
use Rattle.file_model.proofs.FlacLaws.{IsFlac_unique}
use Rattle.flac_stream.specs.declared.frames.FramePlace.{FramePlace}
use Rattle.flac_stream.specs.Shape.{Shape}

-- ---- the samples of a file

-- the lists are those of the sound that the bytes are a FLAC file of
abbrev pub AreListsOf : List ℕ → List (List ℤ) → Type 0
AreListsOf bytes lists = (sound : Pcm) × IsFlac bytes sound × (lists ≡ sound.lists)

-- the bytes are a FLAC file of these lists
abbrev pub HasLists : List ℕ → Type 0
HasLists bytes = (lists : List (List ℤ)) × ∥ AreListsOf bytes lists ∥₁

-- of one sound at most, so a value may keep them
pub HasLists-prop : (bytes : List ℕ) → IsProp (HasLists bytes)
HasLists-prop bytes x y =
    let same : IsProp (x.0 ≡ y.0) = Coded-set (coded_list (coded_list coded_ℤ)) x.0 y.0 in
    Σ_prop_path (λ lists. ∥∥₁_prop)
    (∥∥₁_elim x.1 same (λ h. ∥∥₁_elim y.1 same (λ k.
    h.2 ∙ ap (λ (s : Pcm). s.lists) (IsFlac_unique bytes h.0 k.0 h.1 k.1) ∙ sym k.2)))

-- ---- the frames of a file

-- how many samples of each channel stand before a frame; where there is no such frame, all of them
abbrev pub samples_before : Shape → ℕ → ℕ
samples_before file index = slice_index_or (map (λ (place : FramePlace). place.first) file.places) index file.frames

-- A frame has the samples from those before it up to those before the next one.
pub record IsPart (file : Shape) (lists : List (List ℤ)) (index : ℕ) (frame : FlacFrame) : Type 0 where
  pub next : samples_before file (index + 1) ≡ samples_before file index + block_of frame
  pub samples : (channel : ℕ) → channel < file.info.channels
      → samples_of frame.lists channel ≡ part (samples_of lists channel) (samples_before file index) (block_of frame)

-- a frame stands at a place of the bytes, and is that part of the sound
abbrev pub HasFrame : List ℕ → Shape → List (List ℤ) → ℕ → FramePlace → Type 0
HasFrame bytes file lists index place =
    (frame : FlacFrame) × Frame file.info (drop place.at bytes) (Ok frame) × IsPart file lists index frame

-- the frame of a file stands at its place
pub record IsFrameAt (bytes : List ℕ) (file : Shape) (lists : List (List ℤ)) (index : ℕ) (place : FramePlace) : Type 0 where
  pub inside : place.at ≤ length bytes
  pub found : ∥ HasFrame bytes file lists index place ∥₁

-- The frames of a file stand at their places, and they are the sound of these lists.
pub record AreFrames (bytes : List ℕ) (file : Shape) (lists : List (List ℤ)) : Type 0 where
  pub some : 1 ≤ file.info.channels
  pub few : file.info.channels ≤ MOST_CHANNELS
  pub low : LEAST_DEPTH ≤ file.info.depth
  pub high : file.info.depth ≤ GREATEST_DEPTH
  pub channels : length lists ≡ file.info.channels
  pub none_before : samples_before file 0 ≡ 0
  pub rise : (index : ℕ) → index < length file.places → samples_before file index ≤ samples_before file (index + 1)
  pub stand : (index : ℕ) (place : FramePlace) → index < length file.places
      → ((other : FramePlace) → place ≡ slice_index_or file.places index other) → IsFrameAt bytes file lists index place

-- The frame of this number has so many samples of each channel, and those of one channel stand in
-- the cells.
pub record IsInCells (file : Shape) (lists : List (List ℤ)) (cells : List ℤ) (index channel block : ℕ) : Type 0 where
  pub next : samples_before file (index + 1) ≡ samples_before file index + block
  pub fits : (channel + 1) * block ≤ length cells
  pub samples : part cells (channel * block) block ≡ part (samples_of lists channel) (samples_before file index) block
