-- Frames of a file that were heard, and their samples in lists.
use Rattle.std.specs.Prelude.{◌≡◌, ℕ, ℤ, List, [], ◌∷◌, ◌++◌}
use Rattle.file_model.specs.declared.flac_info.Info.{Info}
use Rattle.file_model.specs.FlacFile.{channels_in}
use Rattle.file_model.specs.FlacFrame.{FlacFrame}
use Rattle.flac_stream.specs.declared.frames.Frames.{Frames}
use Rattle.flac_stream.specs.Frames.{AreHeard}

-- these are the frames from the one place up to the other
abbrev pub HaveHeard : Info → List ℕ → ℕ → ℕ → Frames → Type 0
HaveHeard info bytes start at heard = AreHeard info bytes start at heard.count heard.places.items heard.digest

-- no frame was heard yet
abbrev pub HearNone : Info → List ℕ → ℕ → Frames → Type 0
HearNone info bytes start heard = (h : HaveHeard info bytes start start heard) × (h.frames ≡ [])

-- behind what was heard up to a place this frame was heard, up to the next one
abbrev pub HearsMore : Info → List ℕ → ℕ → ℕ → FlacFrame → Frames → Frames → Type 0
HearsMore info bytes at next frame old new =
    (start : ℕ) (h : HaveHeard info bytes start at old)
    → (more : HaveHeard info bytes start next new) × (more.frames ≡ h.frames ++ frame ∷ [])

-- each list goes on with one of the others
abbrev pub joined : List (List ℤ) → List (List ℤ) → List (List ℤ)
joined [] others = []
joined (xs ∷ lists) [] = xs ∷ lists
joined (xs ∷ lists) (ys ∷ others) = (xs ++ ys) ∷ joined lists others

-- these frames were heard, and the lists are their channels
pub record AreDecoded (info : Info) (bytes : List ℕ) (start at : ℕ) (heard : Frames) (lists : List (List ℤ)) : Type 0 where
  pub frames_are : HaveHeard info bytes start at heard
  pub lists_are : lists ≡ channels_in frames_are.frames info.channels
