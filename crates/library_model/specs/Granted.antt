-- Which imports and retakes nothing refuses.
use Rattle.std.specs.Prelude.{◌≡◌, ◌||◌, ℕ, true, false, List, None, Some, Option, nat_le}
use Rattle.lib_base.specs.declared.files.Summary.{Summary}
use Rattle.lib_base.specs.declared.limits.TheConstants.{NUMBERS_END}
use Rattle.file_model.specs.Pcm.{Pcm}
use Rattle.library_model.specs.declared.messages.Command.{Command}
use Rattle.library_model.specs.declared.messages.Command.TheVariants.{NewAlbum, Import, Retake, Regroup, RemoveRecording, RemoveAlbum}
use Rattle.library_model.specs.Asked.{Asked, change, command, malformed, question, refused}
use Rattle.library_model.specs.Findings.{Finds, measured}
use Rattle.library_model.specs.Machine.{imported, is_crowded, is_there, kept_under, recording_of}
use Rattle.library_model.specs.State.{Recording, State}

-- an import into an album that is there, or into none, of a file that reads as a sound: the album has room for it, and numbers are left
pub record IsImportable (s : State) (album : Option ℕ) (name file : List ℕ) : Type 0 where
  pub there : is_there album s.albums ≡ true
  pub sound : Pcm
  pub summary : Summary
  pub finds : Finds file (measured sound summary)
  pub room : is_crowded album (imported s album name file sound summary).recordings ≡ false
  pub left : (nat_le NUMBERS_END s.next_recording || nat_le NUMBERS_END s.next_take) ≡ false

-- a retake of a recording that is there with a file that reads as a sound, where a take is left
pub record IsRetakable (s : State) (id : ℕ) (file : List ℕ) : Type 0 where
  pub recording : Recording
  pub there : recording_of id s.recordings ≡ Some recording
  pub sound : Pcm
  pub summary : Summary
  pub finds : Finds file (measured sound summary)
  pub left : nat_le NUMBERS_END s.next_take ≡ false

-- nothing refuses the command, an import or a retake
abbrev pub IsUnrefused : State → Command → Type 0
IsUnrefused s (NewAlbum name) = ⊥
IsUnrefused s (Import album name file) = IsImportable s album name file
IsUnrefused s (Retake id file) = IsRetakable s id file
IsUnrefused s (Regroup id album) = ⊥
IsUnrefused s (RemoveRecording id) = ⊥
IsUnrefused s (RemoveAlbum id) = ⊥

-- an import or a retake under a fresh token, which nothing refuses
abbrev pub IsGrantable : State → Asked → Type 0
IsGrantable s (refused reply) = ⊥
IsGrantable s (question about) = ⊥
IsGrantable s (change token mark (malformed reply)) = ⊥
IsGrantable s (change token mark (command wanted)) = (kept_under token s.replies ≡ None) × IsUnrefused s wanted
