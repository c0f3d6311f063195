-- What the library holds.
use Rattle.std.specs.Prelude.{ℕ, Bool, nat_lt, List, [], Option}
use Rattle.std.specs.Cmp.Lexicographic.{slice_cmp}
use Rattle.std.specs.Ordering.{nat_cmp, is_lt}
use Rattle.lib_base.specs.declared.files.Summary.{Summary}
use Rattle.file_model.specs.Pcm.{Pcm}

-- a recording: its id, the album that it is in, its name, its take (the number under which its file is kept), its file, the sound that
-- the file reads as, and the levels of that sound
pub record Recording : Type 0 where
  pub id : ℕ
  pub album : Option ℕ
  pub name : List ℕ
  pub take : ℕ
  pub file : List ℕ
  pub sound : Pcm
  pub summary : Summary

-- an album: its id, its name, and the levels of its recordings taken together
pub record Album : Type 0 where
  pub id : ℕ
  pub name : List ℕ
  pub summary : Summary

-- the reply that was given to a token, and the mark of its request: the MD5 of what it asked
pub record Kept : Type 0 where
  pub token : List ℕ
  pub mark : List ℕ
  pub status : ℕ
  pub body : List ℕ

-- the numbers that come next; albums and recordings in ascending order of id, and kept replies in that of their tokens
pub record State : Type 0 where
  pub next_album : ℕ
  pub next_recording : ℕ
  pub next_take : ℕ
  pub albums : List Album
  pub recordings : List Recording
  pub replies : List Kept

-- no album, no recording, no kept reply, and each number from 1
abbrev pub empty_state : State
empty_state = record {
  next_album = 1;
  next_recording = 1;
  next_take = 1;
  albums = [];
  recordings = [];
  replies = [];
}

-- albums ascend by their ids
abbrev pub album_before : Album → Album → Bool
album_before a b = nat_lt a.id b.id

-- recordings ascend by their ids
abbrev pub recording_before : Recording → Recording → Bool
recording_before a b = nat_lt a.id b.id

-- kept replies ascend by the bytes of their tokens
abbrev pub kept_before : Kept → Kept → Bool
kept_before a b = is_lt (slice_cmp nat_cmp a.token b.token)
