-- The library as a machine: how it answers a request, and where it goes from there.
use Rattle.std.specs.Prelude.{◌≡◌, ◌+◌, ◌||◌, ◌==◌, not, ℕ, Bool, true, false, List, [], length, nat_le, nat_lt, nat_eq, map, filter, Option, None, Some, if◌then◌else◌, ⊤}
use Rattle.std.specs.Cmp.Lexicographic.{pointwise}
use Rattle.std.specs.List.{find, list_any}
use Rattle.lib_base.specs.declared.files.Summary.{Summary}
use Rattle.lib_base.specs.declared.limits.TheConstants.{NUMBERS_END, MOST_MEMBERS}
use Rattle.file_model.specs.Pcm.{Pcm}
use Rattle.keeper_store.specs.Puts.{put, without}
use Rattle.library_model.specs.declared.messages.Command.{Command}
use Rattle.library_model.specs.declared.messages.Command.TheVariants.{NewAlbum, Import, Retake, Regroup, RemoveRecording, RemoveAlbum}
use Rattle.library_model.specs.declared.messages.Question.{Question}
use Rattle.library_model.specs.declared.messages.Question.TheVariants as about
use Rattle.library_model.specs.declared.messages.Reply.{Reply}
use Rattle.library_model.specs.declared.refusals.Refusal.{Refusal}
use Rattle.library_model.specs.declared.refusals.Refusal.TheVariants.{NoRecording, NoAlbum, NotEmpty, AlbumFull, TokenUsed, Ids, Vault, Keeper, Memory}
use Rattle.library_model.specs.Asked.{Asked, Wanted, asks_vault, change, command, malformed, question, refused}
use Rattle.library_model.specs.Bodies.{album_row_reply, removed_reply, row_reply}
use Rattle.library_model.specs.Findings.{Finding, Finds, measured, broken_by}
use Rattle.library_model.specs.Replies.{format_refusal, json, refusal}
use Rattle.library_model.specs.Stands.{Resums, album_row, members, recording_row}
use Rattle.library_model.specs.State.{Album, Kept, Recording, State, album_before, kept_before, recording_before}

-- a request is answered and the state stays, or it is newly accepted with a reply and the state that it leads to
pub data Verdict : Type 0 where
  stays : Reply → Verdict
  accepts : Reply → State → Verdict

-- what a step does: it refuses, or it makes a state, whose albums are not summed yet, and says what is replied of it once they are
pub data Step : Type 0 where
  refuses : Reply → Step
  makes : (State → Reply) → State → Step

-- a state with other albums
abbrev pub with_albums : State → List Album → State
with_albums s albums = record s { albums = albums }

-- The verdict of a step: the albums of the state that it makes get the levels of their recordings.
abbrev pub Sums : Step → Verdict → Type 0
Sums (refuses reply) verdict = verdict ≡ stays reply
Sums (makes said next) verdict =
    (albums : List Album) × Resums next.recordings next.albums albums
    × (verdict ≡ accepts (said (with_albums next albums)) (with_albums next albums))

-- a refusal where a test holds, and else a step
abbrev pub unless : Bool → Refusal → Step → Step
unless true cause step = refuses (refusal cause)
unless false cause step = step

-- ---- what is replied

-- what is replied about a recording, as its row says
abbrev pub recording_reply : ℕ → Recording → Reply
recording_reply status r = row_reply status (recording_row r)

-- the ids of recordings
abbrev pub ids_of : List Recording → List ℕ
ids_of recordings = map (λ (r : Recording). r.id) recordings

-- what is replied about an album that has these recordings
abbrev pub album_reply : ℕ → Album → List Recording → Reply
album_reply status a recordings = album_row_reply status (album_row a) (ids_of recordings)

-- ---- what is named

-- the recording of an id, if there is one
abbrev pub recording_of : ℕ → List Recording → Option Recording
recording_of id recordings = find (λ (r : Recording). r.id == id) recordings

-- the album of an id, if there is one
abbrev pub album_of : ℕ → List Album → Option Album
album_of id albums = find (λ (a : Album). a.id == id) albums

-- the album that is named is there, or none is named
abbrev pub is_there : Option ℕ → List Album → Bool
is_there None albums = true
is_there (Some id) albums = list_any (λ (a : Album). a.id == id) albums

-- the album that is named has too many of these recordings
abbrev pub is_crowded : Option ℕ → List Recording → Bool
is_crowded None recordings = false
is_crowded (Some id) recordings = nat_lt MOST_MEMBERS (length (members id recordings))

-- ---- commands

-- the levels of no recording
abbrev pub no_levels : Summary
no_levels = record {
  frames = 0;
  loudness = None;
  range = None;
  momentary = None;
  short_term = None;
  true_peak = None;
  peak = 0;
  gain = None;
}

-- the album that is made under the next number
abbrev pub new_album : State → List ℕ → Album
new_album s name = record { id = s.next_album; name = name; summary = no_levels }

-- the state that has it
abbrev pub with_new_album : State → List ℕ → State
with_new_album s name = record s {
  next_album = s.next_album + 1;
  albums = put album_before (new_album s name) s.albums;
}

-- A new album, for which a number is left, has no recording.
abbrev pub new_album_step : State → List ℕ → Step
new_album_step s name =
    unless (nat_le NUMBERS_END s.next_album) Ids (makes (λ _. album_reply 201 (new_album s name) []) (with_new_album s name))

-- the recording that an import makes, under the next numbers
abbrev pub new_recording : State → Option ℕ → List ℕ → List ℕ → Pcm → Summary → Recording
new_recording s album name file sound summary = record {
  id = s.next_recording;
  album = album;
  name = name;
  take = s.next_take;
  file = file;
  sound = sound;
  summary = summary;
}

-- the state after an import
abbrev pub imported : State → Option ℕ → List ℕ → List ℕ → Pcm → Summary → State
imported s album name file sound summary = record s {
  next_recording = s.next_recording + 1;
  next_take = s.next_take + 1;
  recordings = put recording_before (new_recording s album name file sound summary) s.recordings;
}

-- An import of a file that breaks a rule is refused by that rule, then one into an album that it would crowd, and one for which no
-- number is left.
abbrev pub import_step : State → Option ℕ → List ℕ → List ℕ → Finding → Step
import_step s album name file (broken_by rule place) = refuses (format_refusal rule place)
import_step s album name file (measured sound summary) =
    unless (is_crowded album (imported s album name file sound summary).recordings) AlbumFull
    (unless (nat_le NUMBERS_END s.next_recording || nat_le NUMBERS_END s.next_take) Ids
    (makes (λ _. recording_reply 201 (new_recording s album name file sound summary)) (imported s album name file sound summary)))

-- a recording with another file, under the next take
abbrev pub retaken : State → Recording → List ℕ → Pcm → Summary → Recording
retaken s r file sound summary = record r { take = s.next_take; file = file; sound = sound; summary = summary }

-- the state that has it
abbrev pub retaking : State → Recording → List ℕ → Pcm → Summary → State
retaking s r file sound summary = record s {
  next_take = s.next_take + 1;
  recordings = put recording_before (retaken s r file sound summary) s.recordings;
}

-- A file that breaks a rule is no new take, and none is given where no number is left.
abbrev pub retake_step : State → Recording → List ℕ → Finding → Step
retake_step s r file (broken_by rule place) = refuses (format_refusal rule place)
retake_step s r file (measured sound summary) =
    unless (nat_le NUMBERS_END s.next_take) Ids
    (makes (λ _. recording_reply 200 (retaken s r file sound summary)) (retaking s r file sound summary))

-- a recording in another album, or in none
abbrev pub regrouped : Recording → Option ℕ → Recording
regrouped r album = record r { album = album }

-- the state in which it is there
abbrev pub regrouping : State → Recording → Option ℕ → State
regrouping s r album = record s { recordings = put recording_before (regrouped r album) s.recordings }

-- A recording comes into no album that it would crowd.
abbrev pub regroup_step : State → Recording → Option ℕ → Step
regroup_step s r album =
    unless (is_crowded album (regrouping s r album).recordings) AlbumFull
    (makes (λ _. recording_reply 200 (regrouped r album)) (regrouping s r album))

-- the state without a recording
abbrev pub removing : State → Recording → State
removing s r = record s { recordings = without (λ (q : Recording). q.id) r.id s.recordings }

-- A recording is removed.
abbrev pub remove_step : State → Recording → Step
remove_step s r = makes (λ _. removed_reply r.id) (removing s r)

-- the state without an album
abbrev pub removing_album : State → ℕ → State
removing_album s id = record s { albums = without (λ (a : Album). a.id) id s.albums }

-- An album with recordings is not removed.
abbrev pub remove_album_step : State → ℕ → Step
remove_album_step s id =
    unless (nat_lt 0 (length (members id s.recordings))) NotEmpty (makes (λ _. removed_reply id) (removing_album s id))

-- ---- the verdict on a command

-- what is decided of the recording that is named, where it is there
abbrev pub OfRecording : Option Recording → (Recording → Verdict → Type 0) → Verdict → Type 0
OfRecording None Decided verdict = verdict ≡ stays (refusal NoRecording)
OfRecording (Some r) Decided verdict = Decided r verdict

-- what is decided where the album that is named is there
abbrev pub OfAlbum : Bool → (Verdict → Type 0) → Verdict → Type 0
OfAlbum false Decided verdict = verdict ≡ stays (refusal NoAlbum)
OfAlbum true Decided verdict = Decided verdict

-- what is decided by what a file is found to be
abbrev pub OfFile : List ℕ → (Finding → Step) → Verdict → Type 0
OfFile file step verdict = (finding : Finding) × Finds file finding × Sums (step finding) verdict

-- The verdict on a command: what it names comes first, and then its file.
abbrev pub DecidesCommand : State → Command → Verdict → Type 0
DecidesCommand s (NewAlbum name) verdict = Sums (new_album_step s name) verdict
DecidesCommand s (Import album name file) verdict =
    OfAlbum (is_there album s.albums) (OfFile file (import_step s album name file)) verdict
DecidesCommand s (Retake id file) verdict =
    OfRecording (recording_of id s.recordings) (λ r. OfFile file (retake_step s r file)) verdict
DecidesCommand s (Regroup id album) verdict =
    OfRecording (recording_of id s.recordings) (λ r. OfAlbum (is_there album s.albums) (Sums (regroup_step s r album))) verdict
DecidesCommand s (RemoveRecording id) verdict =
    OfRecording (recording_of id s.recordings) (λ r. Sums (remove_step s r)) verdict
DecidesCommand s (RemoveAlbum id) verdict = OfAlbum (is_there (Some id) s.albums) (Sums (remove_album_step s id)) verdict

-- ---- kept replies

-- what is kept of a reply under a token
abbrev pub kept_reply : List ℕ → List ℕ → Reply → Kept
kept_reply token mark reply = record { token = token; mark = mark; status = reply.status; body = reply.body }

-- An accepted verdict keeps its reply under its token; a refusal keeps nothing.
abbrev pub keeping : List ℕ → List ℕ → Verdict → Verdict
keeping token mark (stays reply) = stays reply
keeping token mark (accepts reply next) =
    accepts reply (record next { replies = put kept_before (kept_reply token mark reply) next.replies })

-- what is kept under a token, if anything is
abbrev pub kept_under : List ℕ → List Kept → Option Kept
kept_under token replies = find (λ (k : Kept). pointwise nat_eq k.token token) replies

-- a request of the same mark as the one that was accepted is given its reply again; another one is refused
abbrev pub repeat_reply : List ℕ → Kept → Reply
repeat_reply mark kept = if pointwise nat_eq kept.mark mark then json kept.status kept.body else refusal TokenUsed

-- The verdict on a change whose token is kept, or is fresh.
abbrev pub DecidesChange : State → List ℕ → List ℕ → Wanted → Option Kept → Verdict → Type 0
DecidesChange s token mark wanted (Some kept) verdict = verdict ≡ stays (repeat_reply mark kept)
DecidesChange s token mark (malformed reply) None verdict = verdict ≡ stays reply
DecidesChange s token mark (command wanted) None verdict =
    (decided : Verdict) × DecidesCommand s wanted decided × (verdict ≡ keeping token mark decided)

-- ---- what is asked

-- what is replied about the recording that was looked for
abbrev pub found_reply : Option Recording → Reply
found_reply (Some r) = recording_reply 200 r
found_reply None = refusal NoRecording

-- what is replied about the album that was looked for
abbrev pub found_album_reply : State → Option Album → Reply
found_album_reply s (Some a) = album_reply 200 a (members a.id s.recordings)
found_album_reply s None = refusal NoAlbum

-- what is replied to a question
abbrev pub question_reply : State → Question → Reply
question_reply s (about.Recording id) = found_reply (recording_of id s.recordings)
question_reply s (about.Album id) = found_album_reply s (album_of id s.albums)

-- the verdict on what is asked: a question is answered from the state
abbrev pub Decides : State → Asked → Verdict → Type 0
Decides s (refused reply) verdict = verdict ≡ stays reply
Decides s (question asked) verdict = verdict ≡ stays (question_reply s asked)
Decides s (change token mark wanted) verdict = DecidesChange s token mark wanted (kept_under token s.replies) verdict

-- what is replied as a verdict says
abbrev pub verdict_reply : Verdict → Reply
verdict_reply (stays reply) = reply
verdict_reply (accepts reply next) = reply

-- the state after a verdict
abbrev pub state_after : State → Verdict → State
state_after s (stays reply) = s
state_after s (accepts reply next) = next

-- the verdict accepts
abbrev pub IsAccepted : Verdict → Type 0
IsAccepted (stays reply) = ⊥
IsAccepted (accepts reply next) = ⊤

-- the ways in which a request is answered: as its verdict says, or with no change for want of memory or for a fault
pub data Way : Type 0 where
  as_decided : Verdict → Way
  without_memory : Way
  vault_failed : Verdict → Way
  keeper_failed : Verdict → Way

-- The reply and the next state of each way. Want of memory may come to any request; only what newly accepts and brings a file comes
-- to the vault, and only a change that is newly accepted to the keeper.
abbrev pub AnswersBy : Way → State → Asked → Reply → State → Type 0
AnswersBy (as_decided verdict) s request reply next =
    Decides s request verdict × (reply ≡ verdict_reply verdict) × (next ≡ state_after s verdict)
AnswersBy without_memory s request reply next = (reply ≡ refusal Memory) × (next ≡ s)
AnswersBy (vault_failed verdict) s request reply next =
    Decides s request verdict × IsAccepted verdict × (asks_vault request ≡ true) × (reply ≡ refusal Vault) × (next ≡ s)
AnswersBy (keeper_failed verdict) s request reply next =
    Decides s request verdict × IsAccepted verdict × (reply ≡ refusal Keeper) × (next ≡ s)

-- From s, the library may answer the request with that reply and go on to next.
pub record Answer (s : State) (request : Asked) (reply : Reply) (next : State) : Type 0 where
  pub way : Way
  pub answers : AnswersBy way s request reply next

-- ---- takes

-- a recording has the take
abbrev pub has_take : ℕ → List Recording → Bool
has_take take recordings = list_any (λ (r : Recording). r.take == take) recordings

-- the takes of recordings of s that next no longer has
abbrev pub taken_out : State → State → List ℕ
taken_out s next = filter (λ take. not (has_take take next.recordings)) (map (λ (r : Recording). r.take) s.recordings)
