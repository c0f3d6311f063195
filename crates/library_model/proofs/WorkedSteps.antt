-- Worked rows: what each command makes of small states, and how it is refused.
use Rattle.std.proofs.Common.{◌≡◌, ℕ, zero, suc, true, false, Some, None, List, [], ◌∷◌, codes, refl}
use Rattle.std.specs.Fmt.{digits}
use Rattle.serde_json.proofs.OnLiterals.{serde_json_on_literals}
use Rattle.lib_base.specs.declared.outcomes.Rule.TheVariants.{V}
use Rattle.file_model.proofs.WorkedWaves.{four_frames}
use Rattle.sound_model.specs.Texts.{millionths}
use Rattle.library_model.specs.declared.messages.Command.TheVariants.{NewAlbum, Import, Retake, Regroup, RemoveRecording, RemoveAlbum}
use Rattle.library_model.specs.declared.messages.Question.TheVariants as about
use Rattle.library_model.specs.declared.refusals.Refusal.TheVariants.{NoRecording, NoAlbum}
use Rattle.library_model.specs.Asked.{change, command}
use Rattle.library_model.specs.Findings.{measured, broken_by}
use Rattle.library_model.specs.Granted.{IsGrantable}
use Rattle.library_model.specs.Machine.{Decides, DecidesCommand, accepts, album_reply, import_step, is_crowded, kept_reply, makes, new_album_step, no_levels, question_reply, recording_reply, refuses, regroup_step, regrouping, remove_album_step, remove_step, removing, retake_step, retaking, stays, taken_out}
use Rattle.library_model.specs.Replies.{json, format_refusal, refusal}
use Rattle.library_model.specs.State.{Album, Recording, State, empty_state}
use Rattle.library_model.proofs.LeadsAlbums.{no_levels-summed}
use Rattle.library_model.proofs.WorkedReplies.{row_file-Finds, row_recording, row_sound, row_summary}

-- ---- small states

-- An album of no recording.
abbrev pub row_album : Album
row_album = record { id = 1; name = codes "A"; summary = no_levels }

-- The state that has it.
abbrev pub row_with_album : State
row_with_album = record empty_state { next_album = 2; albums = row_album ∷ [] }

-- A recording in it.
abbrev pub row_member : Recording
row_member = record row_recording { album = Some 1 }

-- The state that has both.
abbrev pub row_state : State
row_state = record row_with_album { next_recording = 2; next_take = 2; recordings = row_member ∷ [] }

-- So many recordings in it: how many is all that is asked of them, so one stands for each.
abbrev row_members : ℕ → List Recording
row_members zero = []
row_members (suc n) = row_member ∷ row_members n

-- The state that has them.
abbrev row_crowd : ℕ → State
row_crowd n = record row_state { recordings = row_members n }

-- ---- new albums

-- The first album.
pub new_album_step-makes : new_album_step empty_state (codes "A")
    ≡ makes (λ _. json 201 (codes "{\"gain\":null,\"id\":1,\"loudness\":null,\"momentary\":null,\"name\":\"A\",\"peak\":\"0.000000\",\"range\":null,\"recordings\":[],\"short\":null,\"true_peak\":null}")) row_with_album
unfolding serde_json_on_literals digits millionths
new_album_step-makes = refl

-- No number is left for another one.
pub new_album_step-full : new_album_step (record empty_state { next_album = 2147483647 }) (codes "A") ≡ refuses (json 409 (codes "{\"error\":\"ids\"}"))
new_album_step-full = refl

-- ---- imports

-- A recording comes into an album.
pub import_step-album : import_step row_with_album (Some 1) [] (four_frames 1) (measured row_sound row_summary)
    ≡ makes (λ _. recording_reply 201 row_member) row_state
import_step-album = refl

-- An album that is not there comes before the file.
pub import-no_album : DecidesCommand row_state (Import (Some 77) [] (codes "RIFF")) (stays (json 404 (codes "{\"error\":\"no-album\"}")))
import-no_album = refl

-- 256 recordings do not crowd an album, and 257 do.
pub is_crowded-most : (is_crowded (Some 1) (row_members 256) ≡ false) × (is_crowded (Some 1) (row_members 257) ≡ true)
is_crowded-most = (refl, refl)

-- So an album of 256 takes no import.
pub import_step-album_full : import_step (row_crowd 256) (Some 1) [] (four_frames 1) (measured row_sound row_summary)
    ≡ refuses (json 409 (codes "{\"error\":\"album-full\"}"))
import_step-album_full = refl

-- ---- retakes

-- A recording gets the next take: its id, its album and its name stay.
pub retake_step-makes : retake_step row_state row_member (four_frames 2) (measured row_sound row_summary)
    ≡ makes (λ _. recording_reply 200 (record row_member { take = 2; file = four_frames 2 }))
    (record row_state { next_take = 3; recordings = record row_member { take = 2; file = four_frames 2 } ∷ [] })
retake_step-makes = refl

-- Its old take is taken out.
pub taken_out-retaking : taken_out row_state (retaking row_state row_member (four_frames 2) row_sound row_summary) ≡ 1 ∷ []
taken_out-retaking = refl

-- A recording that is not there comes before the file.
pub retake-no_recording : DecidesCommand row_state (Retake 9 (codes "RIFF")) (stays (json 404 (codes "{\"error\":\"no-recording\"}")))
retake-no_recording = refl

-- A file that breaks a rule is refused by it.
pub retake_step-broken : retake_step row_state row_member (codes "RIFF") (broken_by (V 3) 4) ≡ refuses (format_refusal (V 3) 4)
retake_step-broken = refl

-- No take is left.
pub retake_step-full : retake_step (record row_state { next_take = 2147483647 }) row_member (four_frames 2) (measured row_sound row_summary)
    ≡ refuses (json 409 (codes "{\"error\":\"ids\"}"))
retake_step-full = refl

-- ---- regrouping

-- A recording comes out of its album.
pub regroup_step-out : regroup_step row_state row_member None
    ≡ makes (λ _. recording_reply 200 row_recording) (record row_state { recordings = row_recording ∷ [] })
regroup_step-out = refl

-- Into the album that it is in, nothing changes.
pub regroup_step-same : regroup_step row_state row_member (Some 1) ≡ makes (λ _. recording_reply 200 row_member) row_state
regroup_step-same = refl

-- Into an album of 256 comes no other one.
pub regroup_step-album_full : regroup_step (row_crowd 256) (record row_recording { id = 2; take = 2 }) (Some 1)
    ≡ refuses (json 409 (codes "{\"error\":\"album-full\"}"))
regroup_step-album_full = refl

-- The recording is looked for before the album.
pub regroup-no_recording : DecidesCommand row_state (Regroup 9 (Some 77)) (stays (refusal NoRecording))
regroup-no_recording = refl

pub regroup-no_album : DecidesCommand row_state (Regroup 1 (Some 77)) (stays (refusal NoAlbum))
regroup-no_album = refl

-- No take is taken out.
pub taken_out-regrouping : taken_out row_state (regrouping row_state row_member None) ≡ []
taken_out-regrouping = refl

-- ---- removals

-- A recording is removed.
pub remove_step-makes : remove_step row_state row_member
    ≡ makes (λ _. json 200 (codes "{\"removed\":1}")) (record row_state { recordings = [] })
unfolding serde_json_on_literals digits
remove_step-makes = refl

-- Its take is taken out.
pub taken_out-removing : taken_out row_state (removing row_state row_member) ≡ 1 ∷ []
taken_out-removing = refl

pub remove-no_recording : DecidesCommand row_state (RemoveRecording 0) (stays (refusal NoRecording))
remove-no_recording = refl

-- An album with a recording stays.
pub remove_album_step-not_empty : remove_album_step row_state 1 ≡ refuses (json 409 (codes "{\"error\":\"not-empty\"}"))
remove_album_step-not_empty = refl

-- One without is removed.
pub remove_album_step-makes : remove_album_step row_with_album 1
    ≡ makes (λ _. json 200 (codes "{\"removed\":1}")) (record empty_state { next_album = 2 })
unfolding serde_json_on_literals digits
remove_album_step-makes = refl

pub remove-no_album : DecidesCommand row_state (RemoveAlbum 77) (stays (refusal NoAlbum))
remove-no_album = refl

-- ---- questions

-- A question after the album tells its recordings.
pub question_reply-album : question_reply row_state (about.Album 1)
    ≡ json 200 (codes "{\"gain\":null,\"id\":1,\"loudness\":null,\"momentary\":null,\"name\":\"A\",\"peak\":\"0.000000\",\"range\":null,\"recordings\":[1],\"short\":null,\"true_peak\":null}")
unfolding serde_json_on_literals digits millionths
question_reply-album = refl

pub question_reply-no_album : question_reply row_state (about.Album 0) ≡ json 404 (codes "{\"error\":\"no-album\"}")
question_reply-no_album = refl

-- ---- fresh tokens

-- A new album is accepted, and its reply is kept.
pub Decides-accepts : Decides empty_state (change (codes "t1") (7 ∷ []) (command (NewAlbum (codes "A"))))
    (accepts (album_reply 201 row_album [])
    (record row_with_album { replies = kept_reply (codes "t1") (7 ∷ []) (album_reply 201 row_album []) ∷ [] }))
Decides-accepts =
    (accepts (album_reply 201 row_album []) row_with_album, (row_album ∷ [], (refl, refl, no_levels-summed, tt), refl), refl)

-- The removal of an album with a recording is refused, and nothing is kept.
pub Decides-refuses : Decides row_state (change (codes "t1") (7 ∷ []) (command (RemoveAlbum 1)))
    (stays (json 409 (codes "{\"error\":\"not-empty\"}")))
Decides-refuses = (stays (json 409 (codes "{\"error\":\"not-empty\"}")), refl, refl)

-- ---- what nothing refuses

-- The first import of a file that reads as a sound is one.
pub IsGrantable-import : IsGrantable empty_state (change (codes "t1") (7 ∷ []) (command (Import None [] (four_frames 1))))
IsGrantable-import = (
  refl,
  record { there = refl; sound = row_sound; summary = row_summary; finds = row_file-Finds; room = refl; left = refl },
)

-- So is an import into an album that has room, and a retake of a recording that is there.
pub IsGrantable-album : IsGrantable row_state (change (codes "t1") (7 ∷ []) (command (Import (Some 1) [] (four_frames 1))))
IsGrantable-album = (
  refl,
  record { there = refl; sound = row_sound; summary = row_summary; finds = row_file-Finds; room = refl; left = refl },
)

pub IsGrantable-retake : IsGrantable row_state (change (codes "t1") (7 ∷ []) (command (Retake 1 (four_frames 1))))
IsGrantable-retake = (
  refl,
  record { recording = row_member; there = refl; sound = row_sound; summary = row_summary; finds = row_file-Finds; left = refl },
)
