-- Worked rows: what the definitions say of one recording and of its replies.
use Rattle.std.proofs.Common.{◌≡◌, ◌==◌, ◌*◌, ◌^◌, ℕ, false, Some, None, List, [], ◌∷◌, codes, refl, arith}
use Rattle.std.proofs.lemmas.Bool.Decides.{nat_tests}
use Rattle.std.specs.List.{AllByRecursion}
use Rattle.std.specs.Fmt.{digits}
use Rattle.md5.specs.Md5.{md5, block_words, rounds, compress, hash_after, digest_bytes}
use Rattle.lib_base.specs.declared.outcomes.Rule.TheVariants.{V}
use Rattle.lib_base.specs.declared.files.Summary.{Summary}
use Rattle.file_model.specs.Pcm.{Pcm}
use Rattle.file_model.proofs.WorkedWaves.{four_frames, four_samples, sixteen_bits, four_frames_read}
use Rattle.std.specs.Prelude.{negsuc}
use Rattle.serde_json.proofs.OnLiterals.{serde_json_on_literals}
use Rattle.sound_model.specs.Levels.{IsLevel, entry, hundredths}
use Rattle.sound_model.specs.Peaks.{scaled}
use Rattle.sound_model.specs.Texts.{millionths}
use Rattle.sound_model.proofs.LevelLaws.{level_from_root}
use Rattle.sound_model.proofs.LevelTable.{later_places_pass}
use Rattle.library_model.specs.Findings.{Finds, measured, broken_by}
use Rattle.library_model.specs.declared.messages.Reply.{Reply}
use Rattle.library_model.specs.declared.refusals.Refusal.TheVariants.{Vault, Keeper}
use Rattle.library_model.specs.declared.messages.Question.TheVariants as about
use Rattle.library_model.specs.Asked.{change, malformed}
use Rattle.library_model.specs.Machine.{Decides, import_step, imported, keeping, kept_under, makes, question_reply, recording_of, recording_reply, refuses, repeat_reply, accepts, stays}
use Rattle.library_model.specs.Replies.{json, format_refusal, refusal}
use Rattle.library_model.specs.InOrder.{IsGiven}
use Rattle.library_model.specs.Stands.{IsValid, recording_row}
use Rattle.library_model.specs.State.{Kept, Recording, State, empty_state}
use Rattle.library_model.proofs.Imports.{given_of}

-- ---- one recording

-- Its sound.
abbrev pub row_sound : Pcm
row_sound = sixteen_bits 4 (four_samples ∷ [])

-- The levels of that sound: four frames make no block and no window, so only its peak has a level, which is 0.537233 of full scale.
abbrev pub row_summary : Summary
row_summary = record {
  frames = 4;
  loudness = None;
  range = None;
  momentary = None;
  short_term = None;
  true_peak = Some (negsuc 539);
  peak = 36918363648;
  gain = None;
}

row_level : IsLevel (36918363648 ^ 2) (2 ^ 72) (negsuc 1079)
unfolding entry
row_level =
    level_from_root (36918363648 ^ 2) (2 ^ 72) 0 920 (omega arith) (omega arith) (omega arith) (omega arith)
    (later_places_pass 921 (36918363648 ^ 2 * 10 * 10 ^ 9) (2 ^ 72) (omega arith))

row_rounded : negsuc 539 ≡ hundredths (negsuc 1079)
unfolding hundredths
row_rounded = refl

-- The recording that it becomes as the first one.
abbrev pub row_recording : Recording
row_recording = record {
  id = 1;
  album = None;
  name = [];
  take = 1;
  file = four_frames 1;
  sound = row_sound;
  summary = row_summary;
}

-- The file is found to be that sound, with those levels.
pub row_file-Finds : Finds row_recording.file (measured row_recording.sound row_recording.summary)
unfolding scaled
row_file-Finds = (
  four_frames_read,
  record {
    frames_kept = refl;
    loudness = tt;
    range = tt;
    momentary = tt;
    short_term = tt;
    true_peak = record { level = negsuc 1079; of_ratio = row_level; rounded = row_rounded };
    peak_kept = refl;
    gain = refl;
  },
)

-- The MD5 of the file.
pub recording_row-digest : (recording_row row_recording).digest
    ≡ 226 ∷ 42 ∷ 101 ∷ 86 ∷ 248 ∷ 143 ∷ 29 ∷ 4 ∷ 183 ∷ 50 ∷ 114 ∷ 53 ∷ 172 ∷ 134 ∷ 173 ∷ 71 ∷ []
unfolding block_words rounds compress hash_after digest_bytes md5
recording_row-digest = refl

-- ---- replies

-- The body of the refusal of a file whose size field is wrong.
pub format_refusal-body : (format_refusal (V 3) 4).body ≡ codes "{\"error\":\"format\",\"place\":4,\"rule\":\"V3\"}"
unfolding digits
format_refusal-body = refl

-- The refusal for a fault of the vault.
pub refusal-vault : refusal Vault ≡ json 502 (codes "{\"error\":\"vault\"}")
refusal-vault = refl

-- The refusal for a fault of the keeper.
pub refusal-keeper : refusal Keeper ≡ json 504 (codes "{\"error\":\"keeper\"}")
refusal-keeper = refl

-- ---- steps

-- The first import makes recording 1.
pub import_step-makes : import_step empty_state None [] (four_frames 1) (measured row_sound row_summary)
    ≡ makes (λ _. json 201 (codes "{\"album\":null,\"channels\":1,\"depth\":16,\"frames\":4,\"gain\":null,\"id\":1,\"kind\":\"wave\",\"loudness\":null,\"momentary\":null,\"name\":\"\",\"peak\":\"0.537233\",\"range\":null,\"short\":null,\"take\":1,\"true_peak\":-540}"))
    (record empty_state { next_recording = 2; next_take = 2; recordings = row_recording ∷ [] })
unfolding serde_json_on_literals digits millionths
import_step-makes = refl

-- From the state that it leads to, a question after recording 1 is answered with the same body.
pub question_reply-imported : question_reply (imported empty_state None [] (four_frames 1) row_sound row_summary) (about.Recording 1)
    ≡ json 200 (codes "{\"album\":null,\"channels\":1,\"depth\":16,\"frames\":4,\"gain\":null,\"id\":1,\"kind\":\"wave\",\"loudness\":null,\"momentary\":null,\"name\":\"\",\"peak\":\"0.537233\",\"range\":null,\"short\":null,\"take\":1,\"true_peak\":-540}")
unfolding serde_json_on_literals digits millionths
question_reply-imported = refl

-- Another one finds nothing.
pub question_reply-other : question_reply (imported empty_state None [] (four_frames 1) row_sound row_summary) (about.Recording 2)
    ≡ json 404 (codes "{\"error\":\"no-recording\"}")
question_reply-other = refl

-- No recording of a valid state has the id 0.
pub recording_of-zero : (s : State) → IsValid s → recording_of 0 s.recordings ≡ None
recording_of-zero s valid = not_given s.next_recording s.recordings (given_of s valid).0
  where
    not_given : (next : ℕ) (recordings : List Recording)
        → AllByRecursion (λ (r : Recording). IsGiven next r.id) recordings → recording_of 0 recordings ≡ None
    not_given next [] given = refl
    not_given next (r ∷ recordings) given =
        let other : (r.id == 0) ≡ false = grind (arith, nat_tests, given.0) in
        rw other (not_given next recordings given.1)

-- A file that breaks a rule is refused by it.
pub import_step-broken : import_step empty_state None [] (codes "RIFF") (broken_by (V 3) 4)
    ≡ refuses (json 422 (codes "{\"error\":\"format\",\"place\":4,\"rule\":\"V3\"}"))
unfolding digits
import_step-broken = refl

-- A state whose next recording would have the number at the end.
abbrev pub row_full : State
row_full = record empty_state { next_recording = 2147483647 }

-- No number is left there.
pub import_step-full : import_step row_full None [] (four_frames 1) (measured row_sound row_summary)
    ≡ refuses (json 409 (codes "{\"error\":\"ids\"}"))
import_step-full = refl

-- The state before it has one number left.
pub import_step-last : import_step (record row_full { next_recording = 2147483646 }) None (codes "A") (four_frames 1) (measured row_sound row_summary)
    ≡ makes (λ _. recording_reply 201 (record row_recording { id = 2147483646; name = codes "A" }))
    (record empty_state {
      next_recording = 2147483647;
      next_take = 2;
      recordings = record row_recording { id = 2147483646; name = codes "A" } ∷ [];
    })
import_step-last = refl

-- ---- tokens

-- a reply, and what is kept of it under `t1`
abbrev row_reply : Reply
row_reply = json 201 (codes "{}")

abbrev row_kept : Kept
row_kept = record { token = codes "t1"; mark = 7 ∷ []; status = 201; body = codes "{}" }

-- An accepted reply is kept.
pub keeping-accepts : keeping (codes "t1") (7 ∷ []) (accepts row_reply empty_state)
    ≡ accepts row_reply (record empty_state { replies = row_kept ∷ [] })
keeping-accepts = refl

-- A refusal keeps nothing.
pub keeping-stays : keeping (codes "t1") (7 ∷ []) (stays row_reply) ≡ stays row_reply
keeping-stays = refl

-- The token of a kept reply is found, another is fresh.
pub kept_under-token : (kept_under (codes "t1") (row_kept ∷ []) ≡ Some row_kept) × (kept_under (codes "t2") (row_kept ∷ []) ≡ None)
kept_under-token = (refl, refl)

-- A repeat gets the kept reply, another request with the token is refused.
pub repeat_reply-marks : (repeat_reply (7 ∷ []) row_kept ≡ row_reply)
    × (repeat_reply (8 ∷ []) row_kept ≡ json 409 (codes "{\"error\":\"token-used\"}"))
repeat_reply-marks = (refl, refl)

-- The state that keeps it.
abbrev row_keeping : State
row_keeping = record empty_state { replies = row_kept ∷ [] }

-- So a repeat is answered, whatever it asks, another request with the token is refused, and under another token what is asked is decided.
pub Decides-tokens : Decides row_keeping (change (codes "t1") (7 ∷ []) (malformed (refusal Vault))) (stays row_reply)
    × Decides row_keeping (change (codes "t1") (8 ∷ []) (malformed (refusal Vault))) (stays (json 409 (codes "{\"error\":\"token-used\"}")))
    × Decides row_keeping (change (codes "t2") (7 ∷ []) (malformed (refusal Vault))) (stays (refusal Vault))
Decides-tokens = (refl, refl, refl)
