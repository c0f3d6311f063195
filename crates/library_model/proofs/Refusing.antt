-- One law for each way in which a command under a fresh token is refused, in terms of rows.
use Rattle.std.proofs.Common.{◌≡◌, ◌==◌, ◌||◌, ◌∙◌, ℕ, Bool, true, false, nat_le, nat_lt, Option, None, Some, List, [], length, refl, sym, ap, subst}
use Rattle.std.specs.List.{find}
use Rattle.lib_base.specs.declared.files.Summary.{Summary}
use Rattle.lib_base.specs.declared.outcomes.Rule.{Rule}
use Rattle.lib_base.specs.declared.limits.TheConstants.{NUMBERS_END}
use Rattle.file_model.specs.Pcm.{Pcm}
use Rattle.keeper_store.specs.declared.row_types.RecordingRow.{RecordingRow}
use Rattle.library_model.specs.declared.messages.Command.{Command}
use Rattle.library_model.specs.declared.messages.Command.TheVariants.{NewAlbum, Import, Retake, Regroup, RemoveRecording, RemoveAlbum}
use Rattle.library_model.specs.declared.messages.Reply.{Reply}
use Rattle.library_model.specs.declared.refusals.Refusal.{Refusal}
use Rattle.library_model.specs.declared.refusals.Refusal.TheVariants.{NoRecording, NoAlbum, NotEmpty, AlbumFull, Ids}
use Rattle.library_model.specs.Asked.{change, command}
use Rattle.library_model.specs.Batches.{crowds}
use Rattle.library_model.specs.Findings.{Finds, broken_by, measured}
use Rattle.library_model.specs.Machine.{Decides, DecidesChange, DecidesCommand, OfAlbum, OfFile, OfRecording, Step, Sums, Verdict, album_reply, import_step, imported, is_crowded, is_there, kept_under, makes, new_album, new_recording, recording_of, recording_reply, regroup_step, regrouped, regrouping, remove_album_step, remove_step, removing_album, retake_step, retaken, retaking, stays, unless, with_new_album}
use Rattle.library_model.specs.Bodies.{removed_reply}
use Rattle.library_model.specs.Replies.{format_refusal, refusal}
use Rattle.library_model.specs.RowRules.{album_is_there, has_album, member_count}
use Rattle.library_model.specs.Stands.{IsValid, members, tables_of}
use Rattle.library_model.specs.State.{Kept, Recording, State}
use Rattle.library_model.proofs.Fitting.{import_crowds, regroup_crowds}
use Rattle.library_model.proofs.Looking.{recording_missing, recording_there}
use Rattle.library_model.proofs.MadeStates.{row-there}
use Rattle.library_model.proofs.NextTables.{count_of-rows}

-- ---- what is decided of a command is decided of the change

-- a command that is refused under a fresh token
pub refused_exit : (s : State) (token mark : List ℕ) (wanted : Command) (reply : Reply) → kept_under token s.replies ≡ None
    → DecidesCommand s wanted (stays reply) → Decides s (change token mark (command wanted)) (stays reply)
refused_exit s token mark wanted reply fresh decides =
    subst (λ (k : Option Kept). DecidesChange s token mark (command wanted) k (stays reply)) (sym fresh) (stays reply, decides, refl)

-- where the recording is there, what is decided of it is decided
pub of_found : (found : Option Recording) (r : Recording) (Decided : Recording → Verdict → Type 0) (v : Verdict) → found ≡ Some r → Decided r v
    → OfRecording found Decided v
of_found found r Decided v is decided = subst (λ (f : Option Recording). OfRecording f Decided v) (sym is) decided

-- where it is not, it is refused
pub of_missing : (found : Option Recording) (Decided : Recording → Verdict → Type 0) → found ≡ None
    → OfRecording found Decided (stays (refusal NoRecording))
of_missing found Decided is = subst (λ (f : Option Recording). OfRecording f Decided (stays (refusal NoRecording))) (sym is) refl

-- so of albums
pub of_there : (there : Bool) (Decided : Verdict → Type 0) (v : Verdict) → there ≡ true → Decided v → OfAlbum there Decided v
of_there there Decided v is decided = subst (λ (b : Bool). OfAlbum b Decided v) (sym is) decided

pub of_no_album : (there : Bool) (Decided : Verdict → Type 0) → there ≡ false → OfAlbum there Decided (stays (refusal NoAlbum))
of_no_album there Decided is = subst (λ (b : Bool). OfAlbum b Decided (stays (refusal NoAlbum))) (sym is) refl

-- a limit that is passed refuses
pub of_passed : (test : Bool) (cause : Refusal) (step : Step) → test ≡ true → Sums (unless test cause step) (stays (refusal cause))
of_passed test cause step is = subst (λ (b : Bool). Sums (unless b cause step) (stays (refusal cause))) (sym is) refl

-- and one that is not goes on
pub of_limit : (test : Bool) (cause : Refusal) (step : Step) (v : Verdict) → test ≡ false → Sums step v → Sums (unless test cause step) v
of_limit test cause step v is sums = subst (λ (b : Bool). Sums (unless b cause step) v) (sym is) sums

-- ---- a recording that is missing

pub retake_no_recording : (s : State) (token mark : List ℕ) (id : ℕ) (file : List ℕ) → kept_under token s.replies ≡ None
    → find (λ (row : RecordingRow). row.id == id) (tables_of s).recordings ≡ None
    → Decides s (change token mark (command (Retake id file))) (stays (refusal NoRecording))
retake_no_recording s token mark id file fresh missing =
    refused_exit s token mark (Retake id file) (refusal NoRecording) fresh
    (of_missing (recording_of id s.recordings) (λ r. OfFile file (retake_step s r file)) (recording_missing s id missing))

pub regroup_no_recording : (s : State) (token mark : List ℕ) (id : ℕ) (album : Option ℕ) → kept_under token s.replies ≡ None
    → find (λ (row : RecordingRow). row.id == id) (tables_of s).recordings ≡ None
    → Decides s (change token mark (command (Regroup id album))) (stays (refusal NoRecording))
regroup_no_recording s token mark id album fresh missing =
    refused_exit s token mark (Regroup id album) (refusal NoRecording) fresh
    (of_missing (recording_of id s.recordings) (λ r. OfAlbum (is_there album s.albums) (Sums (regroup_step s r album)))
    (recording_missing s id missing))

pub remove_no_recording : (s : State) (token mark : List ℕ) (id : ℕ) → kept_under token s.replies ≡ None
    → find (λ (row : RecordingRow). row.id == id) (tables_of s).recordings ≡ None
    → Decides s (change token mark (command (RemoveRecording id))) (stays (refusal NoRecording))
remove_no_recording s token mark id fresh missing =
    refused_exit s token mark (RemoveRecording id) (refusal NoRecording) fresh
    (of_missing (recording_of id s.recordings) (λ r. Sums (remove_step s r)) (recording_missing s id missing))

-- ---- an album that is missing

pub import_no_album : (s : State) (token mark : List ℕ) (album : Option ℕ) (name file : List ℕ) → kept_under token s.replies ≡ None
    → album_is_there album (tables_of s).albums ≡ false
    → Decides s (change token mark (command (Import album name file))) (stays (refusal NoAlbum))
import_no_album s token mark album name file fresh missing =
    refused_exit s token mark (Import album name file) (refusal NoAlbum) fresh
    (of_no_album (is_there album s.albums) (OfFile file (import_step s album name file)) (sym (row-there album s.albums) ∙ missing))

pub regroup_no_album : (s : State) (token mark : List ℕ) (id : ℕ) (album : Option ℕ) (old : RecordingRow) → kept_under token s.replies ≡ None
    → find (λ (row : RecordingRow). row.id == id) (tables_of s).recordings ≡ Some old → album_is_there album (tables_of s).albums ≡ false
    → Decides s (change token mark (command (Regroup id album))) (stays (refusal NoAlbum))
regroup_no_album s token mark id album old fresh found missing =
    let at = recording_there s id old found in
    let verdict : Verdict = stays (refusal NoAlbum) in
    refused_exit s token mark (Regroup id album) (refusal NoAlbum) fresh
    (of_found (recording_of id s.recordings) at.0 (λ r. OfAlbum (is_there album s.albums) (Sums (regroup_step s r album))) verdict at.1
    (of_no_album (is_there album s.albums) (Sums (regroup_step s at.0 album)) (sym (row-there album s.albums) ∙ missing)))

pub remove_no_album : (s : State) (token mark : List ℕ) (id : ℕ) → kept_under token s.replies ≡ None → has_album id (tables_of s).albums ≡ false
    → Decides s (change token mark (command (RemoveAlbum id))) (stays (refusal NoAlbum))
remove_no_album s token mark id fresh missing =
    refused_exit s token mark (RemoveAlbum id) (refusal NoAlbum) fresh
    (of_no_album (is_there (Some id) s.albums) (Sums (remove_album_step s id)) (sym (row-there (Some id) s.albums) ∙ missing))

-- ---- a file that breaks a rule

pub import_broken : (s : State) (token mark : List ℕ) (album : Option ℕ) (name file : List ℕ) (rule : Rule) (place : ℕ)
    → kept_under token s.replies ≡ None → album_is_there album (tables_of s).albums ≡ true → Finds file (broken_by rule place)
    → Decides s (change token mark (command (Import album name file))) (stays (format_refusal rule place))
import_broken s token mark album name file rule place fresh there finds =
    refused_exit s token mark (Import album name file) (format_refusal rule place) fresh
    (of_there (is_there album s.albums) (OfFile file (import_step s album name file)) (stays (format_refusal rule place))
    (sym (row-there album s.albums) ∙ there) (broken_by rule place, finds, refl))

pub retake_broken : (s : State) (token mark : List ℕ) (id : ℕ) (old : RecordingRow) (file : List ℕ) (rule : Rule) (place : ℕ)
    → kept_under token s.replies ≡ None → find (λ (row : RecordingRow). row.id == id) (tables_of s).recordings ≡ Some old
    → Finds file (broken_by rule place) → Decides s (change token mark (command (Retake id file))) (stays (format_refusal rule place))
retake_broken s token mark id old file rule place fresh found finds =
    let at = recording_there s id old found in
    refused_exit s token mark (Retake id file) (format_refusal rule place) fresh
    (of_found (recording_of id s.recordings) at.0 (λ r. OfFile file (retake_step s r file)) (stays (format_refusal rule place)) at.1
    (broken_by rule place, finds, refl))

-- ---- an album that is full

pub import_full : (s : State) (token mark : List ℕ) (album : Option ℕ) (name file : List ℕ) (sound : Pcm) (summary : Summary) → IsValid s
    → kept_under token s.replies ≡ None → album_is_there album (tables_of s).albums ≡ true → Finds file (measured sound summary)
    → crowds None album (tables_of s).recordings ≡ true
    → Decides s (change token mark (command (Import album name file))) (stays (refusal AlbumFull))
import_full s token mark album name file sound summary valid fresh there finds full =
    let next : State = imported s album name file sound summary in
    let step : Step = makes (λ _. recording_reply 201 (new_recording s album name file sound summary)) next in
    let lacks : Bool = nat_le NUMBERS_END s.next_recording || nat_le NUMBERS_END s.next_take in
    refused_exit s token mark (Import album name file) (refusal AlbumFull) fresh
    (of_there (is_there album s.albums) (OfFile file (import_step s album name file)) (stays (refusal AlbumFull))
    (sym (row-there album s.albums) ∙ there) (
      measured sound summary,
      finds,
      of_passed (is_crowded album next.recordings) AlbumFull (unless lacks Ids step) (import_crowds s album name file sound summary valid ∙ full),
    ))

pub regroup_full : (s : State) (token mark : List ℕ) (id : ℕ) (album : Option ℕ) (old : RecordingRow) → IsValid s
    → kept_under token s.replies ≡ None → find (λ (row : RecordingRow). row.id == id) (tables_of s).recordings ≡ Some old
    → album_is_there album (tables_of s).albums ≡ true → crowds old.album album (tables_of s).recordings ≡ true
    → Decides s (change token mark (command (Regroup id album))) (stays (refusal AlbumFull))
regroup_full s token mark id album old valid fresh found there full =
    let at = recording_there s id old found in
    let r : Recording = at.0 in
    let verdict : Verdict = stays (refusal AlbumFull) in
    let crowded : is_crowded album (regrouping s r album).recordings ≡ true = regroup_crowds s id album r old valid at.1 at.2 there ∙ full in
    refused_exit s token mark (Regroup id album) (refusal AlbumFull) fresh
    (of_found (recording_of id s.recordings) r (λ r. OfAlbum (is_there album s.albums) (Sums (regroup_step s r album))) verdict at.1
    (of_there (is_there album s.albums) (Sums (regroup_step s r album)) verdict (sym (row-there album s.albums) ∙ there)
    (of_passed (is_crowded album (regrouping s r album).recordings) AlbumFull
    (makes (λ _. recording_reply 200 (regrouped r album)) (regrouping s r album)) crowded)))

-- ---- numbers that are lacking

pub new_album_ids : (s : State) (token mark name : List ℕ) → kept_under token s.replies ≡ None → nat_le NUMBERS_END s.next_album ≡ true
    → Decides s (change token mark (command (NewAlbum name))) (stays (refusal Ids))
new_album_ids s token mark name fresh lacks =
    refused_exit s token mark (NewAlbum name) (refusal Ids) fresh
    (of_passed (nat_le NUMBERS_END s.next_album) Ids (makes (λ _. album_reply 201 (new_album s name) []) (with_new_album s name)) lacks)

pub import_ids : (s : State) (token mark : List ℕ) (album : Option ℕ) (name file : List ℕ) (sound : Pcm) (summary : Summary) → IsValid s
    → kept_under token s.replies ≡ None → album_is_there album (tables_of s).albums ≡ true → Finds file (measured sound summary)
    → crowds None album (tables_of s).recordings ≡ false
    → (nat_le NUMBERS_END s.next_recording || nat_le NUMBERS_END s.next_take) ≡ true
    → Decides s (change token mark (command (Import album name file))) (stays (refusal Ids))
import_ids s token mark album name file sound summary valid fresh there finds room lack =
    let next : State = imported s album name file sound summary in
    let step : Step = makes (λ _. recording_reply 201 (new_recording s album name file sound summary)) next in
    let lacks : Bool = nat_le NUMBERS_END s.next_recording || nat_le NUMBERS_END s.next_take in
    refused_exit s token mark (Import album name file) (refusal Ids) fresh
    (of_there (is_there album s.albums) (OfFile file (import_step s album name file)) (stays (refusal Ids))
    (sym (row-there album s.albums) ∙ there) (
      measured sound summary,
      finds,
      of_limit (is_crowded album next.recordings) AlbumFull (unless lacks Ids step) (stays (refusal Ids))
          (import_crowds s album name file sound summary valid ∙ room) (of_passed lacks Ids step lack),
    ))

pub retake_ids : (s : State) (token mark : List ℕ) (id : ℕ) (old : RecordingRow) (file : List ℕ) (sound : Pcm) (summary : Summary)
    → kept_under token s.replies ≡ None → find (λ (row : RecordingRow). row.id == id) (tables_of s).recordings ≡ Some old
    → Finds file (measured sound summary) → nat_le NUMBERS_END s.next_take ≡ true
    → Decides s (change token mark (command (Retake id file))) (stays (refusal Ids))
retake_ids s token mark id old file sound summary fresh found finds lacks =
    let at = recording_there s id old found in
    let r : Recording = at.0 in
    refused_exit s token mark (Retake id file) (refusal Ids) fresh
    (of_found (recording_of id s.recordings) r (λ r. OfFile file (retake_step s r file)) (stays (refusal Ids)) at.1 (
      measured sound summary,
      finds,
      of_passed (nat_le NUMBERS_END s.next_take) Ids
          (makes (λ _. recording_reply 200 (retaken s r file sound summary)) (retaking s r file sound summary)) lacks,
    ))

-- ---- an album that has recordings

pub not_empty : (s : State) (token mark : List ℕ) (id : ℕ) → kept_under token s.replies ≡ None → has_album id (tables_of s).albums ≡ true
    → nat_lt 0 (member_count id (tables_of s).recordings) ≡ true
    → Decides s (change token mark (command (RemoveAlbum id))) (stays (refusal NotEmpty))
not_empty s token mark id fresh there some =
    refused_exit s token mark (RemoveAlbum id) (refusal NotEmpty) fresh
    (of_there (is_there (Some id) s.albums) (Sums (remove_album_step s id)) (stays (refusal NotEmpty)) (sym (row-there (Some id) s.albums) ∙ there)
    (of_passed (nat_lt 0 (length (members id s.recordings))) NotEmpty (makes (λ _. removed_reply id) (removing_album s id))
    (ap (λ (n : ℕ). nat_lt 0 n) (sym (count_of-rows id s.recordings)) ∙ some)))
