-- There is one verdict at most, and an import within the limits is granted.
use Rattle.std.proofs.Common.{◌≡◌, ◌||◌, ℕ, Bool, true, false, Option, None, Some, nat_le, List, sym, ap, ◌∙◌, subst}
use Rattle.lib_base.specs.declared.files.Summary.{Summary}
use Rattle.lib_base.specs.declared.limits.TheConstants.{NUMBERS_END}
use Rattle.file_model.specs.Pcm.{Pcm}
use Rattle.library_model.specs.declared.messages.Command.{Command}
use Rattle.library_model.specs.declared.messages.Command.TheVariants.{NewAlbum, Import, Retake, Regroup, RemoveRecording, RemoveAlbum}
use Rattle.library_model.specs.declared.refusals.Refusal.{Refusal}
use Rattle.library_model.specs.declared.refusals.Refusal.TheVariants.{AlbumFull, Ids}
use Rattle.library_model.specs.Asked.{Asked, Wanted, change, command, malformed, question, refused}
use Rattle.library_model.specs.Findings.{Finding, Finds, measured}
use Rattle.library_model.specs.Machine.{Decides, DecidesChange, DecidesCommand, OfAlbum, OfFile, OfRecording, Step, Sums, Verdict, accepts, import_step, imported, is_crowded, is_there, keeping, kept_under, makes, new_album_step, new_recording, recording_of, recording_reply, refuses, regroup_step, remove_album_step, remove_step, retake_step, retaken, retaking, unless, verdict_reply, with_albums}
use Rattle.library_model.specs.State.{Album, Kept, Recording, State}
use Rattle.library_model.proofs.Measuring.{Finds_unique}
use Rattle.library_model.proofs.Resumming.{Resums-unique}

-- A step has one verdict at most.
pub Sums-unique : (step : Step) (v w : Verdict) → Sums step v → Sums step w → v ≡ w
Sums-unique (refuses reply) v w x y = x ∙ sym y
Sums-unique (makes said next) v w x y =
    let same : x.0 ≡ y.0 = Resums-unique next.recordings next.albums x.0 y.0 x.1 y.1 in
    x.2 ∙ ap (λ (albums : List Album). accepts (said (with_albums next albums)) (with_albums next albums)) same ∙ sym y.2

-- a fact that one verdict has at most
abbrev One : (Verdict → Type 0) → Type 0
One Decided = (v w : Verdict) → Decided v → Decided w → v ≡ w

OfRecording-unique : (found : Option Recording) (Decided : Recording → Verdict → Type 0) → ((r : Recording) → One (Decided r))
    → One (OfRecording found Decided)
OfRecording-unique None Decided one v w x y = x ∙ sym y
OfRecording-unique (Some r) Decided one v w x y = one r v w x y

OfAlbum-unique : (there : Bool) (Decided : Verdict → Type 0) → One Decided → One (OfAlbum there Decided)
OfAlbum-unique false Decided one v w x y = x ∙ sym y
OfAlbum-unique true Decided one v w x y = one v w x y

OfFile-unique : (file : List ℕ) (step : Finding → Step) → One (OfFile file step)
OfFile-unique file step v w x y =
    let same : x.0 ≡ y.0 = Finds_unique file x.0 y.0 x.1 y.1 in
    let Of : Finding → Type 0 = λ f. Sums (step f) v in
    Sums-unique (step y.0) v w (subst Of same x.2) y.2

-- A command has one verdict at most.
pub DecidesCommand-unique : (s : State) (wanted : Command) (v w : Verdict) → DecidesCommand s wanted v → DecidesCommand s wanted w → v ≡ w
DecidesCommand-unique s (NewAlbum name) = Sums-unique (new_album_step s name)
DecidesCommand-unique s (Import album name file) =
    OfAlbum-unique (is_there album s.albums) (OfFile file (import_step s album name file)) (OfFile-unique file (import_step s album name file))
DecidesCommand-unique s (Retake id file) =
    OfRecording-unique (recording_of id s.recordings) (λ r. OfFile file (retake_step s r file)) (λ r. OfFile-unique file (retake_step s r file))
DecidesCommand-unique s (Regroup id album) =
    OfRecording-unique (recording_of id s.recordings) (λ r. OfAlbum (is_there album s.albums) (Sums (regroup_step s r album)))
    (λ r. OfAlbum-unique (is_there album s.albums) (Sums (regroup_step s r album)) (Sums-unique (regroup_step s r album)))
DecidesCommand-unique s (RemoveRecording id) =
    OfRecording-unique (recording_of id s.recordings) (λ r. Sums (remove_step s r)) (λ r. Sums-unique (remove_step s r))
DecidesCommand-unique s (RemoveAlbum id) =
    OfAlbum-unique (is_there (Some id) s.albums) (Sums (remove_album_step s id)) (Sums-unique (remove_album_step s id))

-- A change has one verdict at most.
pub DecidesChange-unique : (s : State) (token mark : List ℕ) (wanted : Wanted) (kept : Option Kept) (v w : Verdict)
    → DecidesChange s token mark wanted kept v → DecidesChange s token mark wanted kept w → v ≡ w
DecidesChange-unique s token mark wanted (Some kept) v w x y = x ∙ sym y
DecidesChange-unique s token mark (malformed reply) None v w x y = x ∙ sym y
DecidesChange-unique s token mark (command wanted) None v w x y =
    x.2 ∙ ap (keeping token mark) (DecidesCommand-unique s wanted x.0 y.0 x.1 y.1) ∙ sym y.2

-- What is asked has one verdict at most.
pub Decides-unique : (s : State) (q : Asked) (v w : Verdict) → Decides s q v → Decides s q w → v ≡ w
Decides-unique s (refused reply) v w x y = x ∙ sym y
Decides-unique s (question about) v w x y = x ∙ sym y
Decides-unique s (change token mark wanted) v w x y =
    DecidesChange-unique s token mark wanted (kept_under token s.replies) v w x y

-- ---- imports

-- where a test fails, the step behind it is made
pub passed : (test : Bool) (cause : Refusal) (step : Step) (verdict : Verdict) → test ≡ false → Sums (unless test cause step) verdict
    → Sums step verdict
passed test cause step verdict is sums = subst (λ (b : Bool). Sums (unless b cause step) verdict) is sums

-- The import of an accepted file under a fresh token is granted, where its album is there and has room, and numbers are left: its
-- verdict replies 201.
pub import_granted : (s : State) (token mark : List ℕ) (album : Option ℕ) (name file : List ℕ) (sound : Pcm) (summary : Summary)
    (verdict : Verdict) → kept_under token s.replies ≡ None → is_there album s.albums ≡ true → Finds file (measured sound summary)
    → is_crowded album (imported s album name file sound summary).recordings ≡ false
    → (nat_le NUMBERS_END s.next_recording || nat_le NUMBERS_END s.next_take) ≡ false
    → Decides s (change token mark (command (Import album name file))) verdict → (verdict_reply verdict).status ≡ 201
import_granted s token mark album name file sound summary verdict fresh there finds room left decides =
    let Of : Option Kept → Type 0 = λ kept. DecidesChange s token mark (command (Import album name file)) kept verdict in
    let of_fresh : Of None = subst Of fresh decides in
    let decided : Verdict = of_fresh.0 in
    let InAlbum : Bool → Type 0 = λ b. OfAlbum b (OfFile file (import_step s album name file)) decided in
    let by : InAlbum true = subst InAlbum there of_fresh.1 in
    let same : by.0 ≡ measured sound summary = Finds_unique file by.0 (measured sound summary) by.1 finds in
    let OfFinding : Finding → Type 0 = λ f. Sums (import_step s album name file f) decided in
    let sums : OfFinding (measured sound summary) = subst OfFinding same by.2 in
    let next : State = imported s album name file sound summary in
    let step : Step = makes (λ _. recording_reply 201 (new_recording s album name file sound summary)) next in
    let lacks : Bool = nat_le NUMBERS_END s.next_recording || nat_le NUMBERS_END s.next_take in
    let made : Sums step decided =
    passed lacks Ids step decided left (passed (is_crowded album next.recordings) AlbumFull (unless lacks Ids step) decided room sums) in
    ap (λ (v : Verdict). (verdict_reply v).status) of_fresh.2
    ∙ ap (λ (v : Verdict). (verdict_reply (keeping token mark v)).status) made.2
