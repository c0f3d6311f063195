-- The statuses of replies that are decided: none is that of a fault (RFC 9110 section 15.6).
use Rattle.std.proofs.Common.{◌≡◌, ◌<◌, inl, inr, ◌||◌, ℕ, Bool, true, false, nat_le, nat_lt, Option, None, Some, List, [], ◌∷◌, refl, sym, subst, arith, length, if◌then◌else◌}
use Rattle.std.specs.List.{AllByRecursion}
use Rattle.std.specs.Cmp.Lexicographic.{pointwise}
use Rattle.std.specs.Prelude.{nat_eq, ⊤}
use Rattle.lib_base.specs.declared.limits.TheConstants.{NUMBERS_END}
use Rattle.keeper_store.specs.declared.row_types.ReplyRow.{ReplyRow}
use Rattle.library_model.specs.declared.messages.Command.{Command}
use Rattle.library_model.specs.declared.messages.Command.TheVariants.{NewAlbum, Import, Retake, Regroup, RemoveRecording, RemoveAlbum}
use Rattle.library_model.specs.declared.messages.Question.{Question}
use Rattle.library_model.specs.declared.messages.Question.TheVariants as about
use Rattle.library_model.specs.declared.refusals.Refusal.{Refusal}
use Rattle.library_model.specs.declared.refusals.Refusal.TheVariants.{AlbumFull, Ids, NotEmpty, TokenUsed}
use Rattle.library_model.specs.Asked.{Asked, Wanted, change, command, malformed, question, refused}
use Rattle.library_model.specs.Findings.{Finding, broken_by, measured}
use Rattle.library_model.specs.InOrder.{IsKeptStatus}
use Rattle.library_model.specs.Machine.{Decides, DecidesChange, DecidesCommand, OfAlbum, OfFile, OfRecording, Step, Sums, Verdict, accepts, album_of, found_album_reply, found_reply, import_step, imported, is_crowded, is_there, keeping, kept_under, makes, new_album_step, question_reply, recording_of, refuses, regroup_step, regrouping, remove_album_step, remove_step, repeat_reply, retake_step, stays, unless, verdict_reply}
use Rattle.library_model.specs.Refusals.{status_of}
use Rattle.library_model.specs.Replies.{json, refusal}
use Rattle.library_model.specs.Stands.{IsValid, members, reply_row}
use Rattle.library_model.specs.State.{Album, Kept, Recording, State}
use Rattle.library_model.proofs.InOrderLemmas.{AllByRecursion-unmap}

-- the status is none of a fault
abbrev pub IsBelow : ℕ → Type 0
IsBelow status = status < 500

-- what is refused before the library is looked at is refused with no such status
abbrev pub RefusesBelow : Asked → Type 0
RefusesBelow (refused reply) = IsBelow reply.status
RefusesBelow (question about) = ⊤
RefusesBelow (change token mark (malformed reply)) = IsBelow reply.status
RefusesBelow (change token mark (command wanted)) = ⊤

-- ---- steps

-- a step replies with no such status
abbrev RepliesBelow : Step → Type 0
RepliesBelow (refuses reply) = IsBelow reply.status
RepliesBelow (makes said next) = (after : State) → IsBelow (said after).status

-- so does its verdict
sums_below : (step : Step) (verdict : Verdict) → RepliesBelow step → Sums step verdict → IsBelow (verdict_reply verdict).status
sums_below (refuses reply) verdict below sums = subst (λ (v : Verdict). IsBelow (verdict_reply v).status) (sym sums) below
sums_below (makes said next) verdict below sums =
    subst (λ (v : Verdict). IsBelow (verdict_reply v).status) (sym sums.2) (below (record next { albums = sums.0 }))

-- and a step that may be refused first
unless_below : (test : Bool) (cause : Refusal) (step : Step) → IsBelow (status_of cause) → RepliesBelow step → RepliesBelow (unless test cause step)
unless_below true cause step of_cause below = of_cause
unless_below false cause step of_cause below = below

of_recording_below : (found : Option Recording) (Decided : Recording → Verdict → Type 0) (verdict : Verdict)
    → ((r : Recording) → Decided r verdict → IsBelow (verdict_reply verdict).status) → OfRecording found Decided verdict
    → IsBelow (verdict_reply verdict).status
of_recording_below None Decided verdict below decides = subst (λ (v : Verdict). IsBelow (verdict_reply v).status) (sym decides) (omega arith)
of_recording_below (Some r) Decided verdict below decides = below r decides

of_album_below : (there : Bool) (Decided : Verdict → Type 0) (verdict : Verdict)
    → (Decided verdict → IsBelow (verdict_reply verdict).status) → OfAlbum there Decided verdict → IsBelow (verdict_reply verdict).status
of_album_below false Decided verdict below decides = subst (λ (v : Verdict). IsBelow (verdict_reply v).status) (sym decides) (omega arith)
of_album_below true Decided verdict below decides = below decides

import_below : (s : State) (album : Option ℕ) (name file : List ℕ) (finding : Finding) → RepliesBelow (import_step s album name file finding)
import_below s album name file (broken_by rule place) = omega arith
import_below s album name file (measured sound summary) =
    unless_below (is_crowded album (imported s album name file sound summary).recordings) AlbumFull _ (omega arith)
    (unless_below (nat_le NUMBERS_END s.next_recording || nat_le NUMBERS_END s.next_take) Ids _ (omega arith) (λ after. omega arith))

retake_below : (s : State) (r : Recording) (file : List ℕ) (finding : Finding) → RepliesBelow (retake_step s r file finding)
retake_below s r file (broken_by rule place) = omega arith
retake_below s r file (measured sound summary) =
    unless_below (nat_le NUMBERS_END s.next_take) Ids _ (omega arith) (λ after. omega arith)

-- A command is replied to with no such status.
command_below : (s : State) (wanted : Command) (verdict : Verdict) → DecidesCommand s wanted verdict → IsBelow (verdict_reply verdict).status
command_below s (NewAlbum name) verdict decides =
    sums_below (new_album_step s name) verdict (unless_below (nat_le NUMBERS_END s.next_album) Ids _ (omega arith) (λ after. omega arith)) decides
command_below s (Import album name file) verdict decides =
    of_album_below (is_there album s.albums) (OfFile file (import_step s album name file)) verdict
    (λ found. sums_below (import_step s album name file found.0) verdict (import_below s album name file found.0) found.2) decides
command_below s (Retake id file) verdict decides =
    of_recording_below (recording_of id s.recordings) (λ r. OfFile file (retake_step s r file)) verdict
    (λ r found. sums_below (retake_step s r file found.0) verdict (retake_below s r file found.0) found.2) decides
command_below s (Regroup id album) verdict decides =
    of_recording_below (recording_of id s.recordings) (λ r. OfAlbum (is_there album s.albums) (Sums (regroup_step s r album))) verdict
    (λ r found. of_album_below (is_there album s.albums) (Sums (regroup_step s r album)) verdict
    (λ sums. sums_below (regroup_step s r album) verdict
    (unless_below (is_crowded album (regrouping s r album).recordings) AlbumFull _ (omega arith) (λ after. omega arith)) sums) found) decides
command_below s (RemoveRecording id) verdict decides =
    of_recording_below (recording_of id s.recordings) (λ r. Sums (remove_step s r)) verdict
    (λ r sums. sums_below (remove_step s r) verdict (λ after. omega arith) sums) decides
command_below s (RemoveAlbum id) verdict decides =
    of_album_below (is_there (Some id) s.albums) (Sums (remove_album_step s id)) verdict
    (λ sums. sums_below (remove_album_step s id) verdict
    (unless_below (nat_lt 0 (length (members id s.recordings))) NotEmpty _ (omega arith) (λ after. omega arith)) sums) decides

-- ---- kept replies

-- what is kept was a change that was made
kept_below : (token : List ℕ) (replies : List Kept) (kept : Kept) → AllByRecursion (λ (k : Kept). IsKeptStatus k.status) replies
    → kept_under token replies ≡ Some kept → IsBelow kept.status
kept_below token [] kept all is = absurd (cc is)
kept_below token (k ∷ replies) kept all is = by_token (pointwise nat_eq k.token token) is (kept_below token replies kept all.1)
  where
    by_status : IsKeptStatus k.status → IsBelow k.status
    by_status (inl is) = omega (arith, is)
    by_status (inr is) = omega (arith, is)

    by_token : (same : Bool) → (if same then Some k else kept_under token replies) ≡ Some kept
        → (kept_under token replies ≡ Some kept → IsBelow kept.status) → IsBelow kept.status
    by_token true is rest =
        let one : k ≡ kept = cc is in
        subst (λ (x : Kept). IsBelow x.status) one (by_status all.0)
    by_token false is rest = rest is

-- a repeat is given that, or is refused
repeat_below : (mark : List ℕ) (kept : Kept) → IsBelow kept.status → IsBelow (repeat_reply mark kept).status
repeat_below mark kept below = by_mark (pointwise nat_eq kept.mark mark)
  where
    by_mark : (same : Bool) → IsBelow (if same then json kept.status kept.body else refusal TokenUsed).status
    by_mark true = below
    by_mark false = omega arith

-- a verdict that is kept is replied to alike
keeping_below : (token mark : List ℕ) (decided : Verdict) → IsBelow (verdict_reply decided).status
    → IsBelow (verdict_reply (keeping token mark decided)).status
keeping_below token mark (stays reply) below = below
keeping_below token mark (accepts reply next) below = below

-- ---- questions

question_below : (s : State) (asked : Question) → IsBelow (question_reply s asked).status
question_below s (about.Recording id) = found (recording_of id s.recordings)
  where
    found : (r : Option Recording) → IsBelow (found_reply r).status
    found (Some r) = omega arith
    found None = omega arith
question_below s (about.Album id) = found (album_of id s.albums)
  where
    found : (a : Option Album) → IsBelow (found_album_reply s a).status
    found (Some a) = omega arith
    found None = omega arith

-- In a valid state what is asked is decided with no such status.
pub Decides-IsBelow : (s : State) (asked : Asked) (verdict : Verdict) → IsValid s → RefusesBelow asked → Decides s asked verdict
    → IsBelow (verdict_reply verdict).status
Decides-IsBelow s (refused reply) verdict valid below decides = subst (λ (v : Verdict). IsBelow (verdict_reply v).status) (sym decides) below
Decides-IsBelow s (question about) verdict valid below decides =
    subst (λ (v : Verdict). IsBelow (verdict_reply v).status) (sym decides) (question_below s about)
Decides-IsBelow s (change token mark wanted) verdict valid below decides = by_kept wanted (kept_under token s.replies) refl below decides
  where
    statuses : AllByRecursion (λ (k : Kept). IsKeptStatus k.status) s.replies
    statuses = AllByRecursion-unmap (λ (row : ReplyRow). IsKeptStatus row.status) reply_row s.replies valid.rows.statuses

    Below : Verdict → Type 0
    Below v = IsBelow (verdict_reply v).status

    by_kept : (wanted : Wanted) (kept : Option Kept) → kept_under token s.replies ≡ kept → RefusesBelow (change token mark wanted)
        → DecidesChange s token mark wanted kept verdict → IsBelow (verdict_reply verdict).status
    by_kept wanted (Some kept) is below decides =
        subst Below (sym decides) (repeat_below mark kept (kept_below token s.replies kept statuses is))
    by_kept (malformed reply) None is below decides = subst Below (sym decides) below
    by_kept (command asked) None is below decides =
        subst Below (sym decides.2) (keeping_below token mark decides.0 (command_below s asked decides.0 decides.1))
