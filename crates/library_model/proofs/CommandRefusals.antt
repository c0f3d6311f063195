-- A refused command has the status of an error of the client (RFC 9110 section 15.5), so none that is kept.
use Rattle.std.proofs.Common.{◌≤◌, ◌||◌, inl, inr, ℕ, Bool, true, false, nat_le, nat_lt, Option, None, Some, List, sym, subst, arith, length}
use Rattle.std.specs.Prelude.{⊤}
use Rattle.lib_base.specs.declared.limits.TheConstants.{NUMBERS_END}
use Rattle.library_model.specs.declared.messages.Command.{Command}
use Rattle.library_model.specs.declared.messages.Command.TheVariants.{NewAlbum, Import, Retake, Regroup, RemoveRecording, RemoveAlbum}
use Rattle.library_model.specs.declared.messages.Reply.{Reply}
use Rattle.library_model.specs.declared.refusals.Refusal.{Refusal}
use Rattle.library_model.specs.declared.refusals.Refusal.TheVariants.{AlbumFull, Ids, NotEmpty}
use Rattle.library_model.specs.Findings.{Finding, broken_by, measured}
use Rattle.library_model.specs.InOrder.{IsKeptStatus}
use Rattle.library_model.specs.Machine.{DecidesCommand, OfAlbum, OfFile, OfRecording, Step, Sums, Verdict, accepts, import_step, imported, is_crowded, is_there, makes, new_album_step, recording_of, refuses, regroup_step, regrouping, remove_album_step, remove_step, retake_step, stays, unless}
use Rattle.library_model.specs.Refusals.{status_of}
use Rattle.library_model.specs.Stands.{members}
use Rattle.library_model.specs.State.{Recording, State}

-- the status of an error
abbrev pub IsError : ℕ → Type 0
IsError status = 400 ≤ status

-- no status of an error is kept
pub error_unkept : (status : ℕ) → IsError status → ¬ IsKeptStatus status
error_unkept status error (inl is) = let least : 400 ≤ status = error in absurd (omega (arith, least, is))
error_unkept status error (inr is) = let least : 400 ≤ status = error in absurd (omega (arith, least, is))

-- a verdict that leaves the state replies with an error
abbrev StaysWithError : Verdict → Type 0
StaysWithError (stays reply) = IsError reply.status
StaysWithError (accepts reply next) = ⊤

-- a step that refuses does
abbrev RefusesWithError : Step → Type 0
RefusesWithError (refuses reply) = IsError reply.status
RefusesWithError (makes said next) = ⊤

-- so does its verdict
sums_error : (step : Step) (verdict : Verdict) → RefusesWithError step → Sums step verdict → StaysWithError verdict
sums_error (refuses reply) verdict error sums = subst StaysWithError (sym sums) error
sums_error (makes said next) verdict error sums = subst StaysWithError (sym sums.2) tt

-- and a step that may be refused first
unless_error : (test : Bool) (cause : Refusal) (step : Step) → IsError (status_of cause) → RefusesWithError step
    → RefusesWithError (unless test cause step)
unless_error true cause step of_cause error = of_cause
unless_error false cause step of_cause error = error

of_recording_error : (found : Option Recording) (Decided : Recording → Verdict → Type 0) (verdict : Verdict)
    → ((r : Recording) → Decided r verdict → StaysWithError verdict) → OfRecording found Decided verdict → StaysWithError verdict
of_recording_error None Decided verdict error decides = subst StaysWithError (sym decides) (omega arith)
of_recording_error (Some r) Decided verdict error decides = error r decides

of_album_error : (there : Bool) (Decided : Verdict → Type 0) (verdict : Verdict) → (Decided verdict → StaysWithError verdict)
    → OfAlbum there Decided verdict → StaysWithError verdict
of_album_error false Decided verdict error decides = subst StaysWithError (sym decides) (omega arith)
of_album_error true Decided verdict error decides = error decides

import_error : (s : State) (album : Option ℕ) (name file : List ℕ) (finding : Finding) → RefusesWithError (import_step s album name file finding)
import_error s album name file (broken_by rule place) = omega arith
import_error s album name file (measured sound summary) =
    unless_error (is_crowded album (imported s album name file sound summary).recordings) AlbumFull _ (omega arith)
    (unless_error (nat_le NUMBERS_END s.next_recording || nat_le NUMBERS_END s.next_take) Ids _ (omega arith) tt)

retake_error : (s : State) (r : Recording) (file : List ℕ) (finding : Finding) → RefusesWithError (retake_step s r file finding)
retake_error s r file (broken_by rule place) = omega arith
retake_error s r file (measured sound summary) = unless_error (nat_le NUMBERS_END s.next_take) Ids _ (omega arith) tt

-- a command that leaves the state is replied to with an error
command_error : (s : State) (wanted : Command) (verdict : Verdict) → DecidesCommand s wanted verdict → StaysWithError verdict
command_error s (NewAlbum name) verdict decides =
    sums_error (new_album_step s name) verdict (unless_error (nat_le NUMBERS_END s.next_album) Ids _ (omega arith) tt) decides
command_error s (Import album name file) verdict decides =
    of_album_error (is_there album s.albums) (OfFile file (import_step s album name file)) verdict
    (λ found. sums_error (import_step s album name file found.0) verdict (import_error s album name file found.0) found.2) decides
command_error s (Retake id file) verdict decides =
    of_recording_error (recording_of id s.recordings) (λ r. OfFile file (retake_step s r file)) verdict
    (λ r found. sums_error (retake_step s r file found.0) verdict (retake_error s r file found.0) found.2) decides
command_error s (Regroup id album) verdict decides =
    of_recording_error (recording_of id s.recordings) (λ r. OfAlbum (is_there album s.albums) (Sums (regroup_step s r album))) verdict
    (λ r found. of_album_error (is_there album s.albums) (Sums (regroup_step s r album)) verdict
    (λ sums. sums_error (regroup_step s r album) verdict
    (unless_error (is_crowded album (regrouping s r album).recordings) AlbumFull _ (omega arith) tt) sums) found) decides
command_error s (RemoveRecording id) verdict decides =
    of_recording_error (recording_of id s.recordings) (λ r. Sums (remove_step s r)) verdict
    (λ r sums. sums_error (remove_step s r) verdict tt sums) decides
command_error s (RemoveAlbum id) verdict decides =
    of_album_error (is_there (Some id) s.albums) (Sums (remove_album_step s id)) verdict
    (λ sums. sums_error (remove_album_step s id) verdict
    (unless_error (nat_lt 0 (length (members id s.recordings))) NotEmpty _ (omega arith) tt) sums) decides

-- A refused command has no status that is kept.
pub refused_unkept : (s : State) (wanted : Command) (reply : Reply) → DecidesCommand s wanted (stays reply) → ¬ IsKeptStatus reply.status
refused_unkept s wanted reply decides kept = error_unkept reply.status (command_error s wanted (stays reply) decides) kept
