-- What an accepted command makes.
use Rattle.std.proofs.Common.{◌≡◌, ◌||◌, ℕ, Bool, true, false, nat_le, nat_lt, Option, None, Some, List, [], length, inl, inr, refl, ap, ◌∙◌, subst}
use Rattle.lib_base.specs.declared.files.Summary.{Summary}
use Rattle.lib_base.specs.declared.limits.TheConstants.{NUMBERS_END}
use Rattle.file_model.specs.Pcm.{Pcm}
use Rattle.library_model.specs.declared.messages.Command.{Command}
use Rattle.library_model.specs.declared.messages.Command.TheVariants.{NewAlbum, Import, Retake, Regroup, RemoveRecording, RemoveAlbum}
use Rattle.library_model.specs.declared.messages.Reply.{Reply}
use Rattle.library_model.specs.declared.refusals.Refusal.{Refusal}
use Rattle.library_model.specs.declared.refusals.Refusal.TheVariants.{NotEmpty, AlbumFull, Ids}
use Rattle.library_model.specs.Bodies.{removed_reply}
use Rattle.library_model.specs.Findings.{Finding, Finds, broken_by, measured}
use Rattle.library_model.specs.InOrder.{IsKeptStatus}
use Rattle.library_model.specs.Machine.{DecidesCommand, OfAlbum, OfFile, OfRecording, Step, Sums, Verdict, accepts, album_reply, import_step, imported, is_crowded, is_there, makes, new_album, new_recording, recording_of, recording_reply, regroup_step, regrouped, regrouping, remove_step, removing, removing_album, retake_step, retaken, retaking, state_after, unless, with_new_album}
use Rattle.library_model.specs.Stands.{Resums, members}
use Rattle.library_model.specs.State.{Album, Recording, State}

-- a command makes a state, before its albums are summed: what it names is there, its file is measured, and no limit is passed
abbrev pub MakesState : State → Command → State → Type 0
MakesState s (NewAlbum name) next = (nat_le NUMBERS_END s.next_album ≡ false) × (next ≡ with_new_album s name)
MakesState s (Import album name file) next =
    (sound : Pcm) × (summary : Summary) × (is_there album s.albums ≡ true) × Finds file (measured sound summary)
    × (is_crowded album (imported s album name file sound summary).recordings ≡ false)
    × ((nat_le NUMBERS_END s.next_recording || nat_le NUMBERS_END s.next_take) ≡ false)
    × (next ≡ imported s album name file sound summary)
MakesState s (Retake id file) next =
    (sound : Pcm) × (summary : Summary) × (r : Recording) × (recording_of id s.recordings ≡ Some r) × Finds file (measured sound summary)
    × (nat_le NUMBERS_END s.next_take ≡ false) × (next ≡ retaking s r file sound summary)
MakesState s (Regroup id album) next =
    (r : Recording) × (recording_of id s.recordings ≡ Some r) × (is_there album s.albums ≡ true)
    × (is_crowded album (regrouping s r album).recordings ≡ false) × (next ≡ regrouping s r album)
MakesState s (RemoveRecording id) next =
    (r : Recording) × (recording_of id s.recordings ≡ Some r) × (next ≡ removing s r)
MakesState s (RemoveAlbum id) next =
    (is_there (Some id) s.albums ≡ true) × (nat_lt 0 (length (members id s.recordings)) ≡ false) × (next ≡ removing_album s id)

-- an accepted command makes a state, whose albums are summed then, and is replied to with a status that is kept
pub record Made (s : State) (wanted : Command) (reply : Reply) (after : State) : Type 0 where
  pub next : State
  pub albums : List Album
  pub makes_state : MakesState s wanted next
  pub resums : Resums next.recordings next.albums albums
  pub after_is : after ≡ record next { albums = albums }
  pub status : IsKeptStatus reply.status

-- what was accepted was there
of_recording : (found : Option Recording) (Decided : Recording → Verdict → Type 0) (reply : Reply) (after : State)
    → OfRecording found Decided (accepts reply after) → (r : Recording) × (found ≡ Some r) × Decided r (accepts reply after)
of_recording None Decided reply after decides = absurd (cc decides)
of_recording (Some r) Decided reply after decides = (r, refl, decides)

of_album : (there : Bool) (Decided : Verdict → Type 0) (reply : Reply) (after : State)
    → OfAlbum there Decided (accepts reply after) → (there ≡ true) × Decided (accepts reply after)
of_album false Decided reply after decides = absurd (cc decides)
of_album true Decided reply after decides = (refl, decides)

-- and passed no limit
of_limit : (test : Bool) (cause : Refusal) (step : Step) (reply : Reply) (after : State)
    → Sums (unless test cause step) (accepts reply after) → (test ≡ false) × Sums step (accepts reply after)
of_limit true cause step reply after sums = absurd (cc sums)
of_limit false cause step reply after sums = (refl, sums)

-- what a step makes, once its albums are summed
made : (s : State) (wanted : Command) (said : Reply) (next : State) (reply : Reply) (after : State) → MakesState s wanted next
    → IsKeptStatus said.status → Sums (makes (λ _. said) next) (accepts reply after) → Made s wanted reply after
made s wanted said next reply after makes_it kept sums =
    let same : said ≡ reply = cc sums.2 in
    let Of : Reply → Type 0 = λ r. IsKeptStatus r.status in
    record {
      next = next;
      albums = sums.0;
      makes_state = makes_it;
      resums = sums.1;
      after_is = ap (λ (v : Verdict). state_after s v) sums.2;
      status = subst Of same kept;
    }

-- so it is of a retake
retake_made : (s : State) (id : ℕ) (file : List ℕ) (reply : Reply) (after : State) → DecidesCommand s (Retake id file) (accepts reply after)
    → Made s (Retake id file) reply after
retake_made s id file reply after decides =
    let found = of_recording (recording_of id s.recordings) (λ r. OfFile file (retake_step s r file)) reply after decides in
    by_finding found.0 found.1 found.2.0 found.2.1 found.2.2
  where
    by_finding : (r : Recording) → recording_of id s.recordings ≡ Some r → (finding : Finding) → Finds file finding
        → Sums (retake_step s r file finding) (accepts reply after) → Made s (Retake id file) reply after
    by_finding r there (broken_by rule place) finds sums = absurd (cc sums)
    by_finding r there (measured sound summary) finds sums =
        let said = recording_reply 200 (retaken s r file sound summary) in
        let next = retaking s r file sound summary in
        let left = of_limit (nat_le NUMBERS_END s.next_take) Ids (makes (λ _. said) next) reply after sums in
        made s (Retake id file) said next reply after (sound, summary, r, there, finds, left.0, refl) (inl refl) left.1

-- and of a recording that comes into another album
regroup_made : (s : State) (id : ℕ) (album : Option ℕ) (reply : Reply) (after : State) → DecidesCommand s (Regroup id album) (accepts reply after)
    → Made s (Regroup id album) reply after
regroup_made s id album reply after decides =
    let found = of_recording (recording_of id s.recordings) (λ r. OfAlbum (is_there album s.albums) (Sums (regroup_step s r album)))
    reply after decides in
    let r = found.0 in
    let there = of_album (is_there album s.albums) (Sums (regroup_step s r album)) reply after found.2 in
    let said = recording_reply 200 (regrouped r album) in
    let next = regrouping s r album in
    let room = of_limit (is_crowded album next.recordings) AlbumFull (makes (λ _. said) next) reply after there.1 in
    made s (Regroup id album) said next reply after (r, found.1, there.0, room.0, refl) (inl refl) room.1

-- What is accepted of a command was made.
pub accepted_made : (s : State) (wanted : Command) (reply : Reply) (after : State) → DecidesCommand s wanted (accepts reply after)
    → Made s wanted reply after
accepted_made s (NewAlbum name) reply after decides =
    let said = album_reply 201 (new_album s name) [] in
    let next = with_new_album s name in
    let left = of_limit (nat_le NUMBERS_END s.next_album) Ids (makes (λ _. said) next) reply after decides in
    made s (NewAlbum name) said next reply after (left.0, refl) (inr refl) left.1
accepted_made s (Import album name file) reply after decides =
    let there = of_album (is_there album s.albums) (OfFile file (import_step s album name file)) reply after decides in
    by_finding there.0 there.1.0 there.1.1 there.1.2
  where
    by_finding : is_there album s.albums ≡ true → (finding : Finding) → Finds file finding
        → Sums (import_step s album name file finding) (accepts reply after) → Made s (Import album name file) reply after
    by_finding there (broken_by rule place) finds sums = absurd (cc sums)
    by_finding there (measured sound summary) finds sums =
        let said = recording_reply 201 (new_recording s album name file sound summary) in
        let next = imported s album name file sound summary in
        let lacks = nat_le NUMBERS_END s.next_recording || nat_le NUMBERS_END s.next_take in
        let room = of_limit (is_crowded album next.recordings) AlbumFull (unless lacks Ids (makes (λ _. said) next)) reply after sums in
        let left = of_limit lacks Ids (makes (λ _. said) next) reply after room.1 in
        made s (Import album name file) said next reply after (sound, summary, there, finds, room.0, left.0, refl) (inr refl) left.1
accepted_made s (Retake id file) reply after decides = retake_made s id file reply after decides
accepted_made s (Regroup id album) reply after decides = regroup_made s id album reply after decides
accepted_made s (RemoveRecording id) reply after decides =
    let found = of_recording (recording_of id s.recordings) (λ r. Sums (remove_step s r)) reply after decides in
    let r = found.0 in
    made s (RemoveRecording id) (removed_reply r.id) (removing s r) reply after (r, found.1, refl) (inl refl) found.2
accepted_made s (RemoveAlbum id) reply after decides =
    let there = of_album (is_there (Some id) s.albums)
    (Sums (unless (nat_lt 0 (length (members id s.recordings))) NotEmpty (makes (λ _. removed_reply id) (removing_album s id))))
    reply after decides in
    let empty = of_limit (nat_lt 0 (length (members id s.recordings))) NotEmpty (makes (λ _. removed_reply id) (removing_album s id))
    reply after there.1 in
    made s (RemoveAlbum id) (removed_reply id) (removing_album s id) reply after (there.0, empty.0, refl) (inl refl) empty.1

-- ---- what a command leaves

-- no state that a command makes has other kept replies
made_replies : (s : State) (wanted : Command) (next : State) → MakesState s wanted next → next.replies ≡ s.replies
made_replies s (NewAlbum name) next is = ap (λ (t : State). t.replies) is.1
made_replies s (Import album name file) next is = ap (λ (t : State). t.replies) is.6
made_replies s (Retake id file) next is = ap (λ (t : State). t.replies) is.6
made_replies s (Regroup id album) next is = ap (λ (t : State). t.replies) is.4
made_replies s (RemoveRecording id) next is = ap (λ (t : State). t.replies) is.2
made_replies s (RemoveAlbum id) next is = ap (λ (t : State). t.replies) is.2

-- A command by itself leaves what is kept.
pub command_leaves : (s : State) (wanted : Command) (reply : Reply) (after : State) → DecidesCommand s wanted (accepts reply after)
    → after.replies ≡ s.replies
command_leaves s wanted reply after decides =
    let is = accepted_made s wanted reply after decides in
    ap (λ (t : State). t.replies) is.after_is ∙ made_replies s wanted is.next is.makes_state
