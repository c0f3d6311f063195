-- What an accepted request leads to: a valid state, whose files the vault holds.
use Rattle.std.proofs.Common.{◌≡◌, ℕ, Some, List, map, sym, subst}
use Rattle.std.specs.List.{AllByRecursion}
use Rattle.keeper_store.specs.Blobs.{Blobs, OthersKept}
use Rattle.keeper_store.proofs.Dropping.{AllByRecursion-without}
use Rattle.keeper_store.proofs.Putting.{AllByRecursion-put}
use Rattle.library_model.specs.declared.messages.Command.{Command}
use Rattle.library_model.specs.declared.messages.Command.TheVariants.{NewAlbum, Import, Retake, Regroup, RemoveRecording, RemoveAlbum}
use Rattle.library_model.specs.declared.messages.Reply.{Reply}
use Rattle.library_model.specs.Asked.{Asked, Wanted, change, question, refused}
use Rattle.library_model.specs.InOrder.{AreInOrder}
use Rattle.library_model.specs.Machine.{Decides, DecidesCommand, accepts, imported, kept_reply, new_recording, regrouped, regrouping, removing, removing_album, retaken, retaking, with_new_album}
use Rattle.library_model.specs.Stands.{AsksWithin, BringsWithin, HoldsFileOf, HoldsFiles, HoldsWanted, IsFound, IsValid, Resums, WantsWithin, album_row, tables_of}
use Rattle.library_model.specs.State.{Album, Recording, State, recording_before}
use Rattle.library_model.proofs.Accepting.{accepted-IsKeptStep}
use Rattle.library_model.proofs.Imports.{HoldsFiles-kept}
use Rattle.library_model.proofs.Keeping.{kept-IsValid}
use Rattle.library_model.proofs.MadeStates.{made_files, made_in_order}
use Rattle.library_model.proofs.NextTables.{found_has}
use Rattle.library_model.proofs.Resummed.{AreInOrder-resummed, all_summed, same_but_levels}
use Rattle.library_model.proofs.Steps.{MakesState, accepted_made}

-- ---- a valid state

-- A state with tables in order and files that are found is valid once its albums are summed.
pub summed-IsValid : (s : State) (albums : List Album) → AreInOrder (tables_of s) → AllByRecursion IsFound s.recordings
    → Resums s.recordings s.albums albums → IsValid (record s { albums = albums })
summed-IsValid s albums are found resums = record {
  rows = AreInOrder-resummed (tables_of s) (map album_row albums) are (same_but_levels s.recordings s.albums albums resums);
  files = found;
  summed = all_summed s.recordings s.albums albums resums;
}

-- A command that is accepted leads from a valid state to a valid one.
pub decided-IsValid : (s : State) (wanted : Command) (reply : Reply) (after : State) → IsValid s → BringsWithin wanted
    → DecidesCommand s wanted (accepts reply after) → IsValid after
decided-IsValid s wanted reply after valid within decides =
    let is = accepted_made s wanted reply after decides in
    subst IsValid (sym is.after_is)
    (summed-IsValid is.next is.albums (made_in_order s wanted is.next valid within is.makes_state)
    (made_files s wanted is.next valid within is.makes_state) is.resums)

-- A valid state is followed by a valid one, where what is asked has its form.
pub accepted-IsValid : (s : State) (asked : Asked) (reply : Reply) (next : State) → IsValid s → AsksWithin asked
    → Decides s asked (accepts reply next) → IsValid next
accepted-IsValid s (refused other) reply next valid within decides = absurd (cc decides)
accepted-IsValid s (question about) reply next valid within decides = absurd (cc decides)
accepted-IsValid s (change token mark wanted) reply next valid within decides =
    let step = accepted-IsKeptStep s token mark wanted reply next decides in
    let brings : BringsWithin step.0 = subst WantsWithin step.1 within.1 in
    let made : IsValid step.2.made = decided-IsValid s step.0 reply step.2.made valid brings step.2.decides in
    let is = accepted_made s step.0 reply step.2.made step.2.decides in
    subst IsValid (sym step.2.next_is) (kept-IsValid step.2.made (kept_reply token mark reply) made within.0 is.status)

-- ---- files

-- Blobs that hold the files of a state, and the one that a command brings under the next take, hold those of the state that it makes.
pub made_holds : (s : State) (wanted : Command) (next : State) (blobs : Blobs) → MakesState s wanted next → HoldsFiles blobs s.recordings
    → HoldsFileOf wanted s.next_take blobs → HoldsFiles blobs next.recordings
made_holds s wanted next blobs makes holds own = by_command wanted makes own
  where
    IsHeld : Recording → Type 0
    IsHeld r = blobs r.take ≡ Some r.file

    at : (made : State) → next ≡ made → HoldsFiles blobs made.recordings → HoldsFiles blobs next.recordings
    at made is held = subst (λ (u : State). HoldsFiles blobs u.recordings) (sym is) held

    by_command : (wanted : Command) → MakesState s wanted next → HoldsFileOf wanted s.next_take blobs → HoldsFiles blobs next.recordings
    by_command (NewAlbum name) (left, is) own = at (with_new_album s name) is holds
    by_command (Import album name file) (sound, summary, there, finds, room, left, is) own =
        at (imported s album name file sound summary) is
        (AllByRecursion-put IsHeld recording_before (new_recording s album name file sound summary) s.recordings own holds)
    by_command (Retake id file) (sound, summary, r, found, finds, left, is) own =
        at (retaking s r file sound summary) is
        (AllByRecursion-put IsHeld recording_before (retaken s r file sound summary) s.recordings own holds)
    by_command (Regroup id album) (r, found, there, room, is) own =
        at (regrouping s r album) is
        (AllByRecursion-put IsHeld recording_before (regrouped r album) s.recordings (found_has IsHeld id s.recordings r holds found).0 holds)
    by_command (RemoveRecording id) (r, found, is) own =
        at (removing s r) is (AllByRecursion-without IsHeld (λ (q : Recording). q.id) r.id s.recordings holds)
    by_command (RemoveAlbum id) (there, empty, is) own = at (removing_album s id) is holds

-- Where the files of a valid state are held, and the request's own under the next take, those of the state after it are.
pub accepted-HoldsFiles : (s : State) (token mark : List ℕ) (wanted : Wanted) (reply : Reply) (next : State) (old new : Blobs) → IsValid s
    → Decides s (change token mark wanted) (accepts reply next) → HoldsFiles old s.recordings → OthersKept s.next_take old new
    → HoldsWanted wanted s.next_take new → HoldsFiles new next.recordings
accepted-HoldsFiles s token mark wanted reply next old new valid decides held others there =
    let step = accepted-IsKeptStep s token mark wanted reply next decides in
    let put : HoldsFileOf step.0 s.next_take new = subst (λ (w : Wanted). HoldsWanted w s.next_take new) step.1 there in
    let is = accepted_made s step.0 reply step.2.made step.2.decides in
    let files : HoldsFiles new is.next.recordings =
    made_holds s step.0 is.next new is.makes_state (HoldsFiles-kept s old new valid held others) put in
    subst (λ (t : State). HoldsFiles new t.recordings) (sym step.2.next_is)
    (subst (λ (t : State). HoldsFiles new t.recordings) (sym is.after_is) files)
