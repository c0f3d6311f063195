-- When a command would crowd an album, in terms of rows.
use Rattle.std.proofs.Common.{◌≡◌, ◌==◌, ℕ, true, false, Option, None, Some, List, [], ◌∷◌, map, refl, sym, ap, ◌∙◌, subst, arith}
use Rattle.std.specs.List.{AllByRecursion, find}
use Rattle.std.proofs.lemmas.Bool.Decides.{nat_tests}
use Rattle.lib_base.specs.declared.files.Summary.{Summary}
use Rattle.file_model.specs.Pcm.{Pcm}
use Rattle.keeper_store.specs.declared.row_types.RecordingRow.{RecordingRow}
use Rattle.library_model.specs.Batches.{crowds}
use Rattle.library_model.specs.InOrder.{IsGiven}
use Rattle.library_model.specs.Machine.{imported, is_crowded, new_recording, recording_of, regrouped, regrouping}
use Rattle.library_model.specs.RowRules.{album_is_there}
use Rattle.library_model.specs.Stands.{IsValid, recording_row, tables_of}
use Rattle.library_model.specs.State.{Recording, State}
use Rattle.library_model.proofs.Counting.{crowds_new, crowds_over}
use Rattle.library_model.proofs.MadeStates.{row_found}
use Rattle.library_model.proofs.Looking.{recording_named}

-- rows below a number have none of it
below_missing : (next : ℕ) (rows : List RecordingRow) → AllByRecursion (λ (r : RecordingRow). IsGiven next r.id) rows
    → find (λ (r : RecordingRow). r.id == next) rows ≡ None
below_missing next [] given = refl
below_missing next (r ∷ rows) given =
    let below = given.0.1 in
    let other : (r.id == next) ≡ false = grind (arith, nat_tests) in
    rw other (below_missing next rows given.1)

-- No recording of a valid state has the next id.
pub import_own : (s : State) → IsValid s → find (λ (r : RecordingRow). r.id == s.next_recording) (tables_of s).recordings ≡ None
import_own s valid = below_missing s.next_recording (tables_of s).recordings valid.rows.ids_given

-- An import crowds an album that is full.
pub import_crowds : (s : State) (album : Option ℕ) (name file : List ℕ) (sound : Pcm) (summary : Summary) → IsValid s
    → is_crowded album (imported s album name file sound summary).recordings ≡ crowds None album (tables_of s).recordings
import_crowds s album name file sound summary valid =
    crowds_new (new_recording s album name file sound summary) album s.recordings refl (import_own s valid)

-- A recording crowds an album that is full, where that is another one than its own.
pub regroup_crowds : (s : State) (id : ℕ) (album : Option ℕ) (r : Recording) (old : RecordingRow) → IsValid s
    → recording_of id s.recordings ≡ Some r → recording_row r ≡ old → album_is_there album (tables_of s).albums ≡ true
    → is_crowded album (regrouping s r album).recordings ≡ crowds old.album album (tables_of s).recordings
regroup_crowds s id album r old valid found is there =
    let own : find (λ (row : RecordingRow). row.id == r.id) (map recording_row s.recordings) ≡ Some (recording_row r) =
    subst (λ (n : ℕ). find (λ (row : RecordingRow). row.id == n) (map recording_row s.recordings) ≡ Some (recording_row r)) (sym (recording_named id s.recordings r found))
    (row_found id s.recordings r found) in
    crowds_over (regrouped r album) album (recording_row r) s.recordings (tables_of s).albums refl valid.rows.recordings own there
    valid.rows.few_members
    ∙ ap (λ (row : RecordingRow). crowds row.album album (tables_of s).recordings) is
