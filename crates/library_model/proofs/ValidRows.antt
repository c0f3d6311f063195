-- The tables of a valid state break no rule.
use Rattle.std.proofs.Common.{◌≡◌, ◌≢◌, ◌==◌, ℕ, Bool, true, false, cond, Some, None, List, [], ◌∷◌, length, map, refl, sym, ap, ◌∙◌, subst, arith}
use Rattle.std.specs.List.{AllByRecursion}
use Rattle.std.proofs.lemmas.Bool.Decides.{nat_tests}
use Rattle.lib_base.specs.Sounds.{IsSound}
use Rattle.lib_base.specs.declared.files.Measured.{Measured}
use Rattle.keeper_store.specs.EnergyBytes.{row_bytes}
use Rattle.keeper_store.specs.declared.contents.Tables.{Tables}
use Rattle.keeper_store.specs.declared.row_types.RecordingRow.{RecordingRow}
use Rattle.keeper_store.proofs.EnergyRows.{energies_in-row_bytes}
use Rattle.sound_model.specs.Albums.{IsAlbumSummary, SummarisesMeasured}
use Rattle.sound_model.specs.Summaries.{IsWithinBounds}
use Rattle.sound_model.proofs.MeasuredBounds.{measured_within}
use Rattle.library_model.specs.Findings.{energies_of, kind_of, measured_of}
use Rattle.library_model.specs.InOrder.{AreInOrder, Differ}
use Rattle.library_model.specs.RowRules.{IsFirstBad, IsSummedAlbum, IsSummedRecording, are_energies_of, energies_of_take, energies_rule, frames_of_take, is_in_album, is_sound, measured_in, members_in}
use Rattle.library_model.specs.Stands.{IsFound, IsSummed, IsValid, album_row, measured_all, members, recording_row, segment_row, segment_rows, tables_of}
use Rattle.library_model.specs.State.{Album, Recording, State}
use Rattle.library_model.proofs.AcceptedFiles.{HasSound, HasSound-accepted}
use Rattle.library_model.proofs.Imports.{AllByRecursion-both, AllByRecursion-weaker}
use Rattle.library_model.proofs.InOrderLemmas.{AllByRecursion-map, AllByRecursion-unmap}
use Rattle.library_model.proofs.NoBadRow.{RecordingPasses, SegmentsPass, none_of_rows}
use Rattle.library_model.proofs.RowBounds.{energies_pass, sound_passes}
use Rattle.library_model.proofs.SegmentRows.{AllByRecursion-rows_with, energies_of_take-found, has_segments-found, of_take, of_take-own}

-- ---- one recording

-- the sound that the file of a recording has
sound_of : (r : Recording) → IsFound r → HasSound (kind_of r.file) r.file r.sound
sound_of r found = HasSound-accepted r.file r.sound found.1.0

-- what is measured of a recording's sound is within the bounds
pub within_bounds : (r : Recording) → IsFound r → IsWithinBounds (measured_of r.sound)
within_bounds r found =
    let has = sound_of r found in
    measured_within r.sound.depth r.sound.frames r.sound.lists has.is_sound (has.frames found.0)

-- the sound of a recording's row passes
row_passes : (r : Recording) → IsFound r → is_sound (recording_row r) ≡ true
row_passes r found =
    let has = sound_of r found in
    let sound : IsSound r.sound.lists r.sound.depth r.sound.frames = has.is_sound in
    let bounds : IsWithinBounds (measured_of r.sound) = within_bounds r found in
    let frames : r.summary.frames ≡ r.sound.frames = found.1.1.frames_kept in
    let peak : r.summary.peak ≡ (measured_of r.sound).peak = found.1.1.peak_kept in
    sound_passes (recording_row r) sound.has_channel sound.few_channels has.depth
    (omega (arith, frames, bounds.frames)) (omega (arith, peak, bounds.peak))

-- ---- the segments of recordings

-- the takes of rows are those of recordings
pub takes_of_rows : (rs : List Recording)
    → map (λ (row : RecordingRow). row.take) (map recording_row rs) ≡ map (λ (r : Recording). r.take) rs
takes_of_rows [] = refl
takes_of_rows (r ∷ rs) = ap (λ (takes : List ℕ). r.take ∷ takes) (takes_of_rows rs)

-- of rows of different takes, each take finds the frames of its own
frames_found : (rows : List RecordingRow) → Differ (map (λ (row : RecordingRow). row.take) rows)
    → AllByRecursion (λ (row : RecordingRow). frames_of_take row.take rows ≡ Some row.summary.frames) rows
frames_found [] differ = tt
frames_found (row ∷ rows) differ = (
  (let same : (row.take == row.take) ≡ true = grind (arith, nat_tests) in rw same refl),
  AllByRecursion-both (λ (r : RecordingRow). frames_of_take r.take rows ≡ Some r.summary.frames)
      (λ (r : RecordingRow). r.take ≢ row.take)
      (λ (r : RecordingRow). frames_of_take r.take (row ∷ rows) ≡ Some r.summary.frames) rows past (frames_found rows differ.1)
      (AllByRecursion-unmap (λ (later : ℕ). later ≢ row.take) (λ (r : RecordingRow). r.take) rows differ.0),
)
  where
    past : (r : RecordingRow) → frames_of_take r.take rows ≡ Some r.summary.frames → r.take ≢ row.take
        → frames_of_take r.take (row ∷ rows) ≡ Some r.summary.frames
    past r found differs =
        let other : (row.take == r.take) ≡ false = grind (arith, nat_tests) in rw other found

-- the row of a recording's segments passes where its frames are found
segments_of_recording : (rows : List RecordingRow) (r : Recording) → IsFound r
    → frames_of_take r.take rows ≡ Some r.summary.frames
    → energies_rule (frames_of_take r.take rows) (segment_row r).energies ≡ None
segments_of_recording rows r found frames =
    let kept : r.summary.frames ≡ r.sound.frames = found.1.1.frames_kept in
    let pass : are_energies_of r.sound.frames (row_bytes (energies_of r.sound)) ≡ true =
    energies_pass (measured_of r.sound) (within_bounds r found) in
    rw (frames, kept, pass) refl

-- each row of segments passes
segments_pass : (s : State) → IsValid s → AllByRecursion (SegmentsPass (tables_of s)) (segment_rows s.recordings)
segments_pass s valid =
    let rows : List RecordingRow = map recording_row s.recordings in
    let frames : AllByRecursion (λ (r : Recording). frames_of_take r.take rows ≡ Some r.summary.frames) s.recordings =
    AllByRecursion-unmap (λ (row : RecordingRow). frames_of_take row.take rows ≡ Some row.summary.frames) recording_row s.recordings
    (frames_found rows valid.rows.takes_differ) in
    AllByRecursion-rows_with (SegmentsPass (tables_of s)) [] s.recordings tt
    (AllByRecursion-both IsFound (λ (r : Recording). frames_of_take r.take rows ≡ Some r.summary.frames)
    (λ (r : Recording). SegmentsPass (tables_of s) (segment_row r)) s.recordings (segments_of_recording rows) valid.files frames)

-- each recording's take has its row
own_segments : (s : State) → AreInOrder (tables_of s)
    → AllByRecursion (λ (r : Recording). of_take r.take (segment_rows s.recordings) ≡ Some (segment_row r)) s.recordings
own_segments s are = of_take-own [] s.recordings (subst Differ (takes_of_rows s.recordings) are.takes_differ)

-- each recording's row passes
recordings_pass : (s : State) → IsValid s → AllByRecursion (RecordingPasses (tables_of s)) (map recording_row s.recordings)
recordings_pass s valid =
    AllByRecursion-map (RecordingPasses (tables_of s)) recording_row s.recordings
    (AllByRecursion-both IsFound (λ (r : Recording). of_take r.take (segment_rows s.recordings) ≡ Some (segment_row r))
    (λ (r : Recording). RecordingPasses (tables_of s) (recording_row r)) s.recordings
    (λ r found own. record {
      sound = row_passes r found;
      segments = has_segments-found r.take (segment_rows s.recordings) (segment_row r) own;
    }) valid.files (own_segments s valid.rows))

-- ---- summaries

-- what the tables keep of a recording is what is measured of it
measured_in-row : (s : State) (r : Recording) → IsFound r → of_take r.take (segment_rows s.recordings) ≡ Some (segment_row r)
    → measured_in (tables_of s) (recording_row r) ≡ measured_of r.sound
measured_in-row s r found own =
    let frames : r.summary.frames ≡ r.sound.frames = found.1.1.frames_kept in
    let peak : r.summary.peak ≡ (measured_of r.sound).peak = found.1.1.peak_kept in
    let energies : energies_of_take r.take (segment_rows s.recordings) ≡ energies_of r.sound =
    energies_of_take-found r.take (segment_rows s.recordings) (segment_row r) own
    ∙ energies_in-row_bytes (energies_of r.sound) (within_bounds r found).energies in
    ap (λ n. with_all n (energies_of_take r.take (segment_rows s.recordings)) r.summary.peak) frames
    ∙ ap (λ es. with_all r.sound.frames es r.summary.peak) energies
    ∙ ap (with_all r.sound.frames (energies_of r.sound)) peak
  where
    with_all : ℕ → List ℕ → ℕ → Measured
    with_all frames energies peak = record {
      channels = length r.sound.lists;
      depth = r.sound.depth;
      frames = frames;
      energies = energies;
      peak = peak;
    }

pub all_measured : (s : State) → AreInOrder (tables_of s) → AllByRecursion IsFound s.recordings
    → AllByRecursion (λ (r : Recording). measured_in (tables_of s) (recording_row r) ≡ measured_of r.sound) s.recordings
all_measured s are files =
    AllByRecursion-both IsFound (λ (r : Recording). of_take r.take (segment_rows s.recordings) ≡ Some (segment_row r))
    (λ (r : Recording). measured_in (tables_of s) (recording_row r) ≡ measured_of r.sound) s.recordings
    (measured_in-row s) files (own_segments s are)

-- each recording has the levels of what the tables keep of it
recordings_summed : (s : State) → IsValid s → AllByRecursion (IsSummedRecording (tables_of s)) (map recording_row s.recordings)
recordings_summed s valid =
    AllByRecursion-map (IsSummedRecording (tables_of s)) recording_row s.recordings
    (AllByRecursion-both IsFound (λ (r : Recording). measured_in (tables_of s) (recording_row r) ≡ measured_of r.sound)
    (λ (r : Recording). IsSummedRecording (tables_of s) (recording_row r)) s.recordings
    (λ r found is. subst (λ (m : Measured). SummarisesMeasured m r.summary) (sym is) found.1.1) valid.files (all_measured s valid.rows valid.files))

-- what the tables keep of an album's recordings is what is measured of them
pub measured_in-members : (t : Tables) (id : ℕ) (rs : List Recording)
    → AllByRecursion (λ (r : Recording). measured_in t (recording_row r) ≡ measured_of r.sound) rs
    → map (measured_in t) (members_in id (map recording_row rs)) ≡ measured_all (members id rs)
measured_in-members t id [] all = refl
measured_in-members t id (r ∷ rs) all = cases (is_in_album id r.album) (measured_in-members t id rs all.1)
  where
    cases : (inside : Bool) → map (measured_in t) (members_in id (map recording_row rs)) ≡ measured_all (members id rs)
        → map (measured_in t) (cond inside (recording_row r ∷ members_in id (map recording_row rs)) (members_in id (map recording_row rs)))
        ≡ measured_all (cond inside (r ∷ members id rs) (members id rs))
    cases true rest =
        ap (λ (m : Measured). m ∷ map (measured_in t) (members_in id (map recording_row rs))) all.0
        ∙ ap (λ (ms : List Measured). measured_of r.sound ∷ ms) rest
    cases false rest = rest

-- each album has the levels of what the tables keep of its recordings
albums_summed : (s : State) → IsValid s → AllByRecursion (IsSummedAlbum (tables_of s)) (map album_row s.albums)
albums_summed s valid =
    AllByRecursion-map (IsSummedAlbum (tables_of s)) album_row s.albums
    (AllByRecursion-weaker (IsSummed s.recordings) (λ (a : Album). IsSummedAlbum (tables_of s) (album_row a)) s.albums
    (λ a summed. subst (λ (ms : List Measured). IsAlbumSummary ms a.summary)
    (sym (measured_in-members (tables_of s) a.id s.recordings (all_measured s valid.rows valid.files))) summed) valid.summed)

-- ---- all rules

-- A valid state breaks no rule.
pub valid_breaks_no_rule : (s : State) → IsValid s → IsFirstBad (tables_of s) None
valid_breaks_no_rule s valid = record {
  rows = none_of_rows (tables_of s) valid.rows (recordings_pass s valid) (segments_pass s valid);
  albums = albums_summed s valid;
  recordings = recordings_summed s valid;
}
