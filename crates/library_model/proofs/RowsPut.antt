-- What a recording that is put, or taken out, finds in the tables.
use Rattle.std.proofs.Common.{◌≡◌, ◌≢◌, ◌≤◌, ◌<◌, ◌+◌, ◌==◌, ◌&&◌, ◌∙◌, not, true≢false, ℕ, Bool, true, false, cond, nat_le, Option, None, Some, List, [], ◌∷◌, map, refl, sym, ap, subst, arith}
use Rattle.std.specs.List.{AllByRecursion, find}
use Rattle.std.proofs.lemmas.Bool.Decides.{nat_tests}
use Rattle.lib_base.specs.declared.files.Measured.{Measured}
use Rattle.lib_base.specs.declared.files.Summary.{Summary}
use Rattle.lib_base.specs.declared.limits.TheConstants.{MOST_MEMBERS}
use Rattle.keeper_store.specs.Changes.{changed, next_numbers}
use Rattle.keeper_store.specs.EnergyBytes.{energies_in}
use Rattle.keeper_store.specs.Puts.{Ascends, put, without, recording_id, recording_less, segments_less, segments_take}
use Rattle.keeper_store.specs.declared.contents.Change.TheVariants.{DropSegments, PutSegments}
use Rattle.keeper_store.specs.declared.contents.Tables.{Tables}
use Rattle.keeper_store.specs.declared.row_types.AlbumRow.{AlbumRow}
use Rattle.keeper_store.specs.declared.row_types.RecordingRow.{RecordingRow}
use Rattle.keeper_store.specs.declared.row_types.SegmentRow.{SegmentRow}
use Rattle.keeper_store.proofs.EnergyRows.{energies_in-row_bytes}
use Rattle.sound_model.specs.Summaries.{IsWithinBounds}
use Rattle.library_model.specs.Batches.{crowds, import_row, regroup_row, retake_row}
use Rattle.library_model.specs.InOrder.{Differ, IsGiven}
use Rattle.library_model.specs.Machine.{recording_of}
use Rattle.library_model.specs.RowRules.{album_is_there, energies_of_take, is_in_album, measured_in, member_count, members_in}
use Rattle.library_model.specs.Stands.{IsValid, recording_row, segments_of, tables_of}
use Rattle.library_model.specs.State.{Recording, State, recording_before}
use Rattle.library_model.proofs.Closing.{Measures}
use Rattle.library_model.proofs.Counting.{count_new, count_over, weight}
use Rattle.library_model.proofs.Fitting.{import_own}
use Rattle.library_model.proofs.Imports.{AllByRecursion-weaker, given_of}
use Rattle.library_model.proofs.InOrderLemmas.{AllByRecursion-map, AllByRecursion-unmap}
use Rattle.library_model.proofs.Looking.{find_has, found_id, recording_there}
use Rattle.library_model.proofs.NextTables.{found_has, others_differ}
use Rattle.library_model.proofs.SegmentChanges.{NoneHas}
use Rattle.library_model.proofs.SegmentRows.{energies_of_take-found, of_take-put}
use Rattle.library_model.proofs.Taking.{put_others, without_others}
use Rattle.library_model.proofs.ValidRows.{takes_of_rows}

-- ---- ids and takes of a valid state

-- no recording names the take
abbrev pub Unnamed : ℕ → List RecordingRow → Type 0
Unnamed take rows = AllByRecursion (λ (r : RecordingRow). r.take ≢ take) rows

-- recordings whose rows ascend do
Ascends-recordings : (rs : List Recording) → Ascends recording_less (map recording_row rs) → Ascends recording_before rs
Ascends-recordings [] rise = tt
Ascends-recordings (r ∷ rs) rise =
    (AllByRecursion-unmap (λ (row : RecordingRow). recording_less (recording_row r) row ≡ true) recording_row rs rise.0, Ascends-recordings rs rise.1)

pub recordings_rise : (s : State) → IsValid s → Ascends recording_before s.recordings
recordings_rise s valid = Ascends-recordings s.recordings valid.rows.recordings

-- No other recording has the take of one that is found.
pub takes_of_others : (s : State) (id : ℕ) (r : Recording) → IsValid s → recording_of id s.recordings ≡ Some r
    → AllByRecursion (λ (q : Recording). q.id ≢ r.id → q.take ≢ r.take) s.recordings
takes_of_others s id r valid found = others_differ id s.recordings r (subst Differ (takes_of_rows s.recordings) valid.rows.takes_differ) found

-- No recording has the next take.
pub none_has_next : (s : State) → IsValid s → NoneHas s.next_take s.recordings
none_has_next s valid =
    AllByRecursion-weaker (λ (q : Recording). IsGiven s.next_take q.take) (λ (q : Recording). q.take ≢ s.next_take) s.recordings
    (λ q given same. omega (arith, given.1, same)) (given_of s valid).1

-- So none of its rows names it.
pub unnamed_next : (s : State) → IsValid s → Unnamed s.next_take (tables_of s).recordings
unnamed_next s valid = AllByRecursion-map (λ (row : RecordingRow). row.take ≢ s.next_take) recording_row s.recordings (none_has_next s valid)

-- The next take is another than that of a recording.
pub next_differs : (s : State) (id : ℕ) (r : Recording) → IsValid s → recording_of id s.recordings ≡ Some r → s.next_take ≢ r.take
next_differs s id r valid found same =
    (found_has (λ (q : Recording). q.take ≢ s.next_take) id s.recordings r (none_has_next s valid) found).0 (sym same)

-- Once a recording has another take, no row names its old one.
pub frees_put : (s : State) (id : ℕ) (r : Recording) (row : RecordingRow) → IsValid s → recording_of id s.recordings ≡ Some r
    → row.id ≡ r.id → row.take ≢ r.take → Unnamed r.take (put recording_less row (tables_of s).recordings)
frees_put s id r row valid found same differs =
    put_others recording_id (λ (q : RecordingRow). q.take ≢ r.take) row (tables_of s).recordings valid.rows.recordings differs
    (AllByRecursion-map (λ (q : RecordingRow). q.id ≢ row.id → q.take ≢ r.take) recording_row s.recordings
    (AllByRecursion-weaker (λ (q : Recording). q.id ≢ r.id → q.take ≢ r.take) (λ (q : Recording). q.id ≢ row.id → q.take ≢ r.take)
    s.recordings (λ q unlike apart. unlike (λ equal. apart (equal ∙ sym same))) (takes_of_others s id r valid found)))

-- So once it is taken out.
pub frees_without : (s : State) (id : ℕ) (r : Recording) → IsValid s → recording_of id s.recordings ≡ Some r
    → Unnamed r.take (without recording_id r.id (tables_of s).recordings)
frees_without s id r valid found =
    without_others recording_id (λ (q : RecordingRow). q.take ≢ r.take) r.id (tables_of s).recordings
    (AllByRecursion-map (λ (q : RecordingRow). q.id ≢ r.id → q.take ≢ r.take) recording_row s.recordings (takes_of_others s id r valid found))

-- ---- what is measured

-- the energies of a take that stays are what they were
energies-without : (take out : ℕ) (rows : List SegmentRow) → take ≢ out
    → energies_of_take take (without segments_take out rows) ≡ energies_of_take take rows
energies-without take out [] differs = refl
energies-without take out (s ∷ rows) differs = cases (s.take == out) refl (energies-without take out rows differs)
  where
    unlike : (s.take == out) ≡ true → (s.take == take) ≡ false
    unlike is = grind (arith, nat_tests)

    cases : (here : Bool) → (s.take == out) ≡ here → energies_of_take take (without segments_take out rows) ≡ energies_of_take take rows
        → energies_of_take take (cond (not here) (s ∷ without segments_take out rows) (without segments_take out rows))
        ≡ energies_of_take take (s ∷ rows)
    cases true is rest = let other : (s.take == take) ≡ false = unlike is in rw other rest
    cases false is rest = ap (λ (es : List ℕ). cond (s.take == take) (energies_in s.energies) es) rest

-- what is measured of rows, given the energies of each take
abbrev measured_with : RecordingRow → List ℕ → Measured
measured_with row energies = record {
  channels = row.channels;
  depth = row.depth;
  frames = row.summary.frames;
  energies = energies;
  peak = row.summary.peak;
}

-- Segments that no recording names are no part of what is measured.
pub Measures-drop : (t : Tables) (out : ℕ) (us : List Recording) → Unnamed out t.recordings → Measures (changed (DropSegments out) t) us
    → Measures t us
Measures-drop t out us unnamed measures = λ id. same id t.recordings unnamed ∙ measures id
  where
    after : Tables
    after = changed (DropSegments out) t

    same : (id : ℕ) (rows : List RecordingRow) → Unnamed out rows → map (measured_in t) (members_in id rows) ≡ map (measured_in after) (members_in id rows)
    same id [] unnamed = refl
    same id (r ∷ rows) unnamed = cases (is_in_album id r.album) (same id rows unnamed.1)
      where
        one : measured_in t r ≡ measured_in after r
        one = ap (measured_with r) (sym (energies-without r.take out t.segments unnamed.0))

        cases : (inside : Bool) → map (measured_in t) (members_in id rows) ≡ map (measured_in after) (members_in id rows)
            → map (measured_in t) (cond inside (r ∷ members_in id rows) (members_in id rows))
            ≡ map (measured_in after) (cond inside (r ∷ members_in id rows) (members_in id rows))
        cases true rest =
            ap (λ (m : Measured). m ∷ map (measured_in t) (members_in id rows)) one
            ∙ ap (λ (ms : List Measured). measured_in after r ∷ ms) rest
        cases false rest = rest

-- What the tables have as measured of a row whose segments were put under its take is what is measured of it.
pub measured_in-put : (t : Tables) (row : RecordingRow) (m : Measured) → IsWithinBounds m → row.channels ≡ m.channels → row.depth ≡ m.depth
    → row.summary.frames ≡ m.frames → row.summary.peak ≡ m.peak → measured_in (changed (PutSegments (segments_of row.take m)) t) row ≡ m
measured_in-put t row m bounds channels depth frames peak =
    let put_in : List SegmentRow = put segments_less (segments_of row.take m) t.segments in
    let energies : energies_of_take row.take put_in ≡ m.energies =
    energies_of_take-found row.take put_in (segments_of row.take m) (of_take-put (segments_of row.take m) t.segments)
    ∙ energies_in-row_bytes m.energies bounds.energies in
    ap (measured_with row) energies ∙ ap (λ n. with_all n row.depth row.summary.frames row.summary.peak) channels
    ∙ ap (λ n. with_all m.channels n row.summary.frames row.summary.peak) depth
    ∙ ap (λ n. with_all m.channels m.depth n row.summary.peak) frames
    ∙ ap (with_all m.channels m.depth m.frames) peak
  where
    with_all : ℕ → ℕ → ℕ → ℕ → Measured
    with_all channels depth frames peak = record { channels = channels; depth = depth; frames = frames; energies = m.energies; peak = peak }

-- ---- recordings that are put

-- A recording's row can be put: its album is there, and no album has too many recordings then.
pub record PutsRecording (t : Tables) (row : RecordingRow) : Type 0 where
  pub there : album_is_there row.album t.albums ≡ true
  pub few : AllByRecursion (λ (a : AlbumRow). member_count a.id (put recording_less row t.recordings) ≤ MOST_MEMBERS) t.albums

-- an album that a recording comes into from elsewhere, and that it does not crowd, has room
room_left : (old album : Option ℕ) (id : ℕ) (rows : List RecordingRow) → is_in_album id album ≡ true → is_in_album id old ≡ false
    → crowds old album rows ≡ false → member_count id rows < MOST_MEMBERS
room_left old None id rows inside outside room = absurd (true≢false (sym inside))
room_left old (Some own) id rows inside outside room =
    let same : own ≡ id = grind (arith, nat_tests) in
    let at : (not (is_in_album id old) && nat_le MOST_MEMBERS (member_count id rows)) ≡ false =
    subst (λ (n : ℕ). crowds old (Some n) rows ≡ false) same room in
    let test : nat_le MOST_MEMBERS (member_count id rows) ≡ false = rw outside at at in
    grind (arith, nat_tests)

-- a new recording leaves few in each album
few_new : (id : ℕ) (row : RecordingRow) (rows : List RecordingRow) → find (λ (r : RecordingRow). r.id == row.id) rows ≡ None
    → crowds None row.album rows ≡ false → member_count id rows ≤ MOST_MEMBERS → member_count id (put recording_less row rows) ≤ MOST_MEMBERS
few_new id row rows none room few = by_place (is_in_album id row.album) refl
  where
    by_place : (inside : Bool) → is_in_album id row.album ≡ inside → member_count id (put recording_less row rows) ≤ MOST_MEMBERS
    by_place true inside =
        let one : weight id row ≡ 1 = rw inside refl in
        omega (arith, one, count_new id row rows none, room_left None row.album id rows inside refl room)
    by_place false inside =
        let one : weight id row ≡ 0 = rw inside refl in omega (arith, one, count_new id row rows none, few)

-- so does one that is put over another
few_over_old : (id : ℕ) (row old : RecordingRow) (rows : List RecordingRow) → Ascends recording_less rows
    → find (λ (r : RecordingRow). r.id == row.id) rows ≡ Some old → crowds old.album row.album rows ≡ false
    → member_count id rows ≤ MOST_MEMBERS → member_count id (put recording_less row rows) ≤ MOST_MEMBERS
few_over_old id row old rows rise found room few = by_place (is_in_album id row.album) (is_in_album id old.album) refl refl
  where
    count : member_count id (put recording_less row rows) + weight id old ≡ weight id row + member_count id rows
    count = count_over id row rows old rise found

    by_place : (inside before : Bool) → is_in_album id row.album ≡ inside → is_in_album id old.album ≡ before
        → member_count id (put recording_less row rows) ≤ MOST_MEMBERS
    by_place true true inside before =
        let one : weight id row ≡ 1 = rw inside refl in
        let own : weight id old ≡ 1 = rw before refl in omega (arith, one, own, count, few)
    by_place true false inside before =
        let one : weight id row ≡ 1 = rw inside refl in
        let own : weight id old ≡ 0 = rw before refl in
        omega (arith, one, own, count, room_left old.album row.album id rows inside before room)
    by_place false before inside after =
        let one : weight id row ≡ 0 = rw inside refl in omega (arith, one, count, few)

-- The row of an import can be put into an album that is there and that it does not crowd.
pub import_puts : (s : State) (album : Option ℕ) (name file : List ℕ) (m : Measured) (summary : Summary) → IsValid s
    → album_is_there album (tables_of s).albums ≡ true → crowds None album (tables_of s).recordings ≡ false
    → PutsRecording (tables_of s) (import_row (next_numbers (tables_of s)) album name file m summary)
import_puts s album name file m summary valid there room =
    let row : RecordingRow = import_row (next_numbers (tables_of s)) album name file m summary in
    let rows : List RecordingRow = (tables_of s).recordings in
    record {
      there = there;
      few = AllByRecursion-weaker (λ (a : AlbumRow). member_count a.id rows ≤ MOST_MEMBERS)
          (λ (a : AlbumRow). member_count a.id (put recording_less row rows) ≤ MOST_MEMBERS) (tables_of s).albums
          (λ a few. few_new a.id row rows (import_own s valid) room few) valid.rows.few_members;
    }

-- a row can be put over one that is there, where it does not crowd its album
over_puts : (s : State) (id : ℕ) (old row : RecordingRow) → IsValid s → find (λ (r : RecordingRow). r.id == id) (tables_of s).recordings ≡ Some old
    → row.id ≡ old.id → album_is_there row.album (tables_of s).albums ≡ true → crowds old.album row.album (tables_of s).recordings ≡ false
    → PutsRecording (tables_of s) row
over_puts s id old row valid found same there room =
    let rows : List RecordingRow = (tables_of s).recordings in
    let own : find (λ (r : RecordingRow). r.id == row.id) rows ≡ Some old =
    subst (λ (n : ℕ). find (λ (r : RecordingRow). r.id == n) rows ≡ Some old) (sym (same ∙ found_id id rows old found)) found in
    record {
      there = there;
      few = AllByRecursion-weaker (λ (a : AlbumRow). member_count a.id rows ≤ MOST_MEMBERS)
          (λ (a : AlbumRow). member_count a.id (put recording_less row rows) ≤ MOST_MEMBERS) (tables_of s).albums
          (λ a few. few_over_old a.id row old rows valid.rows.recordings own room few) valid.rows.few_members;
    }

-- no album is crowded by a recording that it has
pub crowds_same : (album : Option ℕ) (recordings : List RecordingRow) → crowds album album recordings ≡ false
crowds_same None recordings = refl
crowds_same (Some id) recordings = let same : (id == id) ≡ true = grind (arith, nat_tests) in rw same refl

-- The album of a recording that is found is there.
pub own_there : (s : State) (id : ℕ) (old : RecordingRow) → IsValid s → find (λ (r : RecordingRow). r.id == id) (tables_of s).recordings ≡ Some old
    → album_is_there old.album (tables_of s).albums ≡ true
own_there s id old valid found =
    (find_has recording_id (λ (r : RecordingRow). album_is_there r.album (tables_of s).albums ≡ true) id (tables_of s).recordings old
    valid.rows.albums_there found).0

-- The row of a recording under the next take can be put.
pub retake_puts : (s : State) (id : ℕ) (old : RecordingRow) (file : List ℕ) (m : Measured) (summary : Summary) → IsValid s
    → find (λ (r : RecordingRow). r.id == id) (tables_of s).recordings ≡ Some old
    → PutsRecording (tables_of s) (retake_row (next_numbers (tables_of s)) old file m summary)
retake_puts s id old file m summary valid found =
    over_puts s id old (retake_row (next_numbers (tables_of s)) old file m summary) valid found refl (own_there s id old valid found)
    (crowds_same old.album (tables_of s).recordings)

-- So can that of a recording in an album that is there and that it does not crowd.
pub regroup_puts : (s : State) (id : ℕ) (album : Option ℕ) (old : RecordingRow) → IsValid s
    → find (λ (r : RecordingRow). r.id == id) (tables_of s).recordings ≡ Some old → album_is_there album (tables_of s).albums ≡ true
    → crowds old.album album (tables_of s).recordings ≡ false → PutsRecording (tables_of s) (regroup_row old album)
regroup_puts s id album old valid found there room = over_puts s id old (regroup_row old album) valid found refl there room

-- ---- takes that no row names any more

-- Once a recording has the next take, no row names its old one.
pub retake_frees : (s : State) (id : ℕ) (old : RecordingRow) (file : List ℕ) (m : Measured) (summary : Summary) → IsValid s
    → find (λ (r : RecordingRow). r.id == id) (tables_of s).recordings ≡ Some old
    → Unnamed old.take (put recording_less (retake_row (next_numbers (tables_of s)) old file m summary) (tables_of s).recordings)
retake_frees s id old file m summary valid found =
    let at = recording_there s id old found in
    let Of : RecordingRow → Type 0 = λ q.
    Unnamed q.take (put recording_less (retake_row (next_numbers (tables_of s)) q file m summary) (tables_of s).recordings) in
    subst Of at.2
    (frees_put s id at.0 (retake_row (next_numbers (tables_of s)) (recording_row at.0) file m summary) valid at.1 refl
    (next_differs s id at.0 valid at.1))

-- So once it is removed.
pub remove_frees : (s : State) (id : ℕ) (old : RecordingRow) → IsValid s
    → find (λ (r : RecordingRow). r.id == id) (tables_of s).recordings ≡ Some old
    → Unnamed old.take (without recording_id old.id (tables_of s).recordings)
remove_frees s id old valid found =
    let at = recording_there s id old found in
    let Of : RecordingRow → Type 0 = λ q. Unnamed q.take (without recording_id q.id (tables_of s).recordings) in
    subst Of at.2 (frees_without s id at.0 valid at.1)
