-- The states that commands make: their tables are in order, and their files are found to be their sounds.
use Rattle.std.proofs.Common.{◌≡◌, ◌≢◌, ◌≤◌, ◌<◌, ◌+◌, ◌==◌, ◌||◌, ℕ, Bool, true, false, cond, nat_lt, nat_le, Option, None, Some, List, [], ◌∷◌, length, map, refl, sym, ap, ◌∙◌, subst, arith}
use Rattle.std.specs.List.{AllByRecursion, find}
use Rattle.std.proofs.lemmas.Bool.Decides.{nat_tests}
use Rattle.lib_base.specs.declared.files.Summary.{Summary}
use Rattle.lib_base.specs.declared.limits.TheConstants.{NUMBERS_END, MOST_MEMBERS}
use Rattle.file_model.specs.Pcm.{Pcm}
use Rattle.keeper_store.specs.Changes.{changed}
use Rattle.keeper_store.specs.Puts.{put, album_id, album_less, recording_id, recording_less}
use Rattle.keeper_store.specs.declared.contents.Change.TheVariants.{Counters, PutAlbum, DropAlbum, DropRecording}
use Rattle.keeper_store.specs.declared.row_types.AlbumRow.{AlbumRow}
use Rattle.keeper_store.specs.declared.row_types.RecordingRow.{RecordingRow}
use Rattle.keeper_store.proofs.Dropping.{AllByRecursion-without, map-without}
use Rattle.keeper_store.proofs.Putting.{AllByRecursion-put, AllByRecursion-weaken, map-put}
use Rattle.library_model.specs.declared.messages.Command.{Command}
use Rattle.library_model.specs.declared.messages.Command.TheVariants.{NewAlbum, Import, Retake, Regroup, RemoveRecording, RemoveAlbum}
use Rattle.library_model.specs.InOrder.{AreInOrder, Differ, IsGiven}
use Rattle.library_model.specs.Machine.{imported, is_crowded, is_there, new_album, new_recording, recording_of, regrouped, regrouping, removing, removing_album, retaken, retaking, with_new_album}
use Rattle.library_model.specs.Names.{is_name}
use Rattle.library_model.specs.RowRules.{album_is_there, is_in_album, member_count}
use Rattle.library_model.specs.Stands.{BringsWithin, IsFound, IsValid, album_row, members, recording_row, tables_of}
use Rattle.library_model.specs.State.{Album, Recording, State, album_before, recording_before}
use Rattle.library_model.proofs.Counting.{at_there, count-cons, count_same, weight}
use Rattle.library_model.proofs.Dropped.{AreInOrder-drop_album, AreInOrder-drop_recording}
use Rattle.library_model.proofs.Imports.{AllByRecursion-both, AllByRecursion-weaker, given_of}
use Rattle.library_model.proofs.InOrderLemmas.{AllByRecursion-unmap, AreInOrder-counters, AreInOrder-put_album}
use Rattle.library_model.proofs.NextTables.{AreInOrder-segments, count_of-rows, few_by_test, found_has, has_album-row, others_differ, put_in_order}
use Rattle.library_model.proofs.Steps.{MakesState}
use Rattle.library_model.proofs.ValidRows.{takes_of_rows}

-- ---- counters

-- a number that is left is not the end
pub left_below : (next : ℕ) → nat_le NUMBERS_END next ≡ false → next < NUMBERS_END
left_below next left = grind (arith, nat_tests)

-- of two, both are left where none is lacking
pub both_below : (a b : ℕ) → (nat_le NUMBERS_END a || nat_le NUMBERS_END b) ≡ false → (a < NUMBERS_END) × (b < NUMBERS_END)
both_below a b left = (grind (arith, nat_tests), grind (arith, nat_tests))

-- ---- a new album

-- no recording is in an album of the next id
outside_next : (next : ℕ) (albums : List AlbumRow) (album : Option ℕ) → AllByRecursion (λ (a : AlbumRow). IsGiven next a.id) albums
    → album_is_there album albums ≡ true → is_in_album next album ≡ false
outside_next next albums None given there = refl
outside_next next albums (Some id) given there =
    let is = at_there (IsGiven next) id albums given there in
    let below = is.1 in
    grind (arith, nat_tests)

-- so an album of that id counts none
none_counted : (id : ℕ) (rows : List RecordingRow) → AllByRecursion (λ (r : RecordingRow). is_in_album id r.album ≡ false) rows
    → member_count id rows ≡ 0
none_counted id [] outside = refl
none_counted id (r ∷ rows) outside =
    let rest = none_counted id rows outside.1 in
    let first : weight id r ≡ 0 = rw outside.0 refl in
    omega (arith, rest, first, count-cons id r rows)

-- no recording of a valid state is in an album of the next id
pub none_in_next : (s : State) → IsValid s → AllByRecursion (λ (r : RecordingRow). is_in_album s.next_album r.album ≡ false) (tables_of s).recordings
none_in_next s valid =
    AllByRecursion-weaker (λ (r : RecordingRow). album_is_there r.album (tables_of s).albums ≡ true)
    (λ (r : RecordingRow). is_in_album s.next_album r.album ≡ false) (tables_of s).recordings
    (λ r there. outside_next s.next_album (tables_of s).albums r.album valid.rows.album_ids_given there) valid.rows.albums_there

-- The tables with a new album are the changes of its counter and of its row.
pub tables_of-new_album : (s : State) (name : List ℕ) → tables_of (with_new_album s name)
    ≡ changed (PutAlbum (album_row (new_album s name))) (changed (Counters (s.next_album + 1) s.next_recording s.next_take) (tables_of s))
tables_of-new_album s name =
    ap (λ (rows : List AlbumRow). record (changed (Counters (s.next_album + 1) s.next_recording s.next_take) (tables_of s)) { albums = rows })
    (map-put album_before album_less album_row (λ a b. refl) (new_album s name) s.albums)

new_album_in_order : (s : State) (name : List ℕ) → IsValid s → is_name name ≡ true → nat_le NUMBERS_END s.next_album ≡ false
    → AreInOrder (tables_of (with_new_album s name))
new_album_in_order s name valid is left =
    let below = left_below s.next_album left in
    let low = valid.rows.next_album.0 in
    let counted : AreInOrder (changed (Counters (s.next_album + 1) s.next_recording s.next_take) (tables_of s)) =
    AreInOrder-counters (tables_of s) (s.next_album + 1) s.next_recording s.next_take valid.rows (omega arith, omega (arith, below))
    valid.rows.next_recording valid.rows.next_take (omega arith) (omega arith) (omega arith) in
    let none : member_count s.next_album (tables_of s).recordings ≡ 0 =
    none_counted s.next_album (tables_of s).recordings (none_in_next s valid) in
    subst AreInOrder (sym (tables_of-new_album s name))
    (AreInOrder-put_album (changed (Counters (s.next_album + 1) s.next_recording s.next_take) (tables_of s)) (album_row (new_album s name))
    counted (omega (arith, low), omega arith) is (omega (arith, none)))

-- ---- recordings

-- takes of others are not the next one
next_take_differs : (s : State) (id : ℕ) → IsValid s → AllByRecursion (λ (q : Recording). q.id ≢ id → q.take ≢ s.next_take) s.recordings
next_take_differs s id valid =
    AllByRecursion-weaker (λ (q : Recording). IsGiven s.next_take q.take) (λ (q : Recording). q.id ≢ id → q.take ≢ s.next_take) s.recordings
    (λ q given apart same. omega (arith, given.1, same)) (given_of s valid).1

import_in_order : (s : State) (album : Option ℕ) (name file : List ℕ) (sound : Pcm) (summary : Summary) → IsValid s → is_name name ≡ true
    → is_there album s.albums ≡ true → is_crowded album (imported s album name file sound summary).recordings ≡ false
    → (nat_le NUMBERS_END s.next_recording || nat_le NUMBERS_END s.next_take) ≡ false
    → AreInOrder (tables_of (imported s album name file sound summary))
import_in_order s album name file sound summary valid is there room left =
    let below = both_below s.next_recording s.next_take left in
    let id_below = below.0 in
    let take_below = below.1 in
    let low_id = valid.rows.next_recording.0 in
    let low_take = valid.rows.next_take.0 in
    let new : Recording = new_recording s album name file sound summary in
    put_in_order s (s.next_recording + 1) (s.next_take + 1) new valid
    (omega arith, omega (arith, id_below)) (omega arith, omega (arith, take_below)) (omega arith) (omega arith)
    (omega (arith, low_id), omega arith) (omega (arith, low_take), omega arith)
    (next_take_differs s s.next_recording valid) there is
    (few_by_test new s.recordings (tables_of s).albums valid.rows.few_members room)

-- what each recording of a valid state has, besides its file
record Placed (s : State) (r : Recording) : Type 0 where
  id : IsGiven s.next_recording r.id
  take : IsGiven s.next_take r.take
  there : album_is_there r.album (map album_row s.albums) ≡ true
  name : is_name r.name ≡ true

all_placed : (s : State) → IsValid s → AllByRecursion (Placed s) s.recordings
all_placed s valid =
    AllByRecursion-both (λ (r : Recording). IsGiven s.next_recording r.id × IsGiven s.next_take r.take)
    (λ (r : Recording). (album_is_there r.album (map album_row s.albums) ≡ true) × (is_name r.name ≡ true)) (Placed s) s.recordings
    (λ r given has. record { id = given.0; take = given.1; there = has.0; name = has.1 })
    (AllByRecursion-both (λ (r : Recording). IsGiven s.next_recording r.id) (λ (r : Recording). IsGiven s.next_take r.take)
    (λ (r : Recording). IsGiven s.next_recording r.id × IsGiven s.next_take r.take) s.recordings (λ r id take. (id, take))
    (given_of s valid).0 (given_of s valid).1)
    (AllByRecursion-both (λ (r : Recording). album_is_there r.album (map album_row s.albums) ≡ true) (λ (r : Recording). is_name r.name ≡ true)
    (λ (r : Recording). (album_is_there r.album (map album_row s.albums) ≡ true) × (is_name r.name ≡ true)) s.recordings
    (λ r there name. (there, name))
    (AllByRecursion-unmap (λ (row : RecordingRow). album_is_there row.album (map album_row s.albums) ≡ true) recording_row s.recordings
    valid.rows.albums_there)
    (AllByRecursion-unmap (λ (row : RecordingRow). is_name row.name ≡ true) recording_row s.recordings valid.rows.names))

-- the album whose row is there is there
pub row-there : (album : Option ℕ) (albums : List Album) → album_is_there album (map album_row albums) ≡ is_there album albums
row-there None albums = refl
row-there (Some id) albums = has_album-row id albums

-- a recording that is found has its row
pub row_found : (id : ℕ) (rs : List Recording) (r : Recording) → recording_of id rs ≡ Some r
    → find (λ (row : RecordingRow). row.id == id) (map recording_row rs) ≡ Some (recording_row r)
row_found id [] r is = absurd (cc is)
row_found id (q ∷ rs) r is = cases (q.id == id) (row_found id rs r) is
  where
    cases : (here : Bool) → (recording_of id rs ≡ Some r → find (λ (row : RecordingRow). row.id == id) (map recording_row rs) ≡ Some (recording_row r))
        → cond here (Some q) (recording_of id rs) ≡ Some r
        → cond here (Some (recording_row q)) (find (λ (row : RecordingRow). row.id == id) (map recording_row rs)) ≡ Some (recording_row r)
    cases true rest is = let one : q ≡ r = cc is in ap (λ (x : Recording). Some (recording_row x)) one
    cases false rest is = rest is

retake_in_order : (s : State) (id : ℕ) (r : Recording) (file : List ℕ) (sound : Pcm) (summary : Summary) → IsValid s
    → recording_of id s.recordings ≡ Some r → nat_le NUMBERS_END s.next_take ≡ false → AreInOrder (tables_of (retaking s r file sound summary))
retake_in_order s id r file sound summary valid found left =
    let below = left_below s.next_take left in
    let low = valid.rows.next_take.0 in
    let at = found_has (Placed s) id s.recordings r (all_placed s valid) found in
    let has : Placed s r = at.0 in
    let there : is_there r.album s.albums ≡ true = sym (row-there r.album s.albums) ∙ has.there in
    let new : RecordingRow = recording_row (retaken s r file sound summary) in
    let own : find (λ (row : RecordingRow). row.id == r.id) (map recording_row s.recordings) ≡ Some (recording_row r) =
    subst (λ (n : ℕ). find (λ (row : RecordingRow). row.id == n) (map recording_row s.recordings) ≡ Some (recording_row r)) (sym at.1)
    (row_found id s.recordings r found) in
    put_in_order s s.next_recording (s.next_take + 1) (retaken s r file sound summary) valid valid.rows.next_recording
    (omega arith, omega (arith, below)) (omega arith) (omega arith) has.id (omega (arith, low), omega arith)
    (next_take_differs s r.id valid) there has.name
    (AllByRecursion-weaken (λ (a : AlbumRow). member_count a.id (map recording_row s.recordings) ≤ MOST_MEMBERS)
    (λ (a : AlbumRow). member_count a.id (put recording_less new (map recording_row s.recordings)) ≤ MOST_MEMBERS)
    (λ a few. let same = count_same a.id new (map recording_row s.recordings) (recording_row r) valid.rows.recordings own refl in
    omega (arith, few, same)) (map album_row s.albums) valid.rows.few_members)

regroup_in_order : (s : State) (id : ℕ) (album : Option ℕ) (r : Recording) → IsValid s → recording_of id s.recordings ≡ Some r
    → is_there album s.albums ≡ true → is_crowded album (regrouping s r album).recordings ≡ false → AreInOrder (tables_of (regrouping s r album))
regroup_in_order s id album r valid found there room =
    let at = found_has (Placed s) id s.recordings r (all_placed s valid) found in
    let has : Placed s r = at.0 in
    put_in_order s s.next_recording s.next_take (regrouped r album) valid valid.rows.next_recording valid.rows.next_take
    (omega arith) (omega arith) has.id has.take
    (others_differ id s.recordings r (subst Differ (takes_of_rows s.recordings) valid.rows.takes_differ) found) there has.name
    (few_by_test (regrouped r album) s.recordings (tables_of s).albums valid.rows.few_members room)

-- The tables without a recording are those without its row and with the segments of the others.
pub tables_of-removing : (s : State) (r : Recording) → tables_of (removing s r)
    ≡ record (changed (DropRecording r.id) (tables_of s)) { segments = (tables_of (removing s r)).segments }
tables_of-removing s r =
    ap (λ (rows : List RecordingRow). record (tables_of s) { recordings = rows; segments = (tables_of (removing s r)).segments })
    (map-without (λ (q : Recording). q.id) recording_id recording_row (λ q. refl) r.id s.recordings)

remove_in_order : (s : State) (r : Recording) → IsValid s → AreInOrder (tables_of (removing s r))
remove_in_order s r valid =
    subst AreInOrder (sym (tables_of-removing s r))
    (AreInOrder-segments (changed (DropRecording r.id) (tables_of s)) (removing s r).recordings
    (sym (map-without (λ (q : Recording). q.id) recording_id recording_row (λ q. refl) r.id s.recordings))
    (AreInOrder-drop_recording (tables_of s) r.id valid.rows))

-- ---- an album is removed

-- The tables without an album are those without its row.
pub tables_of-removing_album : (s : State) (id : ℕ) → tables_of (removing_album s id) ≡ changed (DropAlbum id) (tables_of s)
tables_of-removing_album s id =
    ap (λ (rows : List AlbumRow). record (tables_of s) { albums = rows })
    (map-without (λ (a : Album). a.id) album_id album_row (λ a. refl) id s.albums)

-- where none is counted, each row is outside
pub outside_all : (id : ℕ) (rows : List RecordingRow) → member_count id rows ≡ 0
    → AllByRecursion (λ (r : RecordingRow). is_in_album id r.album ≡ false) rows
outside_all id [] none = tt
outside_all id (r ∷ rows) none = cases (is_in_album id r.album) refl (outside_all id rows)
  where
    cases : (inside : Bool) → is_in_album id r.album ≡ inside
        → (member_count id rows ≡ 0 → AllByRecursion (λ (r : RecordingRow). is_in_album id r.album ≡ false) rows)
        → AllByRecursion (λ (r : RecordingRow). is_in_album id r.album ≡ false) (r ∷ rows)
    cases true inside rest =
        let own : weight id r ≡ 1 = rw inside refl in absurd (omega (arith, none, own, count-cons id r rows))
    cases false inside rest =
        let own : weight id r ≡ 0 = rw inside refl in
        (inside, rest (omega (arith, none, own, count-cons id r rows)))

remove_album_in_order : (s : State) (id : ℕ) → IsValid s → nat_lt 0 (length (members id s.recordings)) ≡ false
    → AreInOrder (tables_of (removing_album s id))
remove_album_in_order s id valid empty =
    let count = count_of-rows id s.recordings in
    let few : length (members id s.recordings) ≤ 0 = grind (arith, nat_tests) in
    subst AreInOrder (sym (tables_of-removing_album s id))
    (AreInOrder-drop_album (tables_of s) id valid.rows (outside_all id (tables_of s).recordings (omega (arith, count, few))))

-- ---- all commands

-- The tables of a state that a command makes are in order.
pub made_in_order : (s : State) (wanted : Command) (next : State) → IsValid s → BringsWithin wanted → MakesState s wanted next
    → AreInOrder (tables_of next)
made_in_order s wanted next valid within makes = by_command wanted within makes
  where
    at : (made : State) → next ≡ made → AreInOrder (tables_of made) → AreInOrder (tables_of next)
    at made is are = subst (λ (u : State). AreInOrder (tables_of u)) (sym is) are

    by_command : (wanted : Command) → BringsWithin wanted → MakesState s wanted next → AreInOrder (tables_of next)
    by_command (NewAlbum name) within (left, is) = at (with_new_album s name) is (new_album_in_order s name valid within left)
    by_command (Import album name file) within (sound, summary, there, finds, room, left, is) =
        at (imported s album name file sound summary) is (import_in_order s album name file sound summary valid within.0 there room left)
    by_command (Retake id file) within (sound, summary, r, found, finds, left, is) =
        at (retaking s r file sound summary) is (retake_in_order s id r file sound summary valid found left)
    by_command (Regroup id album) within (r, found, there, room, is) =
        at (regrouping s r album) is (regroup_in_order s id album r valid found there room)
    by_command (RemoveRecording id) within (r, found, is) = at (removing s r) is (remove_in_order s r valid)
    by_command (RemoveAlbum id) within (there, empty, is) = at (removing_album s id) is (remove_album_in_order s id valid empty)

-- Their files are found to be their sounds.
pub made_files : (s : State) (wanted : Command) (next : State) → IsValid s → BringsWithin wanted → MakesState s wanted next
    → AllByRecursion IsFound next.recordings
made_files s wanted next valid within makes = by_command wanted within makes
  where
    at : (made : State) → next ≡ made → AllByRecursion IsFound made.recordings → AllByRecursion IsFound next.recordings
    at made is found = subst (λ (u : State). AllByRecursion IsFound u.recordings) (sym is) found

    by_command : (wanted : Command) → BringsWithin wanted → MakesState s wanted next → AllByRecursion IsFound next.recordings
    by_command (NewAlbum name) within (left, is) = at (with_new_album s name) is valid.files
    by_command (Import album name file) within (sound, summary, there, finds, room, left, is) =
        at (imported s album name file sound summary) is
        (AllByRecursion-put IsFound recording_before (new_recording s album name file sound summary) s.recordings (within.1, finds) valid.files)
    by_command (Retake id file) within (sound, summary, r, found, finds, left, is) =
        at (retaking s r file sound summary) is
        (AllByRecursion-put IsFound recording_before (retaken s r file sound summary) s.recordings (within, finds) valid.files)
    by_command (Regroup id album) within (r, found, there, room, is) =
        at (regrouping s r album) is
        (AllByRecursion-put IsFound recording_before (regrouped r album) s.recordings
        (found_has IsFound id s.recordings r valid.files found).0 valid.files)
    by_command (RemoveRecording id) within (r, found, is) =
        at (removing s r) is (AllByRecursion-without IsFound (λ (q : Recording). q.id) r.id s.recordings valid.files)
    by_command (RemoveAlbum id) within (there, empty, is) = at (removing_album s id) is valid.files
