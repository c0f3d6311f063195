-- The tables of states that commands make are in order.
use Rattle.std.proofs.Common.{◌≡◌, ◌≢◌, ◌≤◌, ◌+◌, ◌==◌, ◌||◌, true≢false, ℕ, Bool, true, false, cond, nat_lt, Option, None, Some, List, [], ◌∷◌, length, map, refl, sym, ap, ◌∙◌, subst, arith}
use Rattle.std.specs.Prelude.{count_by}
use Rattle.std.specs.List.{AllByRecursion}
use Rattle.std.proofs.lemmas.Bool.Decides.{nat_tests}
use Rattle.std.proofs.lemmas.List.Sums.{length-filter, sum_by-cons}
use Rattle.lib_base.specs.declared.limits.TheConstants.{MOST_MEMBERS}
use Rattle.keeper_store.specs.Changes.{changed}
use Rattle.keeper_store.specs.Orders.{segments_in_order}
use Rattle.keeper_store.specs.Puts.{Ascends, put, recording_less, segments_less}
use Rattle.keeper_store.specs.declared.contents.Change.TheVariants.{Counters, PutRecording}
use Rattle.keeper_store.specs.declared.contents.Tables.{Tables}
use Rattle.keeper_store.specs.declared.row_types.AlbumRow.{AlbumRow}
use Rattle.keeper_store.specs.declared.row_types.RecordingRow.{RecordingRow}
use Rattle.keeper_store.specs.declared.row_types.SegmentRow.{SegmentRow}
use Rattle.keeper_store.proofs.Putting.{AllByRecursion-weaken, Ascends-put, map-put}
use Rattle.library_model.specs.InOrder.{AreInOrder, Differ, IsCounter, IsGiven}
use Rattle.library_model.specs.Machine.{is_crowded, is_there, recording_of}
use Rattle.library_model.specs.Names.{is_name}
use Rattle.library_model.specs.RowRules.{album_is_there, has_album, is_in_album, member_count}
use Rattle.library_model.specs.Stands.{IsValid, album_row, members, recording_row, segment_row, segment_rows, tables_of}
use Rattle.library_model.specs.State.{Album, Recording, State, recording_before}
use Rattle.library_model.proofs.InOrderLemmas.{AllByRecursion-map, AllByRecursion-unmap, AreInOrder-counters, AreInOrder-put_recording, count_by-put}
use Rattle.library_model.proofs.Looking.{find_has}
use Rattle.library_model.proofs.SegmentRows.{AllByRecursion-rows_with, rows_with}

-- ---- segments

Ascends-rows_with : (rows : List SegmentRow) (recordings : List Recording) → Ascends segments_less rows
    → Ascends segments_less (rows_with rows recordings)
Ascends-rows_with rows [] rise = rise
Ascends-rows_with rows (r ∷ recordings) rise =
    Ascends-rows_with (put segments_less (segment_row r) rows) recordings
    (Ascends-put segments_less segments_in_order (segment_row r) rows rise)

-- tables in order stay so with the segments of their recordings in place of their own
pub AreInOrder-segments : (t : Tables) (recordings : List Recording) → t.recordings ≡ map recording_row recordings → AreInOrder t
    → AreInOrder (record t { segments = segment_rows recordings })
AreInOrder-segments t recordings same are = record {
  next_album = are.next_album;
  next_recording = are.next_recording;
  next_take = are.next_take;
  albums = are.albums;
  recordings = are.recordings;
  segments = Ascends-rows_with [] recordings tt;
  replies = are.replies;
  album_ids_given = are.album_ids_given;
  ids_given = are.ids_given;
  takes_given = are.takes_given;
  segments_given = AllByRecursion-rows_with (λ (s : SegmentRow). IsGiven t.next_take s.take) [] recordings tt
      (AllByRecursion-unmap (λ (row : RecordingRow). IsGiven t.next_take row.take) recording_row recordings
      (subst (AllByRecursion (λ (row : RecordingRow). IsGiven t.next_take row.take)) same are.takes_given));
  takes_differ = are.takes_differ;
  albums_there = are.albums_there;
  few_members = are.few_members;
  album_names = are.album_names;
  names = are.names;
  tokens = are.tokens;
  statuses = are.statuses;
}

-- ---- what is named

-- a recording that was found has the id, and what all have
pub found_has : (P : Recording → Type 0) (id : ℕ) (rs : List Recording) (r : Recording) → AllByRecursion P rs
    → recording_of id rs ≡ Some r → P r × (r.id ≡ id)
found_has P id rs r = find_has (λ (q : Recording). q.id) P id rs r

-- an album that is there has its row
pub has_album-row : (id : ℕ) (albums : List Album) → has_album id (map album_row albums) ≡ is_there (Some id) albums
has_album-row id [] = refl
has_album-row id (a ∷ albums) = ap (λ (b : Bool). (a.id == id) || b) (has_album-row id albums)

pub there-row : (album : Option ℕ) (albums : List Album) → is_there album albums ≡ true → album_is_there album (map album_row albums) ≡ true
there-row None albums there = refl
there-row (Some id) albums there = has_album-row id albums ∙ there

-- rows count as many recordings of an album as it has
pub count_of-rows : (id : ℕ) (rs : List Recording) → member_count id (map recording_row rs) ≡ length (members id rs)
count_of-rows id rs = rows rs ∙ sym (length-filter (λ (r : Recording). is_in_album id r.album) rs)
  where
    rows : (rs : List Recording) → member_count id (map recording_row rs) ≡ count_by (λ (r : Recording). is_in_album id r.album) rs
    rows [] = refl
    rows (r ∷ rs) =
        let rest = rows rs in
        let one = sum_by-cons (λ (row : RecordingRow). cond (is_in_album id row.album) 1 0) (recording_row r) (map recording_row rs) in
        let other = sum_by-cons (λ (q : Recording). cond (is_in_album id q.album) 1 0) r rs in
        omega (arith, rest, one, other)

-- ---- a recording is put

-- albums have not too many where the one that the recording is in has not
pub few_by_test : (r : Recording) (rs : List Recording) (albums : List AlbumRow)
    → AllByRecursion (λ (a : AlbumRow). member_count a.id (map recording_row rs) ≤ MOST_MEMBERS) albums
    → is_crowded r.album (put recording_before r rs) ≡ false
    → AllByRecursion (λ (a : AlbumRow). member_count a.id (put recording_less (recording_row r) (map recording_row rs)) ≤ MOST_MEMBERS) albums
few_by_test r rs albums few room =
    AllByRecursion-weaken (λ (a : AlbumRow). member_count a.id rows ≤ MOST_MEMBERS)
    (λ (a : AlbumRow). member_count a.id after ≤ MOST_MEMBERS) (λ a. at a.id (is_in_album a.id r.album) refl) albums few
  where
    rows : List RecordingRow
    rows = map recording_row rs

    after : List RecordingRow
    after = put recording_less (recording_row r) rows

    own : (id : ℕ) (album : Option ℕ) → is_in_album id album ≡ true → is_crowded album (put recording_before r rs) ≡ false
        → length (members id (put recording_before r rs)) ≤ MOST_MEMBERS
    own id None inside room = absurd (true≢false (sym inside))
    own id (Some album) inside room =
        let same : album ≡ id = grind (arith, nat_tests) in
        let test : nat_lt MOST_MEMBERS (length (members id (put recording_before r rs))) ≡ false =
        subst (λ (n : ℕ). nat_lt MOST_MEMBERS (length (members n (put recording_before r rs))) ≡ false) same room in
        grind (arith, nat_tests)

    at : (id : ℕ) (inside : Bool) → is_in_album id r.album ≡ inside → member_count id rows ≤ MOST_MEMBERS
        → member_count id after ≤ MOST_MEMBERS
    at id true inside few =
        let count : member_count id (map recording_row (put recording_before r rs)) ≡ length (members id (put recording_before r rs)) =
        count_of-rows id (put recording_before r rs) in
        let same : member_count id (map recording_row (put recording_before r rs)) ≡ member_count id after =
        ap (member_count id) (map-put recording_before recording_less recording_row (λ a b. refl) r rs) in
        let most = own id r.album inside room in
        omega (arith, count, same, most)
    at id false inside few =
        let grown : member_count id after ≤ cond (is_in_album id r.album) 1 0 + member_count id rows =
        count_by-put (λ (row : RecordingRow). is_in_album id row.album) recording_less (recording_row r) rows in
        let same = rw inside at grown in
        omega (arith, few, same)

-- ---- takes of others

-- no other recording has the take of one that was found
pub others_differ : (id : ℕ) (rs : List Recording) (r : Recording) → Differ (map (λ (q : Recording). q.take) rs)
    → recording_of id rs ≡ Some r → AllByRecursion (λ (q : Recording). q.id ≢ r.id → q.take ≢ r.take) rs
others_differ id [] r differ is = tt
others_differ id (q ∷ rs) r differ is = cases (q.id == id) refl (others_differ id rs r differ.1) is
  where
    later : AllByRecursion (λ (other : Recording). other.take ≢ q.take) rs
    later = AllByRecursion-unmap (λ (take : ℕ). take ≢ q.take) (λ (other : Recording). other.take) rs differ.0

    cases : (here : Bool) → (q.id == id) ≡ here
        → (recording_of id rs ≡ Some r → AllByRecursion (λ (other : Recording). other.id ≢ r.id → other.take ≢ r.take) rs)
        → cond here (Some q) (recording_of id rs) ≡ Some r
        → AllByRecursion (λ (other : Recording). other.id ≢ r.id → other.take ≢ r.take) (q ∷ rs)
    cases true same rest is =
        let one : q ≡ r = cc is in
        subst (λ (x : Recording). AllByRecursion (λ (other : Recording). other.id ≢ x.id → other.take ≢ x.take) (q ∷ rs)) one (
          λ apart. absurd (apart refl),
          AllByRecursion-weaken (λ (other : Recording). other.take ≢ q.take)
              (λ (other : Recording). other.id ≢ q.id → other.take ≢ q.take) (λ other differs apart. differs) rs later,
        )
    cases false same rest is =
        let unlike = found_has (λ (other : Recording). other.take ≢ q.take) id rs r later is in
        (λ apart equal. unlike.0 (sym equal), rest is)

-- ---- what commands make

-- the tables of a state with a recording put and risen counters
tables_of-put : (s : State) (ids takes : ℕ) (r : Recording)
    → tables_of (record s { next_recording = ids; next_take = takes; recordings = put recording_before r s.recordings })
    ≡ record (changed (PutRecording (recording_row r)) (changed (Counters s.next_album ids takes) (tables_of s)))
    { segments = segment_rows (put recording_before r s.recordings) }
tables_of-put s ids takes r =
    ap (λ (rows : List RecordingRow). record (changed (Counters s.next_album ids takes) (tables_of s))
    { recordings = rows; segments = segment_rows (put recording_before r s.recordings) })
    (map-put recording_before recording_less recording_row (λ a b. refl) r s.recordings)

-- They are in order.
pub put_in_order : (s : State) (ids takes : ℕ) (r : Recording) → IsValid s → IsCounter ids → IsCounter takes
    → s.next_recording ≤ ids → s.next_take ≤ takes → IsGiven ids r.id → IsGiven takes r.take
    → AllByRecursion (λ (q : Recording). q.id ≢ r.id → q.take ≢ r.take) s.recordings
    → is_there r.album s.albums ≡ true → is_name r.name ≡ true
    → AllByRecursion (λ (a : AlbumRow). member_count a.id (put recording_less (recording_row r) (map recording_row s.recordings)) ≤ MOST_MEMBERS)
    (map album_row s.albums)
    → AreInOrder (tables_of (record s { next_recording = ids; next_take = takes; recordings = put recording_before r s.recordings }))
put_in_order s ids takes r valid ids_are takes_are ids_rose takes_rose id take others there name few =
    let risen : Tables = changed (Counters s.next_album ids takes) (tables_of s) in
    let counted : AreInOrder risen =
    AreInOrder-counters (tables_of s) s.next_album ids takes valid.rows valid.rows.next_album ids_are takes_are (omega arith)
    ids_rose takes_rose in
    let in_it : AreInOrder (changed (PutRecording (recording_row r)) risen) =
    AreInOrder-put_recording risen (recording_row r) counted id take
    (AllByRecursion-map (λ (row : RecordingRow). row.id ≢ r.id → row.take ≢ r.take) recording_row s.recordings others)
    (there-row r.album s.albums there) name few in
    let rows : put recording_less (recording_row r) (map recording_row s.recordings) ≡ map recording_row (put recording_before r s.recordings) =
    sym (map-put recording_before recording_less recording_row (λ a b. refl) r s.recordings) in
    subst AreInOrder (sym (tables_of-put s ids takes r))
    (AreInOrder-segments (changed (PutRecording (recording_row r)) risen) (put recording_before r s.recordings) rows in_it)
