-- Tables that are in order stay so.
use Rattle.std.proofs.Common.{◌≡◌, ◌≢◌, ◌≤◌, ◌+◌, ◌==◌, ◌||◌, true≢false, Some, ℕ, Bool, true, false, cond, nat_lt, Option, None, List, [], ◌∷◌, map, refl, sym, arith}
use Rattle.std.specs.Prelude.{count_by}
use Rattle.std.specs.List.{AllByRecursion}
use Rattle.std.proofs.lemmas.Bool.Decides.{nat_tests}
use Rattle.std.proofs.lemmas.List.Sums.{sum_by-cons}
use Rattle.lib_base.specs.declared.limits.TheConstants.{MOST_MEMBERS}
use Rattle.keeper_store.specs.Changes.{changed, empty_tables}
use Rattle.keeper_store.specs.Puts.{Ascends, put, album_less, recording_less, reply_less}
use Rattle.keeper_store.specs.declared.contents.Change.TheVariants.{Counters, PutAlbum, PutRecording, PutReply}
use Rattle.keeper_store.specs.declared.contents.Tables.{Tables}
use Rattle.keeper_store.specs.declared.row_types.AlbumRow.{AlbumRow}
use Rattle.keeper_store.specs.declared.row_types.RecordingRow.{RecordingRow}
use Rattle.keeper_store.specs.declared.row_types.SegmentRow.{SegmentRow}
use Rattle.keeper_store.specs.declared.row_types.ReplyRow.{ReplyRow}
use Rattle.keeper_store.specs.Orders.{albums_in_order, recordings_in_order, replies_in_order}
use Rattle.keeper_store.proofs.Putting.{AllByRecursion-put, AllByRecursion-weaken, Ascends-put}
use Rattle.library_model.specs.InOrder.{AreInOrder, Differ, IsCounter, IsGiven, IsKeptStatus}
use Rattle.library_model.specs.Names.{is_name, is_token}
use Rattle.library_model.specs.RowRules.{album_is_there, has_album, member_count}

-- the images have the property where each element's image has it
pub AllByRecursion-map : {A B : Type 0} (P : B → Type 0) (f : A → B) (xs : List A)
    → AllByRecursion (λ x. P (f x)) xs → AllByRecursion P (map f xs)
AllByRecursion-map P f [] all = tt
AllByRecursion-map P f (x ∷ xs) all = (all.0, AllByRecursion-map P f xs all.1)

-- each element's image has the property that the images have
pub AllByRecursion-unmap : {A B : Type 0} (P : B → Type 0) (f : A → B) (xs : List A)
    → AllByRecursion P (map f xs) → AllByRecursion (λ x. P (f x)) xs
AllByRecursion-unmap P f [] all = tt
AllByRecursion-unmap P f (x ∷ xs) all = (all.0, AllByRecursion-unmap P f xs all.1)

-- what comes later has another id
later_ids : (row : RecordingRow) (rows : List RecordingRow) → AllByRecursion (λ (r : RecordingRow). r.id ≢ row.id → r.take ≢ row.take) rows
    → AllByRecursion (λ (r : RecordingRow). nat_lt row.id r.id ≡ true) rows
    → AllByRecursion (λ (r : RecordingRow). r.take ≢ row.take) rows
later_ids row [] others later = tt
later_ids row (r ∷ rows) others later =
    let above = later.0 in
    let apart : r.id ≢ row.id = λ same. grind (arith, nat_tests) in
    (others.0 apart, later_ids row rows others.1 later.1)

-- Takes of ascending recordings differ where a recording is put whose take none of another id has.
pub Differ-put : (row : RecordingRow) (rows : List RecordingRow) → Ascends recording_less rows
    → Differ (map (λ (r : RecordingRow). r.take) rows) → AllByRecursion (λ (r : RecordingRow). r.id ≢ row.id → r.take ≢ row.take) rows
    → Differ (map (λ (r : RecordingRow). r.take) (put recording_less row rows))
Differ-put row [] rise differ others = (tt, tt)
Differ-put row (r ∷ rows) rise differ others =
    cases (Differ-put row rows rise.1 differ.1 others.1) (recording_less r row) (recording_less row r) refl refl
  where
    Other : List RecordingRow → ℕ → Type 0
    Other rs take = AllByRecursion (λ (later : ℕ). later ≢ take) (map (λ (r : RecordingRow). r.take) rs)

    -- those behind r come after a row that r comes after or is level with
    behind : nat_lt r.id row.id ≡ false → AllByRecursion (λ (s : RecordingRow). nat_lt row.id s.id ≡ true) rows
    behind level =
        AllByRecursion-weaken (λ (s : RecordingRow). nat_lt r.id s.id ≡ true) (λ (s : RecordingRow). nat_lt row.id s.id ≡ true)
        (λ s after. grind (arith, nat_tests)) rows rise.0

    cases : Differ (map (λ (r : RecordingRow). r.take) (put recording_less row rows)) → (first second : Bool)
        → nat_lt r.id row.id ≡ first → nat_lt row.id r.id ≡ second
        → Differ (map (λ (r : RecordingRow). r.take) (cond first (r ∷ put recording_less row rows) (cond second (row ∷ r ∷ rows) (row ∷ rows))))
    cases more true second below above =
        let apart : r.id ≢ row.id = λ same. grind (arith, nat_tests) in
        let unlike : row.take ≢ r.take = λ same. others.0 apart (sym same) in (
          AllByRecursion-map (λ (later : ℕ). later ≢ r.take) (λ (s : RecordingRow). s.take) (put recording_less row rows)
              (AllByRecursion-put (λ (s : RecordingRow). s.take ≢ r.take) recording_less row rows unlike
              (AllByRecursion-unmap (λ (later : ℕ). later ≢ r.take) (λ (s : RecordingRow). s.take) rows differ.0)),
          more,
        )
    cases more false true below above = (
      AllByRecursion-map (λ (later : ℕ). later ≢ row.take) (λ (s : RecordingRow). s.take) (r ∷ rows)
          (later_ids row (r ∷ rows) others (above, behind below)),
      differ,
    )
    cases more false false below above = (
      AllByRecursion-map (λ (later : ℕ). later ≢ row.take) (λ (s : RecordingRow). s.take) rows
          (later_ids row rows others.1 (behind below)),
      differ.1,
    )

-- a put adds one at most to a count, and nothing where the row doesn't pass
pub count_by-put : {A : Type 0} (p : A → Bool) (less : A → A → Bool) (row : A) (rows : List A)
    → count_by p (put less row rows) ≤ cond (p row) 1 0 + count_by p rows
count_by-put p less row [] = omega (arith, sum_by-cons (λ x. cond (p x) 1 0) row [])
count_by-put {A} p less row (r ∷ rows) = cases (count_by-put p less row rows) (less r row) (less row r)
  where
    one : (x : A) (xs : List A) → count_by p (x ∷ xs) ≡ cond (p x) 1 0 + count_by p xs
    one = sum_by-cons (λ x. cond (p x) 1 0)

    cases : count_by p (put less row rows) ≤ cond (p row) 1 0 + count_by p rows → (first second : Bool)
        → count_by p (cond first (r ∷ put less row rows) (cond second (row ∷ r ∷ rows) (row ∷ rows)))
        ≤ cond (p row) 1 0 + count_by p (r ∷ rows)
    cases more true second = omega (arith, more, one r (put less row rows), one r rows)
    cases more false true = omega (arith, one row (r ∷ rows))
    cases more false false = omega (arith, one row rows, one r rows)

-- ---- one change

-- a number that was given still is where its counter rose
given_below : (next later number : ℕ) → next ≤ later → IsGiven next number → IsGiven later number
given_below next later number rose given = (given.0, omega (arith, rose, given.1))

-- Tables in order stay so where counters rise, and not past their end.
pub AreInOrder-counters : (t : Tables) (album recording take : ℕ) → AreInOrder t
    → IsCounter album → IsCounter recording → IsCounter take
    → t.next_album ≤ album → t.next_recording ≤ recording → t.next_take ≤ take
    → AreInOrder (changed (Counters album recording take) t)
AreInOrder-counters t album recording take are albums recordings takes album_rose recording_rose take_rose = record {
  next_album = albums;
  next_recording = recordings;
  next_take = takes;
  albums = are.albums;
  recordings = are.recordings;
  segments = are.segments;
  replies = are.replies;
  album_ids_given = AllByRecursion-weaken (λ (row : AlbumRow). IsGiven t.next_album row.id)
      (λ (row : AlbumRow). IsGiven album row.id) (λ row. given_below t.next_album album row.id album_rose) t.albums are.album_ids_given;
  ids_given = AllByRecursion-weaken (λ (row : RecordingRow). IsGiven t.next_recording row.id)
      (λ (row : RecordingRow). IsGiven recording row.id) (λ row. given_below t.next_recording recording row.id recording_rose)
      t.recordings are.ids_given;
  takes_given = AllByRecursion-weaken (λ (row : RecordingRow). IsGiven t.next_take row.take)
      (λ (row : RecordingRow). IsGiven take row.take) (λ row. given_below t.next_take take row.take take_rose) t.recordings are.takes_given;
  segments_given = AllByRecursion-weaken (λ (row : SegmentRow). IsGiven t.next_take row.take)
      (λ (row : SegmentRow). IsGiven take row.take) (λ row. given_below t.next_take take row.take take_rose) t.segments are.segments_given;
  takes_differ = are.takes_differ;
  albums_there = are.albums_there;
  few_members = are.few_members;
  album_names = are.album_names;
  names = are.names;
  tokens = are.tokens;
  statuses = are.statuses;
}

-- Tables in order stay so where a recording is put, new or over the one of its id, under a take that no other one names, and no album has
-- too many then.
pub AreInOrder-put_recording : (t : Tables) (row : RecordingRow) → AreInOrder t
    → IsGiven t.next_recording row.id → IsGiven t.next_take row.take
    → AllByRecursion (λ (r : RecordingRow). r.id ≢ row.id → r.take ≢ row.take) t.recordings
    → album_is_there row.album t.albums ≡ true → is_name row.name ≡ true
    → AllByRecursion (λ (a : AlbumRow). member_count a.id (put recording_less row t.recordings) ≤ MOST_MEMBERS) t.albums
    → AreInOrder (changed (PutRecording row) t)
AreInOrder-put_recording t row are id take others album name few = record {
  next_album = are.next_album;
  next_recording = are.next_recording;
  next_take = are.next_take;
  albums = are.albums;
  recordings = Ascends-put recording_less recordings_in_order row t.recordings are.recordings;
  segments = are.segments;
  replies = are.replies;
  album_ids_given = are.album_ids_given;
  ids_given = AllByRecursion-put (λ (r : RecordingRow). IsGiven t.next_recording r.id) recording_less row t.recordings id are.ids_given;
  takes_given = AllByRecursion-put (λ (r : RecordingRow). IsGiven t.next_take r.take) recording_less row t.recordings take are.takes_given;
  segments_given = are.segments_given;
  takes_differ = Differ-put row t.recordings are.recordings are.takes_differ others;
  albums_there = AllByRecursion-put (λ (r : RecordingRow). album_is_there r.album t.albums ≡ true) recording_less row t.recordings
      album are.albums_there;
  few_members = few;
  album_names = are.album_names;
  names = AllByRecursion-put (λ (r : RecordingRow). is_name r.name ≡ true) recording_less row t.recordings name are.names;
  tokens = are.tokens;
  statuses = are.statuses;
}

either : (b : Bool) → (b || true) ≡ true
either true = refl
either false = refl

-- an album that is there still is where a row is put
pub has_album-put : (id : ℕ) (row : AlbumRow) (albums : List AlbumRow) → has_album id albums ≡ true
    → has_album id (put album_less row albums) ≡ true
has_album-put id row [] there = absurd (true≢false (sym there))
has_album-put id row (a ∷ albums) there =
    cases (has_album-put id row albums) (album_less a row) (album_less row a) (a.id == id) refl refl refl there
  where
    cases : (has_album id albums ≡ true → has_album id (put album_less row albums) ≡ true) → (first second here : Bool)
        → nat_lt a.id row.id ≡ first → nat_lt row.id a.id ≡ second → (a.id == id) ≡ here → (here || has_album id albums) ≡ true
        → has_album id (cond first (a ∷ put album_less row albums) (cond second (row ∷ a ∷ albums) (row ∷ albums))) ≡ true
    cases rest true second true below above is there = rw is refl
    cases rest true second false below above is there = rw is (rest there)
    cases rest false true here below above is there = rw is (rw there (either (row.id == id)))
    cases rest false false true below above is there =
        let same : (row.id == id) ≡ true = grind (arith, nat_tests) in rw same refl
    cases rest false false false below above is there = rw there (either (row.id == id))

there-put : (album : Option ℕ) (row : AlbumRow) (albums : List AlbumRow) → album_is_there album albums ≡ true
    → album_is_there album (put album_less row albums) ≡ true
there-put None row albums there = refl
there-put (Some id) row albums there = has_album-put id row albums there

-- Tables in order stay so where an album is put, new or over the one of its id, and has not too many recordings.
pub AreInOrder-put_album : (t : Tables) (row : AlbumRow) → AreInOrder t → IsGiven t.next_album row.id → is_name row.name ≡ true
    → member_count row.id t.recordings ≤ MOST_MEMBERS → AreInOrder (changed (PutAlbum row) t)
AreInOrder-put_album t row are id name few = record {
  next_album = are.next_album;
  next_recording = are.next_recording;
  next_take = are.next_take;
  albums = Ascends-put album_less albums_in_order row t.albums are.albums;
  recordings = are.recordings;
  segments = are.segments;
  replies = are.replies;
  album_ids_given = AllByRecursion-put (λ (a : AlbumRow). IsGiven t.next_album a.id) album_less row t.albums id are.album_ids_given;
  ids_given = are.ids_given;
  takes_given = are.takes_given;
  segments_given = are.segments_given;
  takes_differ = are.takes_differ;
  albums_there = AllByRecursion-weaken (λ (r : RecordingRow). album_is_there r.album t.albums ≡ true)
      (λ (r : RecordingRow). album_is_there r.album (put album_less row t.albums) ≡ true) (λ r. there-put r.album row t.albums)
      t.recordings are.albums_there;
  few_members = AllByRecursion-put (λ (a : AlbumRow). member_count a.id t.recordings ≤ MOST_MEMBERS) album_less row t.albums
      few are.few_members;
  album_names = AllByRecursion-put (λ (a : AlbumRow). is_name a.name ≡ true) album_less row t.albums name are.album_names;
  names = are.names;
  tokens = are.tokens;
  statuses = are.statuses;
}

-- Tables in order stay so where a reply is kept.
pub AreInOrder-put_reply : (t : Tables) (row : ReplyRow) → AreInOrder t → is_token row.token ≡ true → IsKeptStatus row.status
    → AreInOrder (changed (PutReply row) t)
AreInOrder-put_reply t row are token status = record {
  next_album = are.next_album;
  next_recording = are.next_recording;
  next_take = are.next_take;
  albums = are.albums;
  recordings = are.recordings;
  segments = are.segments;
  replies = Ascends-put reply_less replies_in_order row t.replies are.replies;
  album_ids_given = are.album_ids_given;
  ids_given = are.ids_given;
  takes_given = are.takes_given;
  segments_given = are.segments_given;
  takes_differ = are.takes_differ;
  albums_there = are.albums_there;
  few_members = are.few_members;
  album_names = are.album_names;
  names = are.names;
  tokens = AllByRecursion-put (λ (k : ReplyRow). is_token k.token ≡ true) reply_less row t.replies token are.tokens;
  statuses = AllByRecursion-put (λ (k : ReplyRow). IsKeptStatus k.status) reply_less row t.replies status are.statuses;
}

-- ---- no rows

-- The empty tables are in order.
pub empty-AreInOrder : AreInOrder empty_tables
empty-AreInOrder = record {
  next_album = (omega arith, omega arith);
  next_recording = (omega arith, omega arith);
  next_take = (omega arith, omega arith);
  albums = tt;
  recordings = tt;
  segments = tt;
  replies = tt;
  album_ids_given = tt;
  ids_given = tt;
  takes_given = tt;
  segments_given = tt;
  takes_differ = tt;
  albums_there = tt;
  few_members = tt;
  album_names = tt;
  names = tt;
  tokens = tt;
  statuses = tt;
}
