-- Tables that are in order stay so where rows are dropped.
use Rattle.std.proofs.Common.{◌≡◌, ◌≢◌, ◌≤◌, ◌+◌, ◌==◌, ◌||◌, true≢false, ℕ, Bool, true, false, not, cond, Option, None, Some, List, [], ◌∷◌, map, filter, refl, sym, arith}
use Rattle.std.specs.Prelude.{count_by}
use Rattle.std.specs.List.{AllByRecursion}
use Rattle.std.proofs.lemmas.Bool.Decides.{nat_tests}
use Rattle.std.proofs.lemmas.List.Sums.{sum_by-cons}
use Rattle.lib_base.specs.declared.limits.TheConstants.{MOST_MEMBERS}
use Rattle.keeper_store.specs.Changes.{changed}
use Rattle.keeper_store.specs.Puts.{without, album_id, album_less, recording_id, recording_less}
use Rattle.keeper_store.specs.declared.contents.Change.TheVariants.{DropAlbum, DropRecording}
use Rattle.keeper_store.specs.declared.contents.Tables.{Tables}
use Rattle.keeper_store.specs.declared.row_types.AlbumRow.{AlbumRow}
use Rattle.keeper_store.specs.declared.row_types.RecordingRow.{RecordingRow}
use Rattle.keeper_store.proofs.Dropping.{AllByRecursion-without, Ascends-without}
use Rattle.keeper_store.proofs.Putting.{AllByRecursion-weaken}
use Rattle.library_model.specs.InOrder.{AreInOrder, Differ, IsGiven}
use Rattle.library_model.specs.Names.{is_name}
use Rattle.library_model.specs.RowRules.{album_is_there, has_album, is_in_album, member_count}
use Rattle.library_model.proofs.Imports.{AllByRecursion-both}
use Rattle.library_model.proofs.InOrderLemmas.{AllByRecursion-map, AllByRecursion-unmap}

-- a count does not rise where elements are dropped
count_by-filter : {A : Type 0} (p q : A → Bool) (xs : List A) → count_by p (filter q xs) ≤ count_by p xs
count_by-filter p q [] = omega arith
count_by-filter {A} p q (x ∷ xs) = cases (q x) (count_by-filter p q xs)
  where
    one : (y : A) (ys : List A) → count_by p (y ∷ ys) ≡ cond (p y) 1 0 + count_by p ys
    one = sum_by-cons (λ y. cond (p y) 1 0)

    cases : (stays : Bool) → count_by p (filter q xs) ≤ count_by p xs → count_by p (cond stays (x ∷ filter q xs) (filter q xs)) ≤ count_by p (x ∷ xs)
    cases true rest = omega (arith, rest, one x (filter q xs), one x xs)
    cases false rest = omega (arith, rest, one x xs)

-- takes still differ
Differ-without : (id : ℕ) (rows : List RecordingRow) → Differ (map (λ (r : RecordingRow). r.take) rows)
    → Differ (map (λ (r : RecordingRow). r.take) (without recording_id id rows))
Differ-without id [] differ = tt
Differ-without id (row ∷ rows) differ = cases (not (row.id == id)) (Differ-without id rows differ.1)
  where
    cases : (stays : Bool) → Differ (map (λ (r : RecordingRow). r.take) (without recording_id id rows))
        → Differ (map (λ (r : RecordingRow). r.take) (cond stays (row ∷ without recording_id id rows) (without recording_id id rows)))
    cases true rest = (
      AllByRecursion-map (λ (later : ℕ). later ≢ row.take) (λ (r : RecordingRow). r.take) (without recording_id id rows)
          (AllByRecursion-without (λ (r : RecordingRow). r.take ≢ row.take) recording_id id rows
          (AllByRecursion-unmap (λ (later : ℕ). later ≢ row.take) (λ (r : RecordingRow). r.take) rows differ.0)),
      rest,
    )
    cases false rest = rest

-- an album is still there where another one is dropped
has_album-without : (id other : ℕ) (albums : List AlbumRow) → other ≢ id → has_album other albums ≡ true
    → has_album other (without album_id id albums) ≡ true
has_album-without id other [] differs there = absurd (true≢false (sym there))
has_album-without id other (a ∷ albums) differs there =
    cases (a.id == id) (a.id == other) refl refl (has_album-without id other albums differs) there
  where
    cases : (dropped here : Bool) → (a.id == id) ≡ dropped → (a.id == other) ≡ here
        → (has_album other albums ≡ true → has_album other (without album_id id albums) ≡ true) → (here || has_album other albums) ≡ true
        → has_album other (cond (not dropped) (a ∷ without album_id id albums) (without album_id id albums)) ≡ true
    cases true true drop is rest there =
        let same : other ≡ id = grind (arith, nat_tests) in absurd (differs same)
    cases true false drop is rest there = rest there
    cases false true drop is rest there = rw is refl
    cases false false drop is rest there = rw is (rest there)

there-without : (id : ℕ) (album : Option ℕ) (albums : List AlbumRow) → is_in_album id album ≡ false → album_is_there album albums ≡ true
    → album_is_there album (without album_id id albums) ≡ true
there-without id None albums outside there = refl
there-without id (Some other) albums outside there =
    let differs : other ≢ id = λ same. grind (arith, nat_tests) in has_album-without id other albums differs there

-- Tables in order stay so where an album is dropped that has no recording.
pub AreInOrder-drop_album : (t : Tables) (id : ℕ) → AreInOrder t
    → AllByRecursion (λ (r : RecordingRow). is_in_album id r.album ≡ false) t.recordings → AreInOrder (changed (DropAlbum id) t)
AreInOrder-drop_album t id are empty = record {
  next_album = are.next_album;
  next_recording = are.next_recording;
  next_take = are.next_take;
  albums = Ascends-without album_less album_id id t.albums are.albums;
  recordings = are.recordings;
  segments = are.segments;
  replies = are.replies;
  album_ids_given = AllByRecursion-without (λ (a : AlbumRow). IsGiven t.next_album a.id) album_id id t.albums are.album_ids_given;
  ids_given = are.ids_given;
  takes_given = are.takes_given;
  segments_given = are.segments_given;
  takes_differ = are.takes_differ;
  albums_there = AllByRecursion-both (λ (r : RecordingRow). is_in_album id r.album ≡ false)
      (λ (r : RecordingRow). album_is_there r.album t.albums ≡ true)
      (λ (r : RecordingRow). album_is_there r.album (without album_id id t.albums) ≡ true) t.recordings
      (λ r. there-without id r.album t.albums) empty are.albums_there;
  few_members = AllByRecursion-without (λ (a : AlbumRow). member_count a.id t.recordings ≤ MOST_MEMBERS) album_id id t.albums are.few_members;
  album_names = AllByRecursion-without (λ (a : AlbumRow). is_name a.name ≡ true) album_id id t.albums are.album_names;
  names = are.names;
  tokens = are.tokens;
  statuses = are.statuses;
}

-- Tables in order stay so where a recording is dropped.
pub AreInOrder-drop_recording : (t : Tables) (id : ℕ) → AreInOrder t → AreInOrder (changed (DropRecording id) t)
AreInOrder-drop_recording t id are = record {
  next_album = are.next_album;
  next_recording = are.next_recording;
  next_take = are.next_take;
  albums = are.albums;
  recordings = Ascends-without recording_less recording_id id t.recordings are.recordings;
  segments = are.segments;
  replies = are.replies;
  album_ids_given = are.album_ids_given;
  ids_given = AllByRecursion-without (λ (r : RecordingRow). IsGiven t.next_recording r.id) recording_id id t.recordings are.ids_given;
  takes_given = AllByRecursion-without (λ (r : RecordingRow). IsGiven t.next_take r.take) recording_id id t.recordings are.takes_given;
  segments_given = are.segments_given;
  takes_differ = Differ-without id t.recordings are.takes_differ;
  albums_there = AllByRecursion-without (λ (r : RecordingRow). album_is_there r.album t.albums ≡ true) recording_id id t.recordings
      are.albums_there;
  few_members = AllByRecursion-weaken (λ (a : AlbumRow). member_count a.id t.recordings ≤ MOST_MEMBERS)
      (λ (a : AlbumRow). member_count a.id (without recording_id id t.recordings) ≤ MOST_MEMBERS) fewer t.albums are.few_members;
  album_names = are.album_names;
  names = AllByRecursion-without (λ (r : RecordingRow). is_name r.name ≡ true) recording_id id t.recordings are.names;
  tokens = are.tokens;
  statuses = are.statuses;
}
  where
    fewer : (a : AlbumRow) → member_count a.id t.recordings ≤ MOST_MEMBERS
        → member_count a.id (without recording_id id t.recordings) ≤ MOST_MEMBERS
    fewer a few =
        let less : member_count a.id (without recording_id id t.recordings) ≤ member_count a.id t.recordings =
        count_by-filter (λ (r : RecordingRow). is_in_album a.id r.album) (λ (r : RecordingRow). not (recording_id r == id)) t.recordings in
        omega (arith, few, less)
