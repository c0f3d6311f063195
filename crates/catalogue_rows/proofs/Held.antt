-- Rows that hold tables but for the tally of one recording.
use Rattle.std.proofs.Common.{◌≡◌, ◌≢◌, ◌<◌, ◌≤◌, ◌==◌, ℕ, zero, suc, Bool, true, false, not, cond, List, [], ◌∷◌, length, map, nat_lt, Option, None, Some, is_some, refl, sym, ap, ◌∙◌, subst, arith, Contains, All}
use Rattle.std.specs.Prelude.{IfSome}
use Rattle.std.specs.List.{AllByRecursion, find}
use Rattle.std.specs.Option.{option_map, option_or}
use Rattle.std.proofs.Math.ListN.{get_or, set}
use Rattle.std.proofs.lemmas.Bool.Decides.{nat_tests}
use Rattle.lib_base.specs.declared.files.Measured.{Measured}
use Rattle.keeper_store.specs.declared.contents.Change.TheVariants.{PutRecording, DropRecording}
use Rattle.keeper_store.specs.declared.contents.NextNumbers.{NextNumbers}
use Rattle.keeper_store.specs.declared.contents.Tables.{Tables}
use Rattle.keeper_store.specs.declared.row_types.AlbumRow.{AlbumRow}
use Rattle.keeper_store.specs.declared.row_types.RecordingRow.{RecordingRow}
use Rattle.keeper_store.specs.Changes.{changed, next_numbers}
use Rattle.keeper_store.specs.Puts.{put, without, Ascends, IsFirstOfNumber, recording_id, recording_less}
use Rattle.keeper_store.proofs.Putting.{map-put, AllByRecursion-put, AllByRecursion-weaken, All-at, Ascends-put}
use Rattle.keeper_store.proofs.Dropping.{map-without, AllByRecursion-without}
use Rattle.keeper_store.proofs.Finding.{found_first, not_found}
use Rattle.kept_replies.specs.Holding as replies
use Rattle.kept_replies.specs.declared.keeping.KeptReplies.{KeptReplies}
use Rattle.album_merge.specs.Members.{IsAlbumOf, without_recording}
use Rattle.album_merge.specs.Tallies.{Tallied, StandsForMeasured}
use Rattle.library_model.specs.RowRules.{album_is_there, measured_in, members_in, is_in_album}
use Rattle.catalogue_rows.specs.declared.kept.KeptAlbum.{KeptAlbum}
use Rattle.catalogue_rows.specs.declared.kept.KeptRecording.{KeptRecording}
use Rattle.catalogue_rows.specs.declared.rows.CatalogueRows.{CatalogueRows}
use Rattle.catalogue_rows.specs.Holding.{HasOwn, Holds, IsBeside, album_of, album_row, numbers_of, recording_row}
use Rattle.catalogue_rows.specs.KeptOrders.{kept_recording_id, kept_recording_less, kept_recordings_in_order}
use Rattle.catalogue_rows.specs.Making.{HasTally}
use Rattle.catalogue_rows.specs.Room.{and_one}
use Rattle.catalogue_rows.specs.Places.{AreMembersOf, HavePlaces, HoldsBut, IsFewIn, IsTallyOf, with_over, without_one}
use Rattle.catalogue_rows.proofs.Albums.{without_apart, without_here}
use Rattle.catalogue_rows.proofs.Changed.{find_parts}
use Rattle.catalogue_rows.proofs.Moved.{album_other, album_without, only_found, put-without, set_is_put, without-set}
use Rattle.catalogue_rows.proofs.Sums.{album_twice, over_is_put}

-- ---- rows of recordings

-- recordings ascend as what is kept of them does
pub recordings_rise : (ks : List KeptRecording) → Ascends kept_recording_less ks → Ascends recording_less (map recording_row ks)
recordings_rise [] rise = tt
recordings_rise (k ∷ ks) rise = (above ks rise.0, recordings_rise ks rise.1)
  where
    above : (rest : List KeptRecording) → AllByRecursion (λ (x : KeptRecording). kept_recording_less k x ≡ true) rest
        → AllByRecursion (λ (row : RecordingRow). recording_less k.row row ≡ true) (map recording_row rest)
    above [] all = tt
    above (x ∷ rest) all = (all.0, above rest all.1)

-- those of tables that are held do
pub tables_rise : (rows : CatalogueRows) (t : Tables) → map recording_row rows.recordings.items ≡ t.recordings
    → Ascends recording_less t.recordings
tables_rise rows t is = subst (Ascends recording_less) is (recordings_rise rows.recordings.items rows.recordings_ascend)

-- rows of which one keeps its row
pub recordings_set : (ks : List KeptRecording) (place : ℕ) (kept : KeptRecording) → ((d : KeptRecording) → kept.row ≡ (get_or ks place d).row)
    → map recording_row (set ks place kept) ≡ map recording_row ks
recordings_set [] place kept same = refl
recordings_set (k ∷ ks) zero kept same = ap (λ (row : RecordingRow). row ∷ map recording_row ks) (same k)
recordings_set (k ∷ ks) (suc place) kept same = ap (λ (l : List RecordingRow). k.row ∷ l) (recordings_set ks place kept same)

-- the row of what stands at the place of an id is found
pub found_row : (id place : ℕ) (ks : List KeptRecording) (kept : KeptRecording) (rows : List RecordingRow) → map recording_row ks ≡ rows
    → IsFirstOfNumber kept_recording_id id ks place → kept ≡ get_or ks place kept → find (λ (r : RecordingRow). r.id == id) rows ≡ Some kept.row
found_row id place ks kept rows is at here =
    ap (find (λ (r : RecordingRow). r.id == id)) (sym is)
    ∙ sym (find_parts (λ (r : RecordingRow). r.id) id recording_row ks)
    ∙ sym (ap (option_map recording_row) (found_first kept_recording_id id ks place kept at here))

-- ---- lifted

-- where no recording has the id, nothing is to be lifted
pub but_none : (rows : CatalogueRows) (id : ℕ) (t : Tables) → Holds rows t
    → All (λ (k : KeptRecording). kept_recording_id k ≢ id) rows.recordings.items → HoldsBut rows id t
but_none rows id t holds none = record {
  numbers = holds.numbers;
  albums = holds.albums;
  recordings = holds.recordings;
  replies = holds.replies;
  in_albums = subst (λ (rs : List RecordingRow). AreMembersOf (album_of t rs) rows.albums.items) (sym same) holds.in_albums;
  beside = AllByRecursion-without (IsBeside t) kept_recording_id id rows.recordings.items holds.beside;
}
  where
    all_rows : (ks : List KeptRecording) → All (λ (k : KeptRecording). kept_recording_id k ≢ id) ks
        → without recording_id id (map recording_row ks) ≡ map recording_row ks
    all_rows [] apart = refl
    all_rows (k ∷ ks) apart =
        let first : k.row.id ≢ id = apart zero k (omega arith) in
        let test : (k.row.id == id) ≡ false = grind (arith, nat_tests, first) in
        rw test (ap (λ (l : List RecordingRow). k.row ∷ l) (all_rows ks (λ i d within. apart (suc i) d (omega (arith, within)))))

    same : without recording_id id t.recordings ≡ t.recordings
    same = subst (λ (rs : List RecordingRow). without recording_id id rs ≡ rs) holds.recordings (all_rows rows.recordings.items none)

-- what an album has without the recording that it has
without_is : (t : Tables) (album id : ℕ) (row : RecordingRow) (rows : List RecordingRow) (other : ℕ) → Ascends recording_less rows
    → find (λ (r : RecordingRow). r.id == id) rows ≡ Some row → row.album ≡ Some album
    → without_one album id (album_of t rows) other ≡ album_of t (without recording_id id rows) other
without_is t album id row rows other rise found in_it = cases (album == other) refl
  where
    elsewhere : other ≢ album → is_in_album other row.album ≡ false
    elsewhere apart = let test : (album == other) ≡ false = grind (arith, nat_tests, apart) in rw in_it test

    each : other ≢ album → AllByRecursion (λ (r : RecordingRow). r.id ≡ id → is_in_album other r.album ≡ false) rows
    each apart =
        AllByRecursion-weaken (λ (r : RecordingRow). r.id ≡ id → r ≡ row) (λ (r : RecordingRow). r.id ≡ id → is_in_album other r.album ≡ false)
        (λ r one same. ap (λ (s : RecordingRow). is_in_album other s.album) (one same) ∙ elsewhere apart) rows (only_found id rows row rise found)

    cases : (here : Bool) → (album == other) ≡ here → cond here (without_recording id (album_of t rows other)) (album_of t rows other)
        ≡ album_of t (without recording_id id rows) other
    cases true is = sym (album_without t id rows other)
    cases false is =
        let apart : other ≢ album = grind (arith, nat_tests, is) in
        sym (album_other t id rows other (each apart))

-- each album stands for what is told otherwise of its id
pub members_as : (of next : ℕ → List (ℕ × Measured)) (ks : List KeptAlbum) → ((other : ℕ) → of other ≡ next other) → AreMembersOf of ks
    → AreMembersOf next ks
members_as of next ks same all =
    AllByRecursion-weaken (λ (k : KeptAlbum). IsAlbumOf k.members (of k.row.id)) (λ (k : KeptAlbum). IsAlbumOf k.members (next k.row.id))
    (λ k stands. subst (IsAlbumOf k.members) (same k.row.id) stands) ks all

-- from an album
pub but_album : (rows next : CatalogueRows) (album id : ℕ) (row : RecordingRow) (t : Tables) → Holds rows t
    → find (λ (r : RecordingRow). r.id == id) t.recordings ≡ Some row → row.album ≡ Some album
    → map album_row next.albums.items ≡ map album_row rows.albums.items
    → AreMembersOf (without_one album id (album_of t t.recordings)) next.albums.items
    → next.recordings.items ≡ rows.recordings.items → next.replies ≡ rows.replies → numbers_of next ≡ numbers_of rows → HoldsBut next id t
but_album rows next album id row t holds found in_it same members recordings same_replies numbers = record {
  numbers = numbers ∙ holds.numbers;
  albums = same ∙ holds.albums;
  recordings = ap (map recording_row) recordings ∙ holds.recordings;
  replies = subst (λ (kept : KeptReplies). replies.Holds kept t.replies) (sym same_replies) holds.replies;
  in_albums = members_as (without_one album id (album_of t t.recordings)) (album_of t (without recording_id id t.recordings))
      next.albums.items (λ other. without_is t album id row t.recordings other (tables_rise rows t holds.recordings) found in_it) members;
  beside = subst (λ (l : List KeptRecording). AllByRecursion (IsBeside t) (without kept_recording_id id l)) (sym recordings)
      (AllByRecursion-without (IsBeside t) kept_recording_id id rows.recordings.items holds.beside);
}

-- or from beside its row
pub but_beside : (rows next : CatalogueRows) (id place : ℕ) (kept now : KeptRecording) (t : Tables) → Holds rows t
    → IsFirstOfNumber kept_recording_id id rows.recordings.items place → kept ≡ get_or rows.recordings.items place kept
    → kept.row.album ≡ None → now.row ≡ kept.row → next.recordings.items ≡ set rows.recordings.items place now
    → next.albums.items ≡ rows.albums.items → next.replies ≡ rows.replies → numbers_of next ≡ numbers_of rows → HoldsBut next id t
but_beside rows next id place kept now t holds at here outside same set_is albums same_replies numbers = record {
  numbers = numbers ∙ holds.numbers;
  albums = ap (map album_row) albums ∙ holds.albums;
  recordings = ap (map recording_row) set_is ∙ recordings_set rows.recordings.items place now its ∙ holds.recordings;
  replies = subst (λ (all : KeptReplies). replies.Holds all t.replies) (sym same_replies) holds.replies;
  in_albums = subst (AreMembersOf (album_of t (without recording_id id t.recordings))) (sym albums)
      (members_as (album_of t t.recordings) (album_of t (without recording_id id t.recordings)) rows.albums.items
      (λ other. sym (album_other t id t.recordings other (none other))) holds.in_albums);
  beside = subst (λ (l : List KeptRecording). AllByRecursion (IsBeside t) (without kept_recording_id id l)) (sym set_is)
      (subst (AllByRecursion (IsBeside t)) (sym (without-set kept_recording_id id rows.recordings.items place now number at.same))
      (AllByRecursion-without (IsBeside t) kept_recording_id id rows.recordings.items holds.beside));
}
  where
    any : (d : KeptRecording) → kept ≡ get_or rows.recordings.items place d
    any d = read rows.recordings.items place at.inside here
      where
        read : (ks : List KeptRecording) (i : ℕ) → i < length ks → kept ≡ get_or ks i kept → kept ≡ get_or ks i d
        read [] i within is = absurd (omega (arith, within))
        read (k ∷ ks) zero within is = is
        read (k ∷ ks) (suc i) within is = read ks i (omega (arith, within)) is

    its : (d : KeptRecording) → now.row ≡ (get_or rows.recordings.items place d).row
    its d = same ∙ ap recording_row (any d)

    number : kept_recording_id now ≡ id
    number = ap (λ (r : RecordingRow). r.id) (its kept) ∙ at.same kept

    found : find (λ (r : RecordingRow). r.id == id) t.recordings ≡ Some kept.row
    found = found_row id place rows.recordings.items kept t.recordings holds.recordings at here

    none : (other : ℕ) → AllByRecursion (λ (r : RecordingRow). r.id ≡ id → is_in_album other r.album ≡ false) t.recordings
    none other =
        AllByRecursion-weaken (λ (r : RecordingRow). r.id ≡ id → r ≡ kept.row)
        (λ (r : RecordingRow). r.id ≡ id → is_in_album other r.album ≡ false)
        (λ r one this. ap (λ (s : RecordingRow). is_in_album other s.album) (one this) ∙ rw outside refl) t.recordings
        (only_found id t.recordings kept.row (tables_rise rows t holds.recordings) found)

-- ---- put, dropped and brought back

-- The recording is put over what was there, with its tally in its album or beside it.
pub Holds-put : (rows next : CatalogueRows) (t : Tables) (row : RecordingRow) (beside : Option Tallied) → HoldsBut rows row.id t
    → map album_row next.albums.items ≡ map album_row rows.albums.items
    → AreMembersOf (with_over row.album row.id (measured_in t row) (album_of t (without recording_id row.id t.recordings))) next.albums.items
    → HasOwn row.album beside (measured_in t row)
    → next.recordings.items ≡ put kept_recording_less (record { row = row; tally = beside }) rows.recordings.items
    → next.replies ≡ rows.replies → numbers_of next ≡ numbers_of rows → Holds next (changed (PutRecording row) t)
Holds-put rows next t row beside holds same members own put_is same_replies numbers = record {
  numbers = numbers ∙ holds.numbers;
  albums = same ∙ holds.albums;
  recordings = ap (map recording_row) put_is
      ∙ map-put kept_recording_less recording_less recording_row (λ a b. refl) kept rows.recordings.items
      ∙ ap (put recording_less row) holds.recordings;
  replies = subst (λ (all : KeptReplies). replies.Holds all t.replies) (sym same_replies) holds.replies;
  in_albums = members_as (with_over row.album row.id (measured_in t row) (album_of t (without recording_id row.id t.recordings)))
      (album_of t (put recording_less row t.recordings)) next.albums.items
      (λ other. over_is_put t row t.recordings other (tables_rise rows t holds.recordings)) members;
  beside = subst (AllByRecursion (IsBeside t)) (sym put_is)
      (subst (AllByRecursion (IsBeside t))
      (put-without kept_recording_less kept_recording_id (λ a b. refl) kept rows.recordings.items rows.recordings_ascend)
      (AllByRecursion-put (IsBeside t) kept_recording_less kept (without kept_recording_id row.id rows.recordings.items) own holds.beside));
}
  where
    kept : KeptRecording
    kept = record { row = row; tally = beside }

-- The recording is dropped.
pub Holds-drop : (rows next : CatalogueRows) (t : Tables) (id : ℕ) → HoldsBut rows id t
    → next.recordings.items ≡ without kept_recording_id id rows.recordings.items
    → next.albums.items ≡ rows.albums.items → next.replies ≡ rows.replies → numbers_of next ≡ numbers_of rows
    → Holds next (changed (DropRecording id) t)
Holds-drop rows next t id holds left albums same_replies numbers = record {
  numbers = numbers ∙ holds.numbers;
  albums = ap (map album_row) albums ∙ holds.albums;
  recordings = ap (map recording_row) left
      ∙ map-without kept_recording_id recording_id recording_row (λ a. refl) id rows.recordings.items
      ∙ ap (without recording_id id) holds.recordings;
  replies = subst (λ (all : KeptReplies). replies.Holds all t.replies) (sym same_replies) holds.replies;
  in_albums = subst (AreMembersOf (album_of t (without recording_id id t.recordings))) (sym albums) holds.in_albums;
  beside = subst (AllByRecursion (IsBeside t)) (sym left) holds.beside;
}

-- a row that is there, put again
put_found : (id : ℕ) (row : RecordingRow) (rows : List RecordingRow) → Ascends recording_less rows
    → find (λ (r : RecordingRow). r.id == id) rows ≡ Some row → put recording_less row rows ≡ rows
put_found id row [] rise found = absurd (cc found)
put_found id row (r ∷ rows) rise found = cases (λ more. put_found id row rows rise.1 more) (r.id == id) refl found
  where
    above : (rs : List RecordingRow) → AllByRecursion (λ (s : RecordingRow). recording_less r s ≡ true) rs
        → find (λ (s : RecordingRow). s.id == id) rs ≡ Some row → recording_less r row ≡ true
    above [] all is = absurd (cc is)
    above (s ∷ rs) all is = at (λ more. above rs all.1 more) (s.id == id) is
      where
        at : (find (λ (x : RecordingRow). x.id == id) rs ≡ Some row → recording_less r row ≡ true) → (this : Bool)
            → cond this (Some s) (find (λ (x : RecordingRow). x.id == id) rs) ≡ Some row → recording_less r row ≡ true
        at rest true found_is = let one : s ≡ row = cc found_is in subst (λ (x : RecordingRow). recording_less r x ≡ true) one all.0
        at rest false found_is = rest found_is

    cases : (find (λ (s : RecordingRow). s.id == id) rows ≡ Some row → put recording_less row rows ≡ rows) → (this : Bool)
        → (r.id == id) ≡ this → cond this (Some r) (find (λ (s : RecordingRow). s.id == id) rows) ≡ Some row
        → put recording_less row (r ∷ rows) ≡ r ∷ rows
    cases rest true is found_is =
        let one : r ≡ row = cc found_is in
        let level : nat_lt row.id row.id ≡ false = grind (arith, nat_tests) in
        rw (one, level) refl
    cases rest false is found_is =
        let up : nat_lt r.id row.id ≡ true = above rows rise.0 found_is in
        rw up (ap (λ (l : List RecordingRow). r ∷ l) (rest found_is))

-- The tally is brought back to where the row says.
pub Holds-back : (rows next : CatalogueRows) (t : Tables) (id place : ℕ) (kept now : KeptRecording) → HoldsBut rows id t
    → IsFirstOfNumber kept_recording_id id rows.recordings.items place → kept ≡ get_or rows.recordings.items place kept → now.row ≡ kept.row
    → map album_row next.albums.items ≡ map album_row rows.albums.items
    → AreMembersOf (with_over kept.row.album id (measured_in t kept.row) (album_of t (without recording_id id t.recordings))) next.albums.items
    → HasOwn kept.row.album now.tally (measured_in t kept.row)
    → next.recordings.items ≡ set rows.recordings.items place now
    → next.replies ≡ rows.replies → numbers_of next ≡ numbers_of rows → Holds next t
Holds-back rows next t id place kept now holds at here same_row same members own set_is same_replies numbers = record {
  numbers = numbers ∙ holds.numbers;
  albums = same ∙ holds.albums;
  recordings = ap (map recording_row) set_is ∙ recordings_set rows.recordings.items place now its ∙ holds.recordings;
  replies = subst (λ (all : KeptReplies). replies.Holds all t.replies) (sym same_replies) holds.replies;
  in_albums = subst (λ (rs : List RecordingRow). AreMembersOf (album_of t rs) next.albums.items)
      (put_found id kept.row t.recordings rise found)
      (members_as (with_over kept.row.album id (measured_in t kept.row) (album_of t (without recording_id id t.recordings)))
      (album_of t (put recording_less kept.row t.recordings)) next.albums.items over members);
  beside = subst (AllByRecursion (IsBeside t)) (sym set_is) besides;
}
  where
    any : (ks : List KeptRecording) (i : ℕ) (d : KeptRecording) → i < length ks → kept ≡ get_or ks i kept → kept ≡ get_or ks i d
    any [] i d within is = absurd (omega (arith, within))
    any (k ∷ ks) zero d within is = is
    any (k ∷ ks) (suc i) d within is = any ks i d (omega (arith, within)) is

    its : (d : KeptRecording) → now.row ≡ (get_or rows.recordings.items place d).row
    its d = same_row ∙ ap recording_row (any rows.recordings.items place d at.inside here)

    number : kept.row.id ≡ id
    number = ap (λ (k : KeptRecording). k.row.id) here ∙ at.same kept

    rise : Ascends recording_less t.recordings
    rise = tables_rise rows t holds.recordings

    found : find (λ (r : RecordingRow). r.id == id) t.recordings ≡ Some kept.row
    found = found_row id place rows.recordings.items kept t.recordings holds.recordings at here

    over : (other : ℕ) → with_over kept.row.album id (measured_in t kept.row) (album_of t (without recording_id id t.recordings)) other
        ≡ album_of t (put recording_less kept.row t.recordings) other
    over other =
        subst (λ (n : ℕ). with_over kept.row.album n (measured_in t kept.row) (album_of t (without recording_id n t.recordings)) other
        ≡ album_of t (put recording_less kept.row t.recordings) other) number
        (over_is_put t kept.row t.recordings other rise)

    mine : IsBeside t now
    mine = subst (λ (r : RecordingRow). HasOwn r.album now.tally (measured_in t r)) (sym same_row) own

    now_number : kept_recording_id now ≡ id
    now_number = ap (λ (r : RecordingRow). r.id) same_row ∙ number

    besides : AllByRecursion (IsBeside t) (set rows.recordings.items place now)
    besides =
        subst (AllByRecursion (IsBeside t))
        (ap (λ n. put kept_recording_less now (without kept_recording_id n rows.recordings.items)) (sym now_number)
        ∙ put-without kept_recording_less kept_recording_id (λ a b. refl) now rows.recordings.items rows.recordings_ascend
        ∙ sym (set_is_put kept_recording_less kept_recording_id (λ a b. refl) now id rows.recordings.items place rows.recordings_ascend at now_number))
        (AllByRecursion-put (IsBeside t) kept_recording_less now (without kept_recording_id id rows.recordings.items) mine holds.beside)

-- ---- as calls tell it

-- the place that was found among the rows
pub at_as : (id place : ℕ) (ks slice : List KeptRecording) → slice ≡ ks → IsFirstOfNumber kept_recording_id id slice place
    → IsFirstOfNumber kept_recording_id id ks place
at_as id place ks slice same at = subst (λ (l : List KeptRecording). IsFirstOfNumber kept_recording_id id l place) same at

-- or none of them
pub none_as : (id : ℕ) (ks slice : List KeptRecording) → slice ≡ ks → All (λ (k : KeptRecording). kept_recording_id k ≢ id) slice
    → All (λ (k : KeptRecording). kept_recording_id k ≢ id) ks
none_as id ks slice same none = subst (λ (l : List KeptRecording). All (λ (k : KeptRecording). kept_recording_id k ≢ id) l) same none

-- a row of an id that none has is not found
pub none_found : (id : ℕ) (ks : List KeptRecording) (rows : List RecordingRow) (row : RecordingRow) → map recording_row ks ≡ rows
    → All (λ (k : KeptRecording). kept_recording_id k ≢ id) ks → find (λ (r : RecordingRow). r.id == id) rows ≡ Some row → ⊥
none_found id ks rows row is none found =
    let missing : find (λ (r : RecordingRow). r.id == id) rows ≡ None =
    ap (find (λ (r : RecordingRow). r.id == id)) (sym is)
    ∙ sym (find_parts (λ (r : RecordingRow). r.id) id recording_row ks)
    ∙ sym (ap (option_map recording_row) (not_found kept_recording_id id ks none)) in
    cc (sym missing ∙ found)

-- both are what stands at the place
pub same_at : (ks : List KeptRecording) (place : ℕ) (a b : KeptRecording) → place < length ks → a ≡ get_or ks place a → b ≡ get_or ks place b
    → a ≡ b
same_at [] place a b inside a_is b_is = absurd (omega (arith, inside))
same_at (k ∷ ks) zero a b inside a_is b_is = a_is ∙ sym b_is
same_at (k ∷ ks) (suc place) a b inside a_is b_is = same_at ks place a b (omega (arith, inside)) a_is b_is

-- what stands at the place, whatever is said where there is no place
pub any_at : (ks : List KeptRecording) (place : ℕ) (kept d : KeptRecording) → place < length ks → kept ≡ get_or ks place kept
    → kept ≡ get_or ks place d
any_at [] place kept d inside is = absurd (omega (arith, inside))
any_at (k ∷ ks) zero kept d inside is = is
any_at (k ∷ ks) (suc place) kept d inside is = any_at ks place kept d (omega (arith, inside)) is

-- the row that is found is that at the place
pub row_is : (id place : ℕ) (ks : List KeptRecording) (kept : KeptRecording) (rows : List RecordingRow) (row : RecordingRow)
    → map recording_row ks ≡ rows → IsFirstOfNumber kept_recording_id id ks place → kept ≡ get_or ks place kept
    → find (λ (r : RecordingRow). r.id == id) rows ≡ Some row → row ≡ kept.row
row_is id place ks kept rows row is at here found =
    let own = found_row id place ks kept rows is at here in cc (sym found ∙ own)

-- recordings ascend with another in a place whose row is the same
pub rise_set : (ks : List KeptRecording) (id place : ℕ) (kept now : KeptRecording) → Ascends kept_recording_less ks
    → IsFirstOfNumber kept_recording_id id ks place → kept ≡ get_or ks place kept → now.row ≡ kept.row
    → Ascends kept_recording_less (set ks place now)
rise_set ks id place kept now rise at here same =
    subst (Ascends kept_recording_less)
    (sym (set_is_put kept_recording_less kept_recording_id (λ a b. refl) now id ks place rise at number))
    (Ascends-put kept_recording_less kept_recordings_in_order now ks rise)
  where
    number : kept_recording_id now ≡ id
    number = ap (λ (r : RecordingRow). r.id) same ∙ ap kept_recording_id here ∙ at.same kept

-- what an album has of a recording that is found
pub contains_found : (t : Tables) (id album : ℕ) (row : RecordingRow) (rows : List RecordingRow)
    → find (λ (r : RecordingRow). r.id == id) rows ≡ Some row → row.album ≡ Some album → Contains (album_of t rows album) (id, measured_in t row)
contains_found t id album row [] found in_it = absurd (cc found)
contains_found t id album row (r ∷ rows) found in_it = cases (λ more. contains_found t id album row rows more in_it) (r.id == id) refl found
  where
    Has : List (ℕ × Measured) → Type 0
    Has l = Contains l (id, measured_in t row)

    later : (here : Bool) → Has (album_of t rows album)
        → Has (map (λ (s : RecordingRow). (s.id, measured_in t s)) (cond here (r ∷ members_in album rows) (members_in album rows)))
    later true has = (suc has.0, omega (arith, has.1), has.2)
    later false has = has

    cases : (find (λ (s : RecordingRow). s.id == id) rows ≡ Some row → Has (album_of t rows album)) → (this : Bool) → (r.id == id) ≡ this
        → cond this (Some r) (find (λ (s : RecordingRow). s.id == id) rows) ≡ Some row → Has (album_of t (r ∷ rows) album)
    cases rest true is at =
        let one : r ≡ row = cc at in
        let same : r.id ≡ id = grind (arith, nat_tests, is) in
        let named : (album == album) ≡ true = grind (arith, nat_tests) in
        let inside : is_in_album album r.album ≡ true =
        subst (λ (s : RecordingRow). is_in_album album s.album ≡ true) (sym one) (rw in_it named) in
        let head : (r.id, measured_in t r) ≡ (id, measured_in t row) =
        ap (λ n. (n, measured_in t r)) same ∙ ap (λ (s : RecordingRow). (id, measured_in t s)) one in
        rw inside (zero, omega arith, head)
    cases rest false is at = later (is_in_album album r.album) (rest at)

-- each of the id has a place at home, where that at the place has
pub home_of : (ks : List KeptRecording) (albums : List KeptAlbum) (id : ℕ) (row : RecordingRow) (more : ℕ → ℕ)
    → AllByRecursion (λ (r : RecordingRow). r.id ≡ id → r ≡ row) (map recording_row ks) → HavePlaces (and_one row.album more) albums
    → AllByRecursion (λ (kept : KeptRecording). kept.row.id ≡ id → HavePlaces (and_one kept.row.album more) albums) ks
home_of [] albums id row more only has = tt
home_of (k ∷ ks) albums id row more only has = (
  (λ same. subst (λ (r : RecordingRow). HavePlaces (and_one r.album more) albums) (sym (only.0 same)) has),
  home_of ks albums id row more only.1 has,
)

-- the only rows of the id at a place
pub only_at : (rows : List KeptRecording) (id place : ℕ) (kept : KeptRecording) → Ascends kept_recording_less rows
    → IsFirstOfNumber kept_recording_id id rows place → kept ≡ get_or rows place kept
    → AllByRecursion (λ (r : RecordingRow). r.id ≡ id → r ≡ kept.row) (map recording_row rows)
only_at rows id place kept rise at here =
    only_found id (map recording_row rows) kept.row (recordings_rise rows rise)
    (found_row id place rows kept (map recording_row rows) refl at here)

-- the place at home of what stands at the place
pub home_at : (ks : List KeptRecording) (albums : List KeptAlbum) (id place : ℕ) (kept : KeptRecording) (more : ℕ → ℕ)
    → IsFirstOfNumber kept_recording_id id ks place → kept ≡ get_or ks place kept
    → AllByRecursion (λ (k : KeptRecording). k.row.id ≡ id → HavePlaces (and_one k.row.album more) albums) ks
    → HavePlaces (and_one kept.row.album more) albums
home_at ks albums id place kept more at here home =
    let P : KeptRecording → Type 0 = λ k. k.row.id ≡ id → HavePlaces (and_one k.row.album more) albums in
    let its : P kept = subst P (sym here) (All-at P ks home place kept at.inside) in
    its (ap kept_recording_id here ∙ at.same kept)

-- few without a recording, told of what the album has without it
pub few_but : (t : Tables) (album : Option ℕ) (id : ℕ) (rows : List RecordingRow) → IsFewIn album id (album_of t rows)
    → IsFewIn album id (album_of t (without recording_id id rows))
few_but t None id rows few = tt
few_but t (Some album) id rows few =
    let same = ap (λ (l : List (ℕ × Measured)). length l) (album_twice t id rows album ∙ album_without t id rows album) in
    omega (arith, few, same)

-- the tally that stands beside a row in no album
pub tally_beside : (rows : CatalogueRows) (id place : ℕ) (kept : KeptRecording) (lifted : Option Tallied)
    → IsFirstOfNumber kept_recording_id id rows.recordings.items place → kept ≡ get_or rows.recordings.items place kept
    → kept.row.album ≡ None → lifted ≡ kept.tally
    → IfSome lifted (λ tally. (t : Tables) (row : RecordingRow) → Holds rows t → find (λ (r : RecordingRow). r.id == id) t.recordings ≡ Some row
    → StandsForMeasured tally (measured_in t row))
tally_beside rows id place kept None at here outside is = tt
tally_beside rows id place kept (Some tally) at here outside is = λ t row holds found.
    let own : IsBeside t kept = subst (IsBeside t) (sym here) (All-at (IsBeside t) rows.recordings.items holds.beside place kept at.inside) in
    let one = row_is id place rows.recordings.items kept t.recordings row holds.recordings at here found in
    subst (λ (r : RecordingRow). StandsForMeasured tally (measured_in t r)) (sym one)
    (stands kept.row.album kept.tally (measured_in t kept.row) outside (sym is) own)
  where
    stands : (album : Option ℕ) (beside : Option Tallied) (m : Measured) → album ≡ None → beside ≡ Some tally → HasOwn album beside m
        → StandsForMeasured tally m
    stands None None m outside is own = absurd own
    stands None (Some other) m outside is own = let one : other ≡ tally = cc is in subst (λ (x : Tallied). StandsForMeasured x m) one own
    stands (Some album) beside m outside is own = absurd (cc outside)

-- and it is there
pub some_beside : (t : Tables) (rows : CatalogueRows) (id place : ℕ) (kept : KeptRecording) → Holds rows t
    → IsFirstOfNumber kept_recording_id id rows.recordings.items place → kept ≡ get_or rows.recordings.items place kept
    → kept.row.album ≡ None → is_some kept.tally ≡ true
some_beside t rows id place kept holds at here outside =
    let own : IsBeside t kept = subst (IsBeside t) (sym here) (All-at (IsBeside t) rows.recordings.items holds.beside place kept at.inside) in
    some kept.row.album kept.tally (measured_in t kept.row) outside own
  where
    some : (album : Option ℕ) (beside : Option Tallied) (m : Measured) → album ≡ None → HasOwn album beside m → is_some beside ≡ true
    some None None m outside own = absurd own
    some None (Some tally) m outside own = refl
    some (Some album) beside m outside own = absurd (cc outside)

-- what follows of any answer
pub if_some_any : {A : Type 0} (P : A → Type 0) (o : Option A) → ((x : A) → P x) → IfSome o P
if_some_any P None any = tt
if_some_any P (Some x) any = any x

-- a tally for a recording that is put: a new one, or its own
pub tally_for : (t : Tables) (row : RecordingRow) (given own : Option Tallied) → HasTally given row t
    → IfSome own (λ tally. (r : RecordingRow) → find (λ (s : RecordingRow). s.id == row.id) t.recordings ≡ Some r
    → StandsForMeasured tally (measured_in t r))
    → ((r : RecordingRow) → find (λ (s : RecordingRow). s.id == row.id) t.recordings ≡ Some r → album_is_there r.album t.albums ≡ true
    → is_some own ≡ true)
    → IsTallyOf (option_or given own) (measured_in t row)
tally_for t row (Some tally) own fits stands some = fits
tally_for t row None (Some tally) fits stands some =
    subst (StandsForMeasured tally) (sym fits.measured) (stands fits.before fits.there)
tally_for t row None None fits stands some = absurd (cc (some fits.before fits.there fits.home))

-- rows hold but for a recording with their albums standing for the same
pub but_through : (rows next : CatalogueRows) (id : ℕ) (t : Tables) → HoldsBut rows id t
    → map album_row next.albums.items ≡ map album_row rows.albums.items
    → AreMembersOf (album_of t (without recording_id id t.recordings)) next.albums.items
    → next.recordings.items ≡ rows.recordings.items → next.replies ≡ rows.replies → numbers_of next ≡ numbers_of rows → HoldsBut next id t
but_through rows next id t but same members recordings same_replies numbers = record {
  numbers = numbers ∙ but.numbers;
  albums = same ∙ but.albums;
  recordings = ap (map recording_row) recordings ∙ but.recordings;
  replies = subst (λ (kept : KeptReplies). replies.Holds kept t.replies) (sym same_replies) but.replies;
  in_albums = members;
  beside = subst (λ (l : List KeptRecording). AllByRecursion (IsBeside t) (without kept_recording_id id l)) (sym recordings) but.beside;
}

-- homes stay where no place is lost
pub home_through : (ks : List KeptRecording) (albums next : List KeptAlbum) (id : ℕ) (more : ℕ → ℕ)
    → ((m : ℕ → ℕ) → HavePlaces m albums → HavePlaces m next)
    → AllByRecursion (λ (k : KeptRecording). k.row.id ≡ id → HavePlaces (and_one k.row.album more) albums) ks
    → AllByRecursion (λ (k : KeptRecording). k.row.id ≡ id → HavePlaces (and_one k.row.album more) next) ks
home_through [] albums next id more through all = tt
home_through (k ∷ ks) albums next id more through all =
    ((λ same. through (and_one k.row.album more) (all.0 same)), home_through ks albums next id more through all.1)

-- an answer that is there
pub some_is : {A : Type 0} (o : Option A) → is_some o ≡ true → (x : A) × (o ≡ Some x)
some_is None is = absurd (cc is)
some_is (Some x) is = (x, refl)
