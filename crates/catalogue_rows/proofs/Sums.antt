-- What albums sum to in tables after a change of one recording.
use Rattle.std.proofs.Common.{◌≡◌, ◌≢◌, ◌<◌, ◌≤◌, ◌==◌, ℕ, zero, suc, Bool, true, false, not, cond, List, [], ◌∷◌, length, map, filter, count_by, nat_lt, Option, None, Some, refl, sym, ap, ◌∙◌, subst, arith, Contains, inl, inr}
use Rattle.std.specs.Prelude.{IfSome}
use Rattle.std.specs.List.{AllByRecursion, find}
use Rattle.std.proofs.lemmas.Bool.Decides.{nat_tests}
use Rattle.std.proofs.lemmas.List.{length-map}
use Rattle.std.proofs.lemmas.List.Sums.{length-filter}
use Rattle.lib_base.specs.declared.files.Measured.{Measured}
use Rattle.lib_base.specs.declared.files.Summary.{Summary}
use Rattle.lib_base.specs.declared.limits.TheConstants.{MOST_MEMBERS}
use Rattle.keeper_store.specs.declared.contents.Tables.{Tables}
use Rattle.keeper_store.specs.declared.row_types.RecordingRow.{RecordingRow}
use Rattle.keeper_store.specs.Puts.{put, without, recording_less, recording_id, Ascends}
use Rattle.sound_model.specs.Albums.{IsAlbumSummary}
use Rattle.album_merge.specs.Members.{placed, measured_of, with_recording, without_recording, recording_id as id_of}
use Rattle.library_model.specs.RowRules.{measured_in, members_in, is_in_album, member_count}
use Rattle.catalogue_rows.specs.Holding.{album_of}
use Rattle.catalogue_rows.specs.Opening.{with_row}
use Rattle.catalogue_rows.specs.Places.{IsFewIn, with_over}
use Rattle.catalogue_rows.specs.Trying.{Comes, HasPlaceFor, IsSumIn, LeavesAlbum, PutsRow}
use Rattle.catalogue_rows.proofs.Moved.{album_put, album_without, album_measured, measured_album}

-- rows of which those of a number were taken out have none of it
pub without-twice : (id : ℕ) (rows : List RecordingRow) → without recording_id id (without recording_id id rows) ≡ without recording_id id rows
without-twice id [] = refl
without-twice id (r ∷ rows) = cases (without-twice id rows) (r.id == id) refl
  where
    cases : without recording_id id (without recording_id id rows) ≡ without recording_id id rows → (here : Bool) → (r.id == id) ≡ here
        → without recording_id id (cond (not here) (r ∷ without recording_id id rows) (without recording_id id rows))
        ≡ cond (not here) (r ∷ without recording_id id rows) (without recording_id id rows)
    cases rest true is = rest
    cases rest false is = rw is (ap (λ (l : List RecordingRow). r ∷ l) rest)

-- what an album has without a recording has it no more
pub album_twice : (t : Tables) (id : ℕ) (rows : List RecordingRow) (other : ℕ)
    → without_recording id (album_of t (without recording_id id rows) other) ≡ album_of t (without recording_id id rows) other
album_twice t id rows other =
    sym (album_without t id (without recording_id id rows) other)
    ∙ ap (λ (l : List RecordingRow). album_of t l other) (without-twice id rows)

-- A recording put over the one of its id, in the album that it names.
pub over_is_put : (t : Tables) (row : RecordingRow) (rows : List RecordingRow) (other : ℕ) → Ascends recording_less rows
    → with_over row.album row.id (measured_in t row) (album_of t (without recording_id row.id rows)) other
    ≡ album_of t (put recording_less row rows) other
over_is_put t row rows other rise = cases (is_in_album other row.album) ∙ sym (album_put t row rows other rise)
  where
    Left : List RecordingRow
    Left = without recording_id row.id rows

    cases : (here : Bool)
        → cond here (with_recording row.id (measured_in t row) (without_recording row.id (album_of t Left other))) (album_of t Left other)
        ≡ cond here (with_recording row.id (measured_in t row) (album_of t Left other)) (album_of t Left other)
    cases true = ap (with_recording row.id (measured_in t row)) (album_twice t row.id rows other)
    cases false = refl

-- ---- counts

-- one more is placed
length-placed : {A : Type 0} (number : A → ℕ) (item : A) (xs : List A) → length (placed number item xs) ≡ suc (length xs)
length-placed number item [] = refl
length-placed {A} number item (x ∷ xs) = cases (length-placed number item xs) (nat_lt (number x) (number item))
  where
    cases : length (placed number item xs) ≡ suc (length xs) → (here : Bool)
        → length (cond here (x ∷ placed number item xs) (item ∷ x ∷ xs)) ≡ suc (length (x ∷ xs))
    cases rest true = ap suc rest
    cases rest false = refl

-- how many recordings an album has
pub long_album : (t : Tables) (rows : List RecordingRow) (other : ℕ) → length (album_of t rows other) ≡ member_count other rows
long_album t rows other =
    length-map (members_in other rows) (λ (r : RecordingRow). (r.id, measured_in t r))
    ∙ length-filter (λ (r : RecordingRow). is_in_album other r.album) rows

-- an album that is not crowded with a recording has fewer without it
pub few_put : (t : Tables) (row : RecordingRow) (rows : List RecordingRow) → Ascends recording_less rows
    → IfSome row.album (λ album. member_count album (put recording_less row rows) ≤ MOST_MEMBERS)
    → IsFewIn row.album row.id (album_of t rows)
few_put t row rows rise few = cases row.album refl few
  where
    Left : List RecordingRow
    Left = without recording_id row.id rows

    cases : (album : Option ℕ) → row.album ≡ album → IfSome album (λ a. member_count a (put recording_less row rows) ≤ MOST_MEMBERS)
        → IsFewIn album row.id (album_of t rows)
    cases None is count = tt
    cases (Some album) is count =
        let here : (album == album) ≡ true = grind (arith, nat_tests) in
        let inside : is_in_album album row.album ≡ true = rw is here in
        let has : album_of t (put recording_less row rows) album
        ≡ with_recording row.id (measured_in t row) (album_of t Left album) =
        album_put t row rows album rise ∙ rw inside refl in
        let long = sym (long_album t (put recording_less row rows) album) ∙ ap (λ (l : List (ℕ × Measured)). length l) has
        ∙ length-placed id_of (row.id, measured_in t row) (album_of t Left album) in
        let same = ap (λ (l : List (ℕ × Measured)). length l) (album_without t row.id rows album) in
        omega (arith, long, same, count)

-- ---- sums

-- a recording that is put into an album
pub sum_put : (t next : Tables) (row : RecordingRow) (album : ℕ) → Ascends recording_less t.recordings → PutsRow row t next
    → row.album ≡ Some album
    → with_recording row.id (measured_in next row) (without_recording row.id (album_of t t.recordings album))
    ≡ album_of next next.recordings album
sum_put t next row album rise puts inside =
    let here : (album == album) ≡ true = grind (arith, nat_tests) in
    let in_it : is_in_album album row.album ≡ true = rw inside here in
    ap (with_recording row.id (measured_in next row))
    (sym (album_without t row.id t.recordings album) ∙ sym (album_measured t next row.id t.recordings album puts.others))
    ∙ sym (rw in_it refl)
    ∙ sym (album_put next row t.recordings album rise)
    ∙ ap (λ (l : List RecordingRow). album_of next l album) (sym puts.recordings)

-- one that goes out of it
pub sum_without : (t next : Tables) (album id : ℕ) → Ascends recording_less t.recordings → LeavesAlbum album id t next
    → without_recording id (album_of t t.recordings album) ≡ album_of next next.recordings album
sum_without t next album id rise (inl goes) =
    let row = goes.row in
    let left : without_recording row.id (album_of t t.recordings album) ≡ album_of next next.recordings album =
    sym (album_without t row.id t.recordings album) ∙ sym (album_measured t next row.id t.recordings album goes.puts.others)
    ∙ sym (album_put next row t.recordings album rise ∙ rw goes.outside refl)
    ∙ ap (λ (l : List RecordingRow). album_of next l album) (sym goes.puts.recordings) in
    subst (λ (n : ℕ). without_recording n (album_of t t.recordings album) ≡ album_of next next.recordings album) goes.same left
sum_without t next album id rise (inr drops) =
    sym (album_without t id t.recordings album) ∙ sym (album_measured t next id t.recordings album drops.others)
    ∙ ap (λ (l : List RecordingRow). album_of next l album) (sym drops.recordings)

-- the levels of what an album has are those of its recordings
pub sum_of : (next : Tables) (album : ℕ) (recordings : List (ℕ × Measured)) (summary : Summary)
    → recordings ≡ album_of next next.recordings album → IsAlbumSummary (measured_of recordings) summary → IsSumIn next album summary
sum_of next album recordings summary is sums =
    subst (λ (l : List Measured). IsAlbumSummary l summary) (ap measured_of is ∙ measured_album next next.recordings album) sums

-- a recording that comes into an album, by its id
pub sum_comes : (t next : Tables) (album id : ℕ) (comes : Comes album id t next) → Ascends recording_less t.recordings
    → with_recording id (measured_in next comes.row) (without_recording id (album_of t t.recordings album)) ≡ album_of next next.recordings album
sum_comes t next album id comes rise =
    subst (λ (n : ℕ). with_recording n (measured_in next comes.row) (without_recording n (album_of t t.recordings album))
    ≡ album_of next next.recordings album) comes.same
    (sum_put t next comes.row album rise comes.puts comes.inside)

-- told of what the album has without it
pub sum_moves : (t next : Tables) (album id : ℕ) (comes : Comes album id t next) → Ascends recording_less t.recordings
    → with_recording id (measured_in next comes.row) (without_recording id (album_of t (without recording_id id t.recordings) album))
    ≡ album_of next next.recordings album
sum_moves t next album id comes rise =
    ap (with_recording id (measured_in next comes.row))
    (album_twice t id t.recordings album ∙ album_without t id t.recordings album)
    ∙ sum_comes t next album id comes rise

-- an album that has a place for it is not full without it
pub few_comes : (t next : Tables) (album id : ℕ) → Ascends recording_less t.recordings → Comes album id t next → HasPlaceFor album t next
    → IsFewIn (Some album) id (album_of t t.recordings)
few_comes t next album id rise comes place =
    subst (λ (n : ℕ). IsFewIn (Some album) n (album_of t t.recordings)) comes.same
    (subst (λ (a : Option ℕ). IsFewIn a comes.row.id (album_of t t.recordings)) comes.inside
    (few_put t comes.row t.recordings rise
    (subst (λ (a : Option ℕ). IfSome a (λ n. member_count n (put recording_less comes.row t.recordings) ≤ MOST_MEMBERS)) (sym comes.inside)
    (subst (λ (rs : List RecordingRow). member_count album rs ≤ MOST_MEMBERS) comes.puts.recordings place.few))))
