-- How many recordings an album has once one is put, and when it has too many.
use Rattle.std.proofs.Common.{◌≡◌, ◌≢◌, ◌≤◌, ◌+◌, ◌==◌, ◌&&◌, ◌||◌, not, true≢false, ℕ, Bool, true, false, cond, nat_lt, nat_le, Option, None, Some, List, [], ◌∷◌, map, refl, sym, ap, ◌∙◌, subst, arith}
use Rattle.std.specs.List.{AllByRecursion, find}
use Rattle.std.proofs.lemmas.Bool.Decides.{nat_tests}
use Rattle.std.proofs.lemmas.List.Sums.{sum_by-cons}
use Rattle.lib_base.specs.declared.limits.TheConstants.{MOST_MEMBERS}
use Rattle.keeper_store.specs.Puts.{Ascends, put, recording_less}
use Rattle.keeper_store.specs.declared.row_types.AlbumRow.{AlbumRow}
use Rattle.keeper_store.specs.declared.row_types.RecordingRow.{RecordingRow}
use Rattle.keeper_store.proofs.Putting.{map-put}
use Rattle.library_model.specs.Batches.{crowds}
use Rattle.library_model.specs.Machine.{is_crowded}
use Rattle.library_model.specs.RowRules.{album_is_there, has_album, is_in_album, member_count}
use Rattle.library_model.specs.Stands.{recording_row}
use Rattle.library_model.specs.State.{Recording, recording_before}
use Rattle.library_model.proofs.NextTables.{count_of-rows}
use Rattle.library_model.proofs.Numbers.{below_differs, level_is, test_differs, test_is, test_itself}

-- what a recording counts in an album
abbrev pub weight : ℕ → RecordingRow → ℕ
weight id row = cond (is_in_album id row.album) 1 0

-- the count of one row and of those behind it
pub count-cons : (id : ℕ) (r : RecordingRow) (rs : List RecordingRow) → member_count id (r ∷ rs) ≡ weight id r + member_count id rs
count-cons id r rs = sum_by-cons (λ (row : RecordingRow). cond (is_in_album id row.album) 1 0) r rs

-- A new recording counts beside the others.
pub count_new : (id : ℕ) (row : RecordingRow) (rows : List RecordingRow) → find (λ (r : RecordingRow). r.id == row.id) rows ≡ None
    → member_count id (put recording_less row rows) ≡ weight id row + member_count id rows
count_new id row [] none = count-cons id row []
count_new id row (x ∷ rows) none =
    cases (nat_lt x.id row.id) (nat_lt row.id x.id) (x.id == row.id) refl refl refl (count_new id row rows) none
  where
    cases : (first second here : Bool) → nat_lt x.id row.id ≡ first → nat_lt row.id x.id ≡ second → (x.id == row.id) ≡ here
        → (find (λ (r : RecordingRow). r.id == row.id) rows ≡ None
        → member_count id (put recording_less row rows) ≡ weight id row + member_count id rows)
        → cond here (Some x) (find (λ (r : RecordingRow). r.id == row.id) rows) ≡ None
        → member_count id (cond first (x ∷ put recording_less row rows) (cond second (row ∷ x ∷ rows) (row ∷ rows)))
        ≡ weight id row + member_count id (x ∷ rows)
    cases first second true below above is rest none = absurd (cc none)
    cases true second false below above is rest none =
        let one = rest none in omega (arith, one, count-cons id x (put recording_less row rows), count-cons id x rows)
    cases false true false below above is rest none = count-cons id row (x ∷ rows)
    cases false false false below above is rest none = absurd (test_differs x.id row.id is (level_is x.id row.id below above))

-- One that is put over another counts in its place.
pub count_over : (id : ℕ) (row : RecordingRow) (rows : List RecordingRow) (old : RecordingRow) → Ascends recording_less rows
    → find (λ (r : RecordingRow). r.id == row.id) rows ≡ Some old
    → member_count id (put recording_less row rows) + weight id old ≡ weight id row + member_count id rows
count_over id row [] old rise found = absurd (cc found)
count_over id row (x ∷ rows) old rise found =
    cases (nat_lt x.id row.id) (nat_lt row.id x.id) (x.id == row.id) refl refl refl (count_over id row rows old rise.1) found
  where
    later : (rs : List RecordingRow) → nat_lt row.id x.id ≡ true → AllByRecursion (λ (s : RecordingRow). nat_lt x.id s.id ≡ true) rs
        → find (λ (r : RecordingRow). r.id == row.id) rs ≡ Some old → ⊥
    later [] above rise found = absurd (cc found)
    later (s ∷ rs) above rise found =
        let after = rise.0 in
        let other : (s.id == row.id) ≡ false = grind (arith, nat_tests) in
        later rs above rise.1 (rw other at found)

    cases : (first second here : Bool) → nat_lt x.id row.id ≡ first → nat_lt row.id x.id ≡ second → (x.id == row.id) ≡ here
        → (find (λ (r : RecordingRow). r.id == row.id) rows ≡ Some old
        → member_count id (put recording_less row rows) + weight id old ≡ weight id row + member_count id rows)
        → cond here (Some x) (find (λ (r : RecordingRow). r.id == row.id) rows) ≡ Some old
        → member_count id (cond first (x ∷ put recording_less row rows) (cond second (row ∷ x ∷ rows) (row ∷ rows))) + weight id old
        ≡ weight id row + member_count id (x ∷ rows)
    cases true second true below above is rest found = absurd (below_differs x.id row.id below (test_is x.id row.id is))
    cases true second false below above is rest found =
        let one = rest found in omega (arith, one, count-cons id x (put recording_less row rows), count-cons id x rows)
    cases false true true below above is rest found = absurd (below_differs row.id x.id above (sym (test_is x.id row.id is)))
    cases false true false below above is rest found = absurd (later rows above rise.0 found)
    cases false false false below above is rest found = absurd (test_differs x.id row.id is (level_is x.id row.id below above))
    cases false false true below above is rest found =
        let this : x ≡ old = cc found in
        let alike : weight id x ≡ weight id old = ap (weight id) this in
        omega (arith, alike, count-cons id row rows, count-cons id x rows)

-- One that is put over another of its album leaves each count.
pub count_same : (id : ℕ) (row : RecordingRow) (rows : List RecordingRow) (old : RecordingRow) → Ascends recording_less rows
    → find (λ (r : RecordingRow). r.id == row.id) rows ≡ Some old → old.album ≡ row.album
    → member_count id (put recording_less row rows) ≡ member_count id rows
count_same id row rows old rise found same =
    let alike : weight id old ≡ weight id row = ap (λ (album : Option ℕ). cond (is_in_album id album) 1 0) same in
    omega (arith, alike, count_over id row rows old rise found)

-- ---- too many

-- an album that is there has what all have of their ids
pub at_there : (P : ℕ → Type 0) (id : ℕ) (albums : List AlbumRow) → AllByRecursion (λ (a : AlbumRow). P a.id) albums
    → has_album id albums ≡ true → P id
at_there P id [] all there = absurd (true≢false (sym there))
at_there P id (a ∷ albums) all there = cases (a.id == id) refl (at_there P id albums all.1) there
  where
    cases : (here : Bool) → (a.id == id) ≡ here → (has_album id albums ≡ true → P id) → (here || has_album id albums) ≡ true → P id
    cases true same rest there =
        let is : a.id ≡ id = grind (arith, nat_tests) in subst P is all.0
    cases false same rest there = rest there

-- the test of a count after a put is that of the rows
crowded_count : (id : ℕ) (r : Recording) (rs : List Recording)
    → is_crowded (Some id) (put recording_before r rs) ≡ nat_lt MOST_MEMBERS (member_count id (put recording_less (recording_row r) (map recording_row rs)))
crowded_count id r rs =
    ap (λ (n : ℕ). nat_lt MOST_MEMBERS n)
    (sym (count_of-rows id (put recording_before r rs))
    ∙ ap (member_count id) (map-put recording_before recording_less recording_row (λ a b. refl) r rs))

-- one more than the most
more_than : (n m : ℕ) → n ≡ 1 + m → nat_lt MOST_MEMBERS n ≡ nat_le MOST_MEMBERS m
more_than n m is = grind (arith, nat_tests)

-- no more than the most
not_more : (n : ℕ) → n ≤ MOST_MEMBERS → nat_lt MOST_MEMBERS n ≡ false
not_more n few = grind (arith, nat_tests)

-- A new recording crowds an album that is full.
pub crowds_new : (r : Recording) (album : Option ℕ) (rs : List Recording) → r.album ≡ album
    → find (λ (row : RecordingRow). row.id == r.id) (map recording_row rs) ≡ None
    → is_crowded album (put recording_before r rs) ≡ crowds None album (map recording_row rs)
crowds_new r None rs is none = refl
crowds_new r (Some id) rs is none =
    let count : member_count id (put recording_less (recording_row r) (map recording_row rs)) ≡ weight id (recording_row r) + member_count id (map recording_row rs) =
    count_new id (recording_row r) (map recording_row rs) none in
    let inside : is_in_album id r.album ≡ true = ap (is_in_album id) is ∙ test_itself id in
    let one : weight id (recording_row r) ≡ 1 = rw inside refl in
    crowded_count id r rs
    ∙ more_than (member_count id (put recording_less (recording_row r) (map recording_row rs))) (member_count id (map recording_row rs))
    (omega (arith, count, one))

-- One that is put over another crowds an album that is full, where that is another one than its own.
pub crowds_over : (r : Recording) (album : Option ℕ) (old : RecordingRow) (rs : List Recording) (albums : List AlbumRow) → r.album ≡ album
    → Ascends recording_less (map recording_row rs) → find (λ (row : RecordingRow). row.id == r.id) (map recording_row rs) ≡ Some old
    → album_is_there album albums ≡ true
    → AllByRecursion (λ (a : AlbumRow). member_count a.id (map recording_row rs) ≤ MOST_MEMBERS) albums
    → is_crowded album (put recording_before r rs) ≡ crowds old.album album (map recording_row rs)
crowds_over r None old rs albums is rise found there few = refl
crowds_over r (Some id) old rs albums is rise found there few =
    crowded_count id r rs ∙ by_old (is_in_album id old.album) refl
  where
    before : ℕ
    before = member_count id (map recording_row rs)

    after : ℕ
    after = member_count id (put recording_less (recording_row r) (map recording_row rs))

    count : after + weight id old ≡ weight id (recording_row r) + before
    count = count_over id (recording_row r) (map recording_row rs) old rise found

    one : weight id (recording_row r) ≡ 1
    one = let inside : is_in_album id r.album ≡ true = ap (is_in_album id) is ∙ test_itself id in rw inside refl

    by_old : (inside : Bool) → is_in_album id old.album ≡ inside → nat_lt MOST_MEMBERS after ≡ (not inside && nat_le MOST_MEMBERS before)
    by_old true inside =
        let own : weight id old ≡ 1 = rw inside refl in
        let room : before ≤ MOST_MEMBERS = at_there (λ (n : ℕ). member_count n (map recording_row rs) ≤ MOST_MEMBERS) id albums few there in
        not_more after (omega (arith, count, one, own, room))
    by_old false inside =
        let own : weight id old ≡ 0 = rw inside refl in more_than after before (omega (arith, count, one, own))
