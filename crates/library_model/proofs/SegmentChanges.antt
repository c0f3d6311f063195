-- The rows of segments of a state of which a recording changes.
use Rattle.std.proofs.Common.{◌≡◌, ◌≢◌, ◌==◌, ◌∙◌, not, ℕ, Bool, true, false, cond, nat_lt, Option, None, Some, List, [], ◌∷◌, refl, sym, ap, subst, arith}
use Rattle.std.specs.List.{AllByRecursion}
use Rattle.std.proofs.lemmas.Bool.Decides.{nat_tests}
use Rattle.keeper_store.specs.Orders.{segments_in_order}
use Rattle.keeper_store.specs.Puts.{Ascends, put, without, segments_less, segments_take}
use Rattle.keeper_store.specs.declared.row_types.SegmentRow.{SegmentRow}
use Rattle.keeper_store.proofs.Dropping.{Ascends-without}
use Rattle.keeper_store.proofs.Putting.{AllByRecursion-put, Ascends-put}
use Rattle.library_model.specs.Machine.{recording_of}
use Rattle.library_model.specs.Stands.{segment_row, segment_rows}
use Rattle.library_model.specs.State.{Recording, recording_before}
use Rattle.library_model.proofs.Imports.{AllByRecursion-weaker}
use Rattle.library_model.proofs.Members.{front_below}
use Rattle.library_model.proofs.Numbers.{below_differs, neither_below, test_differs, test_is, test_itself}
use Rattle.library_model.proofs.SegmentRows.{of_take, of_take-other, of_take-put, rows_with}

-- ---- ascending rows are told apart by what is found under takes

-- under a take below all, nothing is found
found_below : (take : ℕ) (rows : List SegmentRow) → AllByRecursion (λ (s : SegmentRow). nat_lt take s.take ≡ true) rows → of_take take rows ≡ None
found_below take [] above = refl
found_below take (s ∷ rows) above =
    let first = above.0 in
    let other : (s.take == take) ≡ false = grind (arith, nat_tests, first) in rw other (found_below take rows above.1)

-- the first is found under its take
found_first : (s : SegmentRow) (rows : List SegmentRow) → of_take s.take (s ∷ rows) ≡ Some s
found_first s rows = let same : (s.take == s.take) ≡ true = grind (arith, nat_tests) in rw same refl

-- two ascending lists start with one row where they have the same under each take
first_same : (x y : SegmentRow) (xs ys : List SegmentRow) → Ascends segments_less (x ∷ xs) → Ascends segments_less (y ∷ ys)
    → ((take : ℕ) → of_take take (x ∷ xs) ≡ of_take take (y ∷ ys)) → x ≡ y
first_same x y xs ys rise climb same = by_test (nat_lt x.take y.take) (nat_lt y.take x.take) refl refl
  where
    past : (m n : SegmentRow) (rows : List SegmentRow) → nat_lt m.take n.take ≡ true → Ascends segments_less (n ∷ rows)
        → of_take m.take (n ∷ rows) ≡ None
    past m n rows below rise =
        found_below m.take (n ∷ rows) (
          below,
          AllByRecursion-weaker (λ (s : SegmentRow). nat_lt n.take s.take ≡ true)
              (λ (s : SegmentRow). nat_lt m.take s.take ≡ true) rows (λ s after. grind (arith, nat_tests, below)) rise.0,
        )

    by_test : (first second : Bool) → nat_lt x.take y.take ≡ first → nat_lt y.take x.take ≡ second → x ≡ y
    by_test true second below above =
        let none : Some x ≡ None = sym (found_first x xs) ∙ same x.take ∙ past x y ys below climb in absurd (cc none)
    by_test false true below above =
        let none : Some y ≡ None = sym (found_first y ys) ∙ sym (same y.take) ∙ past y x xs above rise in absurd (cc none)
    by_test false false below above =
        let level : (y.take == x.take) ≡ true = grind (arith, nat_tests) in
        let here : of_take x.take (y ∷ ys) ≡ Some y = rw level refl in
        let one : Some x ≡ Some y = sym (found_first x xs) ∙ same x.take ∙ here in cc one

-- Ascending rows that have the same under each take are the same.
pub same_rows : (xs ys : List SegmentRow) → Ascends segments_less xs → Ascends segments_less ys
    → ((take : ℕ) → of_take take xs ≡ of_take take ys) → xs ≡ ys
same_rows [] [] rise climb same = refl
same_rows [] (y ∷ ys) rise climb same = let none : None ≡ Some y = same y.take ∙ found_first y ys in absurd (cc none)
same_rows (x ∷ xs) [] rise climb same = let none : Some x ≡ None = sym (found_first x xs) ∙ same x.take in absurd (cc none)
same_rows (x ∷ xs) (y ∷ ys) rise climb same =
    ap (λ (s : SegmentRow). s ∷ xs) one ∙ ap (λ (l : List SegmentRow). y ∷ l) (same_rows xs ys rise.1 climb.1 (λ take. rest take (x.take == take) refl))
  where
    one : x ≡ y
    one = first_same x y xs ys rise climb same

    behind : (s : SegmentRow) (rows : List SegmentRow) (take : ℕ) → Ascends segments_less (s ∷ rows) → (s.take == take) ≡ true
        → of_take take rows ≡ None
    behind s rows take rise is =
        found_below take rows (AllByRecursion-weaker (λ (r : SegmentRow). nat_lt s.take r.take ≡ true)
        (λ (r : SegmentRow). nat_lt take r.take ≡ true) rows (λ r after. grind (arith, nat_tests, is)) rise.0)

    past : (s : SegmentRow) (rows : List SegmentRow) (take : ℕ) → (s.take == take) ≡ false → of_take take (s ∷ rows) ≡ of_take take rows
    past s rows take is = rw is refl

    rest : (take : ℕ) (here : Bool) → (x.take == take) ≡ here → of_take take xs ≡ of_take take ys
    rest take true is =
        behind x xs take rise is ∙ sym (behind y ys take climb (ap (λ (s : SegmentRow). s.take == take) (sym one) ∙ is))
    rest take false is =
        sym (past x xs take is) ∙ same take ∙ past y ys take (ap (λ (s : SegmentRow). s.take == take) (sym one) ∙ is)

-- ---- rows that are taken out

-- under a take that is taken out nothing is found
found_without : (take : ℕ) (rows : List SegmentRow) → of_take take (without segments_take take rows) ≡ None
found_without take [] = refl
found_without take (s ∷ rows) = cases (s.take == take) refl (found_without take rows)
  where
    cases : (here : Bool) → (s.take == take) ≡ here → of_take take (without segments_take take rows) ≡ None
        → of_take take (cond (not here) (s ∷ without segments_take take rows) (without segments_take take rows)) ≡ None
    cases true is rest = rest
    cases false is rest = rw is rest

-- and under others what was
found_others : (take out : ℕ) (rows : List SegmentRow) → take ≢ out → of_take take (without segments_take out rows) ≡ of_take take rows
found_others take out [] differs = refl
found_others take out (s ∷ rows) differs = cases (s.take == out) refl (found_others take out rows differs)
  where
    unlike : (s.take == out) ≡ true → (s.take == take) ≡ false
    unlike is = grind (arith, nat_tests)

    cases : (here : Bool) → (s.take == out) ≡ here → of_take take (without segments_take out rows) ≡ of_take take rows
        → of_take take (cond (not here) (s ∷ without segments_take out rows) (without segments_take out rows)) ≡ of_take take (s ∷ rows)
    cases true is rest = let other : (s.take == take) ≡ false = unlike is in rw other rest
    cases false is rest = ap (λ (o : Option SegmentRow). cond (s.take == take) (Some s) o) rest

-- what is found under a take where a row is put
found_put : (take : ℕ) (row : SegmentRow) (rows : List SegmentRow) (same : Bool) → (row.take == take) ≡ same
    → of_take take (put segments_less row rows) ≡ cond same (Some row) (of_take take rows)
found_put take row rows true is =
    let one : row.take ≡ take = test_is row.take take is in
    subst (λ (n : ℕ). of_take n (put segments_less row rows) ≡ Some row) one (of_take-put row rows)
found_put take row rows false is = of_take-other take row rows (test_differs row.take take is)

-- ---- puts and drops of other takes change places

-- Rows of two takes are put in either order.
put-put : (a b : SegmentRow) (rows : List SegmentRow) → a.take ≢ b.take → Ascends segments_less rows
    → put segments_less a (put segments_less b rows) ≡ put segments_less b (put segments_less a rows)
put-put a b rows differs rise =
    same_rows (put segments_less a (put segments_less b rows)) (put segments_less b (put segments_less a rows))
    (Ascends-put segments_less segments_in_order a (put segments_less b rows) (Ascends-put segments_less segments_in_order b rows rise))
    (Ascends-put segments_less segments_in_order b (put segments_less a rows) (Ascends-put segments_less segments_in_order a rows rise))
    (λ take. at take (a.take == take) (b.take == take) refl refl)
  where
    at : (take : ℕ) (first second : Bool) → (a.take == take) ≡ first → (b.take == take) ≡ second
        → of_take take (put segments_less a (put segments_less b rows)) ≡ of_take take (put segments_less b (put segments_less a rows))
    at take true true is also = absurd (differs (test_is a.take take is ∙ sym (test_is b.take take also)))
    at take true false is also =
        found_put take a (put segments_less b rows) true is
        ∙ sym (found_put take b (put segments_less a rows) false also ∙ found_put take a rows true is)
    at take false second is also =
        found_put take a (put segments_less b rows) false is ∙ found_put take b rows second also
        ∙ sym (found_put take b (put segments_less a rows) second also ∙ ap (λ (o : Option SegmentRow). cond second (Some b) o) (found_put take a rows false is))

-- A row of another take is put before or after a drop.
without-put : (out : ℕ) (row : SegmentRow) (rows : List SegmentRow) → row.take ≢ out → Ascends segments_less rows
    → without segments_take out (put segments_less row rows) ≡ put segments_less row (without segments_take out rows)
without-put out row rows differs rise =
    same_rows (without segments_take out (put segments_less row rows)) (put segments_less row (without segments_take out rows))
    (Ascends-without segments_less segments_take out (put segments_less row rows) (Ascends-put segments_less segments_in_order row rows rise))
    (Ascends-put segments_less segments_in_order row (without segments_take out rows) (Ascends-without segments_less segments_take out rows rise))
    (λ take. at take (out == take) (row.take == take) refl refl)
  where
    at : (take : ℕ) (gone own : Bool) → (out == take) ≡ gone → (row.take == take) ≡ own
        → of_take take (without segments_take out (put segments_less row rows)) ≡ of_take take (put segments_less row (without segments_take out rows))
    at take true true is also = absurd (differs (test_is row.take take also ∙ sym (test_is out take is)))
    at take true false is also =
        let one : out ≡ take = test_is out take is in
        subst (λ (n : ℕ). of_take n (without segments_take out (put segments_less row rows)) ≡ None) one (found_without out (put segments_less row rows))
        ∙ sym (found_put take row (without segments_take out rows) false also
        ∙ subst (λ (n : ℕ). of_take n (without segments_take out rows) ≡ None) one (found_without out rows))
    at take false own is also =
        let apart : take ≢ out = λ equal. test_differs out take is (sym equal) in
        found_others take out (put segments_less row rows) apart ∙ found_put take row rows own also
        ∙ sym (found_put take row (without segments_take out rows) own also
        ∙ ap (λ (o : Option SegmentRow). cond own (Some row) o) (found_others take out rows apart))

-- where no row has the take, none is dropped
without-no : (out : ℕ) (rows : List SegmentRow) → AllByRecursion (λ (s : SegmentRow). s.take ≢ out) rows → without segments_take out rows ≡ rows
without-no out [] others = refl
without-no out (s ∷ rows) others =
    let unlike = others.0 in
    let differs : (s.take == out) ≡ false = grind (arith, nat_tests, unlike) in
    rw differs (ap (λ (l : List SegmentRow). s ∷ l) (without-no out rows others.1))

-- A row that is put under a new take goes out again with a drop.
without-own : (row : SegmentRow) (rows : List SegmentRow) → Ascends segments_less rows → AllByRecursion (λ (s : SegmentRow). s.take ≢ row.take) rows
    → without segments_take row.take (put segments_less row rows) ≡ rows
without-own row rows rise others =
    same_rows (without segments_take row.take (put segments_less row rows)) rows
    (Ascends-without segments_less segments_take row.take (put segments_less row rows) (Ascends-put segments_less segments_in_order row rows rise))
    rise (λ take. at take (row.take == take) refl)
  where
    none : (rest : List SegmentRow) → AllByRecursion (λ (s : SegmentRow). s.take ≢ row.take) rest → of_take row.take rest ≡ None
    none [] others = refl
    none (s ∷ rest) others =
        let unlike = others.0 in
        let differs : (s.take == row.take) ≡ false = grind (arith, nat_tests, unlike) in rw differs (none rest others.1)

    at : (take : ℕ) (own : Bool) → (row.take == take) ≡ own
        → of_take take (without segments_take row.take (put segments_less row rows)) ≡ of_take take rows
    at take true is =
        let one : row.take ≡ take = test_is row.take take is in
        subst (λ (n : ℕ). of_take n (without segments_take row.take (put segments_less row rows)) ≡ of_take n rows) one
        (found_without row.take (put segments_less row rows) ∙ sym (none rows others))
    at take false is =
        let apart : take ≢ row.take = λ equal. test_differs row.take take is (sym equal) in
        found_others take row.take (put segments_less row rows) apart ∙ found_put take row rows false is

-- ---- the rows of recordings

-- none of these recordings has the take
abbrev pub NoneHas : ℕ → List Recording → Type 0
NoneHas take rs = AllByRecursion (λ (r : Recording). r.take ≢ take) rs

-- A row of another take is put before or after those of recordings.
put-rows_with : (row : SegmentRow) (rows : List SegmentRow) (rs : List Recording) → Ascends segments_less rows → NoneHas row.take rs
    → put segments_less row (rows_with rows rs) ≡ rows_with (put segments_less row rows) rs
put-rows_with row rows [] rise others = refl
put-rows_with row rows (r ∷ rs) rise others =
    put-rows_with row (put segments_less (segment_row r) rows) rs (Ascends-put segments_less segments_in_order (segment_row r) rows rise) others.1
    ∙ ap (λ (l : List SegmentRow). rows_with l rs) (put-put row (segment_row r) rows (λ same. others.0 (sym same)) rise)

-- So is another take dropped.
without-rows_with : (out : ℕ) (rows : List SegmentRow) (rs : List Recording) → Ascends segments_less rows → NoneHas out rs
    → without segments_take out (rows_with rows rs) ≡ rows_with (without segments_take out rows) rs
without-rows_with out rows [] rise others = refl
without-rows_with out rows (r ∷ rs) rise others =
    without-rows_with out (put segments_less (segment_row r) rows) rs (Ascends-put segments_less segments_in_order (segment_row r) rows rise) others.1
    ∙ ap (λ (l : List SegmentRow). rows_with l rs) (without-put out (segment_row r) rows others.0 rise)

-- ---- one recording changes

-- the others behind one have other takes than it
others_behind : (r : Recording) (rest : List Recording) → AllByRecursion (λ (q : Recording). nat_lt r.id q.id ≡ true) rest
    → AllByRecursion (λ (q : Recording). q.id ≢ r.id → q.take ≢ r.take) rest → NoneHas r.take rest
others_behind r [] above others = tt
others_behind r (q ∷ rest) above others =
    (others.0 (λ same. below_differs r.id q.id above.0 (sym same)), others_behind r rest above.1 others.1)

-- the row of a recording in front of others makes way for a new one
retaken_front : (new r : Recording) (rows : List SegmentRow) (rest : List Recording) → Ascends segments_less rows → new.take ≢ r.take
    → AllByRecursion (λ (s : SegmentRow). s.take ≢ r.take) rows → NoneHas new.take rest → NoneHas r.take rest
    → without segments_take r.take (put segments_less (segment_row new) (rows_with (put segments_less (segment_row r) rows) rest))
    ≡ rows_with (put segments_less (segment_row new) rows) rest
retaken_front new r rows rest climb differs none fresh others =
    let own : List SegmentRow = put segments_less (segment_row r) rows in
    let climbs : Ascends segments_less own = Ascends-put segments_less segments_in_order (segment_row r) rows climb in
    let both : List SegmentRow = put segments_less (segment_row new) own in
    let all : Ascends segments_less both = Ascends-put segments_less segments_in_order (segment_row new) own climbs in
    ap (without segments_take r.take) (put-rows_with (segment_row new) own rest climbs fresh)
    ∙ without-rows_with r.take both rest all others
    ∙ ap (λ (l : List SegmentRow). rows_with l rest)
    (without-put r.take (segment_row new) own differs climbs
    ∙ ap (put segments_less (segment_row new)) (without-own (segment_row r) rows climb none))

-- A recording under a new take: the row of its old one is dropped, and the new one is put.
retaken_rows : (id : ℕ) (new r : Recording) (rows : List SegmentRow) (rs : List Recording) → Ascends segments_less rows
    → Ascends recording_before rs → recording_of id rs ≡ Some r → new.id ≡ r.id → new.take ≢ r.take
    → AllByRecursion (λ (s : SegmentRow). s.take ≢ r.take) rows → NoneHas new.take rs
    → AllByRecursion (λ (q : Recording). q.id ≢ r.id → q.take ≢ r.take) rs
    → without segments_take r.take (put segments_less (segment_row new) (rows_with rows rs)) ≡ rows_with rows (put recording_before new rs)
retaken_rows id new r rows [] climb rise found same differs none fresh others = absurd (cc found)
retaken_rows id new r rows (x ∷ rs) climb rise found same differs none fresh others =
    cases (x.id == id)
    (λ is apart. retaken_rows id new r (put segments_less (segment_row x) rows) rs
    (Ascends-put segments_less segments_in_order (segment_row x) rows climb) rise.1 is same differs
    (AllByRecursion-put (λ (s : SegmentRow). s.take ≢ r.take) segments_less (segment_row x) rows apart none) fresh.1 others.1)
    found
  where
    Changed : Recording → List Recording → Type 0
    Changed q after =
        without segments_take r.take (put segments_less (segment_row new) (rows_with (put segments_less (segment_row q) rows) rs))
        ≡ rows_with rows after

    cases : (here : Bool)
        → (recording_of id rs ≡ Some r → x.take ≢ r.take
        → without segments_take r.take (put segments_less (segment_row new) (rows_with (put segments_less (segment_row x) rows) rs))
        ≡ rows_with (put segments_less (segment_row x) rows) (put recording_before new rs))
        → cond here (Some x) (recording_of id rs) ≡ Some r → Changed x (put recording_before new (x ∷ rs))
    cases true rest found =
        let one : x ≡ r = cc found in
        let level = neither_below x.id new.id (same ∙ sym (ap (λ (q : Recording). q.id) one)) in
        let above : AllByRecursion (λ (q : Recording). nat_lt r.id q.id ≡ true) rs =
        subst (λ (z : Recording). AllByRecursion (λ (q : Recording). nat_lt z.id q.id ≡ true) rs) one rise.0 in
        let front : Changed r (new ∷ rs) =
        retaken_front new r rows rs climb differs none fresh.1 (others_behind r rs above others.1) in
        rw (level.0, level.1) (subst (λ (q : Recording). Changed q (new ∷ rs)) (sym one) front)
    cases false rest found =
        let below : nat_lt x.id r.id ≡ true = front_below id x r rs rise found in
        let under : nat_lt x.id new.id ≡ true = subst (λ (n : ℕ). nat_lt x.id n ≡ true) (sym same) below in
        rw under (rest found (others.0 (below_differs x.id r.id below)))

-- So of all recordings.
pub segment_rows-retaken : (id : ℕ) (new r : Recording) (rs : List Recording) → Ascends recording_before rs → recording_of id rs ≡ Some r
    → new.id ≡ r.id → new.take ≢ r.take → NoneHas new.take rs → AllByRecursion (λ (q : Recording). q.id ≢ r.id → q.take ≢ r.take) rs
    → without segments_take r.take (put segments_less (segment_row new) (segment_rows rs)) ≡ segment_rows (put recording_before new rs)
segment_rows-retaken id new r rs rise found same differs fresh others =
    retaken_rows id new r [] rs tt rise found same differs tt fresh others

-- Recordings of one of which another thing than its take and its sound changes have the rows that they had.
same_segments : (id : ℕ) (new r : Recording) (rows : List SegmentRow) (rs : List Recording) → Ascends recording_before rs
    → recording_of id rs ≡ Some r → new.id ≡ r.id → segment_row new ≡ segment_row r
    → rows_with rows (put recording_before new rs) ≡ rows_with rows rs
same_segments id new r rows [] rise found same row = absurd (cc found)
same_segments id new r rows (x ∷ rs) rise found same row =
    cases (x.id == id) (λ is. same_segments id new r (put segments_less (segment_row x) rows) rs rise.1 is same row) found
  where
    cases : (here : Bool)
        → (recording_of id rs ≡ Some r → rows_with (put segments_less (segment_row x) rows) (put recording_before new rs)
        ≡ rows_with (put segments_less (segment_row x) rows) rs)
        → cond here (Some x) (recording_of id rs) ≡ Some r
        → rows_with rows (put recording_before new (x ∷ rs)) ≡ rows_with (put segments_less (segment_row x) rows) rs
    cases true rest found =
        let one : x ≡ r = cc found in
        let level = neither_below x.id new.id (same ∙ sym (ap (λ (q : Recording). q.id) one)) in
        rw (level.0, level.1)
        (ap (λ (s : SegmentRow). rows_with (put segments_less s rows) rs) (row ∙ sym (ap segment_row one)))
    cases false rest found =
        let below : nat_lt x.id r.id ≡ true = front_below id x r rs rise found in
        let under : nat_lt x.id new.id ≡ true = subst (λ (n : ℕ). nat_lt x.id n ≡ true) (sym same) below in
        rw under (rest found)

pub segment_rows-same : (id : ℕ) (new r : Recording) (rs : List Recording) → Ascends recording_before rs → recording_of id rs ≡ Some r
    → new.id ≡ r.id → segment_row new ≡ segment_row r → segment_rows (put recording_before new rs) ≡ segment_rows rs
segment_rows-same id new r rs rise found same row = same_segments id new r [] rs rise found same row

-- recordings of other ids stay where one is taken out
without_others_of : (n : ℕ) (rs : List Recording) → AllByRecursion (λ (q : Recording). nat_lt n q.id ≡ true) rs
    → without (λ (q : Recording). q.id) n rs ≡ rs
without_others_of n [] above = refl
without_others_of n (q ∷ rs) above =
    let after = above.0 in
    let other : (q.id == n) ≡ false = grind (arith, nat_tests, after) in
    rw other (ap (λ (l : List Recording). q ∷ l) (without_others_of n rs above.1))

-- A recording is taken out: the row of its take is dropped.
removed_rows : (id : ℕ) (r : Recording) (rows : List SegmentRow) (rs : List Recording) → Ascends segments_less rows
    → Ascends recording_before rs → recording_of id rs ≡ Some r → AllByRecursion (λ (s : SegmentRow). s.take ≢ r.take) rows
    → AllByRecursion (λ (q : Recording). q.id ≢ r.id → q.take ≢ r.take) rs
    → without segments_take r.take (rows_with rows rs) ≡ rows_with rows (without (λ (q : Recording). q.id) r.id rs)
removed_rows id r rows [] climb rise found none others = absurd (cc found)
removed_rows id r rows (x ∷ rs) climb rise found none others =
    cases (x.id == id)
    (λ is apart. removed_rows id r (put segments_less (segment_row x) rows) rs
    (Ascends-put segments_less segments_in_order (segment_row x) rows climb) rise.1 is
    (AllByRecursion-put (λ (s : SegmentRow). s.take ≢ r.take) segments_less (segment_row x) rows apart none) others.1)
    found
  where
    Removed : Recording → List Recording → Type 0
    Removed q after = without segments_take r.take (rows_with (put segments_less (segment_row q) rows) rs) ≡ rows_with rows after

    unequal : (m n : ℕ) → nat_lt m n ≡ true → (m == n) ≡ false
    unequal m n below = grind (arith, nat_tests)

    cases : (here : Bool)
        → (recording_of id rs ≡ Some r → x.take ≢ r.take
        → without segments_take r.take (rows_with (put segments_less (segment_row x) rows) rs)
        ≡ rows_with (put segments_less (segment_row x) rows) (without (λ (q : Recording). q.id) r.id rs))
        → cond here (Some x) (recording_of id rs) ≡ Some r → Removed x (without (λ (q : Recording). q.id) r.id (x ∷ rs))
    cases true rest found =
        let one : x ≡ r = cc found in
        let above : AllByRecursion (λ (q : Recording). nat_lt r.id q.id ≡ true) rs =
        subst (λ (z : Recording). AllByRecursion (λ (q : Recording). nat_lt z.id q.id ≡ true) rs) one rise.0 in
        let gone : Removed r rs =
        without-rows_with r.take (put segments_less (segment_row r) rows) rs (Ascends-put segments_less segments_in_order (segment_row r) rows climb)
        (others_behind r rs above others.1)
        ∙ ap (λ (l : List SegmentRow). rows_with l rs) (without-own (segment_row r) rows climb none) in
        let here : (x.id == r.id) ≡ true = ap (λ (q : Recording). x.id == q.id) (sym one) ∙ test_itself x.id in
        rw (here, without_others_of r.id rs above) (subst (λ (q : Recording). Removed q rs) (sym one) gone)
    cases false rest found =
        let below : nat_lt x.id r.id ≡ true = front_below id x r rs rise found in
        let other : (x.id == r.id) ≡ false = unequal x.id r.id below in
        rw other (rest found (others.0 (below_differs x.id r.id below)))

-- So of all recordings.
pub segment_rows-removed : (id : ℕ) (r : Recording) (rs : List Recording) → Ascends recording_before rs → recording_of id rs ≡ Some r
    → AllByRecursion (λ (q : Recording). q.id ≢ r.id → q.take ≢ r.take) rs
    → without segments_take r.take (segment_rows rs) ≡ segment_rows (without (λ (q : Recording). q.id) r.id rs)
segment_rows-removed id r rs rise found others = removed_rows id r [] rs tt rise found tt others
