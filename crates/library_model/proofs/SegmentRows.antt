-- The rows of segments of a state: each recording's take has its own, and no other is there.
use Rattle.std.proofs.Common.{◌≡◌, ◌≢◌, ◌==◌, ◌||◌, ℕ, Bool, true, false, cond, Option, Some, List, [], ◌∷◌, map, refl, ap, ◌∙◌, arith}
use Rattle.std.specs.Prelude.{fold}
use Rattle.std.specs.List.{AllByRecursion, find}
use Rattle.std.proofs.lemmas.Bool.Decides.{nat_tests}
use Rattle.keeper_store.specs.EnergyBytes.{energies_in}
use Rattle.keeper_store.specs.Puts.{put, segments_less}
use Rattle.keeper_store.specs.declared.row_types.SegmentRow.{SegmentRow}
use Rattle.keeper_store.proofs.Putting.{AllByRecursion-put}
use Rattle.library_model.specs.InOrder.{Differ}
use Rattle.library_model.specs.RowRules.{energies_of_take, has_segments}
use Rattle.library_model.specs.Stands.{segment_row}
use Rattle.library_model.specs.State.{Recording}
use Rattle.library_model.proofs.InOrderLemmas.{AllByRecursion-unmap}

-- the first row of a take
abbrev pub of_take : ℕ → List SegmentRow → Option SegmentRow
of_take take rows = find (λ (s : SegmentRow). s.take == take) rows

-- rows with those of recordings put among them
abbrev pub rows_with : List SegmentRow → List Recording → List SegmentRow
rows_with rows recordings = fold (λ (rows : List SegmentRow) (r : Recording). put segments_less (segment_row r) rows) rows recordings

-- ---- a row that is put is the one of its take, and others stay

pub of_take-put : (row : SegmentRow) (rows : List SegmentRow) → of_take row.take (put segments_less row rows) ≡ Some row
of_take-put row [] =
    let same : (row.take == row.take) ≡ true = grind (arith, nat_tests) in rw same refl
of_take-put row (r ∷ rows) =
    cases (of_take-put row rows) (segments_less r row) (segments_less row r) refl
  where
    same : (row.take == row.take) ≡ true
    same = grind (arith, nat_tests)

    cases : of_take row.take (put segments_less row rows) ≡ Some row → (first second : Bool) → segments_less r row ≡ first
        → of_take row.take (cond first (r ∷ put segments_less row rows) (cond second (row ∷ r ∷ rows) (row ∷ rows))) ≡ Some row
    cases more true second below =
        let other : (r.take == row.take) ≡ false = grind (arith, nat_tests) in rw other more
    cases more false true below = rw same refl
    cases more false false below = rw same refl

pub of_take-other : (take : ℕ) (row : SegmentRow) (rows : List SegmentRow) → row.take ≢ take
    → of_take take (put segments_less row rows) ≡ of_take take rows
of_take-other take row [] differs =
    let other : (row.take == take) ≡ false = grind (arith, nat_tests) in rw other refl
of_take-other take row (r ∷ rows) differs =
    cases (of_take-other take row rows differs) (segments_less r row) (segments_less row r) refl refl
  where
    other : (row.take == take) ≡ false
    other = grind (arith, nat_tests)

    cases : of_take take (put segments_less row rows) ≡ of_take take rows → (first second : Bool)
        → segments_less r row ≡ first → segments_less row r ≡ second
        → of_take take (cond first (r ∷ put segments_less row rows) (cond second (row ∷ r ∷ rows) (row ∷ rows)))
        ≡ cond (r.take == take) (Some r) (of_take take rows)
    cases more true second below above = ap (λ (o : Option SegmentRow). cond (r.take == take) (Some r) o) more
    cases more false true below above = rw other refl
    cases more false false below above =
        let level : (r.take == take) ≡ false = grind (arith, nat_tests) in rw (other, level) refl

-- ---- rows of recordings

of_take-others : (take : ℕ) (rows : List SegmentRow) (recordings : List Recording)
    → AllByRecursion (λ (r : Recording). r.take ≢ take) recordings → of_take take (rows_with rows recordings) ≡ of_take take rows
of_take-others take rows [] others = refl
of_take-others take rows (r ∷ recordings) others =
    of_take-others take (put segments_less (segment_row r) rows) recordings others.1
    ∙ of_take-other take (segment_row r) rows others.0

-- each recording's take has its row
pub of_take-own : (rows : List SegmentRow) (recordings : List Recording) → Differ (map (λ (r : Recording). r.take) recordings)
    → AllByRecursion (λ (r : Recording). of_take r.take (rows_with rows recordings) ≡ Some (segment_row r)) recordings
of_take-own rows [] differ = tt
of_take-own rows (r ∷ recordings) differ = (
  of_take-others r.take (put segments_less (segment_row r) rows) recordings
      (AllByRecursion-unmap (λ (later : ℕ). later ≢ r.take) (λ (r : Recording). r.take) recordings differ.0)
      ∙ of_take-put (segment_row r) rows,
  of_take-own (put segments_less (segment_row r) rows) recordings differ.1,
)

-- what holds of rows, and of those of recordings, holds of all of them
pub AllByRecursion-rows_with : (P : SegmentRow → Type 0) (rows : List SegmentRow) (recordings : List Recording) → AllByRecursion P rows
    → AllByRecursion (λ (r : Recording). P (segment_row r)) recordings → AllByRecursion P (rows_with rows recordings)
AllByRecursion-rows_with P rows [] all others = all
AllByRecursion-rows_with P rows (r ∷ recordings) all others =
    AllByRecursion-rows_with P (put segments_less (segment_row r) rows) recordings
    (AllByRecursion-put P segments_less (segment_row r) rows others.0 all) others.1

-- ---- what the row of a take tells

-- a take of which a row is found has segments
pub has_segments-found : (take : ℕ) (rows : List SegmentRow) (row : SegmentRow) → of_take take rows ≡ Some row → has_segments take rows ≡ true
has_segments-found take [] row is = absurd (cc is)
has_segments-found take (s ∷ rows) row is = cases (s.take == take) (has_segments-found take rows row) is
  where
    cases : (first : Bool) → (of_take take rows ≡ Some row → has_segments take rows ≡ true)
        → cond first (Some s) (of_take take rows) ≡ Some row → (first || has_segments take rows) ≡ true
    cases true rest is = refl
    cases false rest is = rest is

-- and its energies are those of the row
pub energies_of_take-found : (take : ℕ) (rows : List SegmentRow) (row : SegmentRow) → of_take take rows ≡ Some row
    → energies_of_take take rows ≡ energies_in row.energies
energies_of_take-found take [] row is = absurd (cc is)
energies_of_take-found take (s ∷ rows) row is = cases (s.take == take) (energies_of_take-found take rows row) is
  where
    cases : (first : Bool) → (of_take take rows ≡ Some row → energies_of_take take rows ≡ energies_in row.energies)
        → cond first (Some s) (of_take take rows) ≡ Some row
        → cond first (energies_in s.energies) (energies_of_take take rows) ≡ energies_in row.energies
    cases true rest is =
        let same : s ≡ row = cc is in ap (λ (r : SegmentRow). energies_in r.energies) same
    cases false rest is = rest is
