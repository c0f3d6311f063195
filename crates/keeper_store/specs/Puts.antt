-- Rows in the order of a test.
use Rattle.std.specs.Prelude.{◌≡◌, ◌≢◌, ◌≤◌, ◌<◌, ◌==◌, ℕ, Bool, true, false, not, List, [], ◌∷◌, ◌++◌, length, take, drop, filter, slice_index_or, if◌then◌else◌, nat_lt}
use Rattle.std.specs.Cmp.Lexicographic.{slice_cmp}
use Rattle.std.specs.Coded.{Coded-set, coded_bool, ×_prop, →_prop, Unit-prop}
use Rattle.std.specs.List.{AllByRecursion, AllByRecursion-prop}
use Rattle.std.specs.Ordering.{nat_cmp, is_lt}
use Rattle.keeper_store.specs.declared.row_types.AlbumRow.{AlbumRow}
use Rattle.keeper_store.specs.declared.row_types.RecordingRow.{RecordingRow}
use Rattle.keeper_store.specs.declared.row_types.ReplyRow.{ReplyRow}
use Rattle.keeper_store.specs.declared.row_types.SegmentRow.{SegmentRow}

-- a row put in its place among ascending rows: after those that are less, and in place of one that is equal
abbrev pub put : {A : Type 0} → (A → A → Bool) → A → List A → List A
put less row [] = row ∷ []
put less row (r ∷ rs) =
    if less r row then r ∷ put less row rs
    else if less row r then row ∷ r ∷ rs
    else row ∷ rs

-- rows without those of a number
abbrev pub without : {A : Type 0} → (A → ℕ) → ℕ → List A → List A
without number n rows = filter (λ row. not (number row == n)) rows

-- albums ascend by their ids
abbrev pub album_less : AlbumRow → AlbumRow → Bool
album_less a b = nat_lt a.id b.id

-- recordings ascend by their ids
abbrev pub recording_less : RecordingRow → RecordingRow → Bool
recording_less a b = nat_lt a.id b.id

-- segments ascend by their takes
abbrev pub segments_less : SegmentRow → SegmentRow → Bool
segments_less a b = nat_lt a.take b.take

-- replies ascend by the bytes of their tokens
abbrev pub reply_less : ReplyRow → ReplyRow → Bool
reply_less a b = is_lt (slice_cmp nat_cmp a.token b.token)

-- the numbers of rows: ids, and takes of segments
abbrev pub album_id : AlbumRow → ℕ
album_id row = row.id

abbrev pub recording_id : RecordingRow → ℕ
recording_id row = row.id

abbrev pub segments_take : SegmentRow → ℕ
segments_take row = row.take

-- a test of which row comes first
pub record IsOrder {A : Type 0} (less : A → A → Bool) : Type 0 where
  pub chain : (a b c : A) → less a b ≡ true → less b c ≡ true → less a c ≡ true
  -- where neither of two rows comes first, what comes after the one comes after the other
  pub level : (a b c : A) → less a b ≡ false → less b a ≡ false → less b c ≡ true → less a c ≡ true

-- each row comes before all that stand behind it
abbrev pub Ascends : {A : Type 0} → (A → A → Bool) → List A → Type 0
Ascends less [] = Unit {0}
Ascends less (r ∷ rs) = AllByRecursion (λ s. less r s ≡ true) rs × Ascends less rs

-- that rows ascend has one proof at most
pub Ascends-prop : {A : Type 0} (less : A → A → Bool) (xs : List A) → IsProp (Ascends less xs)
Ascends-prop less [] = Unit-prop
Ascends-prop less (r ∷ rs) = ×_prop (AllByRecursion-prop _ (λ s. Coded-set coded_bool _ _) rs) (Ascends-prop less rs)

-- rows ascend, where a test said so
abbrev pub AscendsWhere : {A : Type 0} → Bool → (A → A → Bool) → List A → Type 0
AscendsWhere tested less xs = tested ≡ true → Ascends less xs

pub AscendsWhere-prop : {A : Type 0} (tested : Bool) (less : A → A → Bool) (xs : List A) → IsProp (AscendsWhere tested less xs)
AscendsWhere-prop tested less xs = →_prop (Ascends-prop less xs)

-- the place where a row is put: behind those that are less
pub record IsPlaceOf {A : Type 0} (less : A → A → Bool) (row : A) (xs : List A) (place : ℕ) : Type 0 where
  pub within : place ≤ length xs
  pub splits : put less row xs ≡ take place xs ++ put less row (drop place xs)
  pub stops : (d : A) → place < length xs → less (slice_index_or xs place d) row ≡ false

-- the place of a number: the rows before it have lesser numbers, those from there on have not
pub record IsPlaceOfNumber {A : Type 0} (number : A → ℕ) (n : ℕ) (xs : List A) (place : ℕ) : Type 0 where
  pub within : place ≤ length xs
  pub before : (k : ℕ) (d : A) → k < place → number (slice_index_or xs k d) < n
  pub behind : (k : ℕ) (d : A) → place ≤ k → k < length xs → n ≤ number (slice_index_or xs k d)

-- the row at the place is the first of the number
pub record IsFirstOfNumber {A : Type 0} (number : A → ℕ) (n : ℕ) (xs : List A) (place : ℕ) : Type 0 where
  pub inside : place < length xs
  pub same : (d : A) → number (slice_index_or xs place d) ≡ n
  pub before : (k : ℕ) (d : A) → k < place → number (slice_index_or xs k d) ≢ n
