-- The recordings of albums that a change leaves, and the levels that stay with them.
use Rattle.std.proofs.Common.{◌≡◌, ◌≢◌, ◌==◌, ◌||◌, ◌∙◌, not, true≢false, ℕ, Bool, true, false, cond, nat_lt, Option, None, Some, List, [], ◌∷◌, inl, inr, ◌⊎◌, refl, sym, ap, subst, if◌then◌else◌}
use Rattle.std.specs.List.{AllByRecursion}
use Rattle.keeper_store.specs.Puts.{Ascends, put, without}
use Rattle.sound_model.specs.Albums.{IsAlbumSummary}
use Rattle.library_model.specs.Batches.{ids_in, moved}
use Rattle.library_model.specs.Machine.{recording_of}
use Rattle.library_model.specs.RowRules.{is_in_album}
use Rattle.library_model.specs.Stands.{IsSummed, measured_all, members}
use Rattle.library_model.specs.State.{Album, Recording, recording_before}
use Rattle.library_model.proofs.Closing.{ButFor, is_among}
use Rattle.library_model.proofs.Imports.{AllByRecursion-weaker}
use Rattle.library_model.proofs.Looking.{find_has, recording_named}
use Rattle.library_model.proofs.Numbers.{below_differs, level_is, neither_below, or_neither, test_differs, test_is}

-- ---- one recording of an id

-- a recording in front of the one that is found has a lesser id
pub front_below : (id : ℕ) (x r : Recording) (rs : List Recording) → Ascends recording_before (x ∷ rs) → recording_of id rs ≡ Some r
    → nat_lt x.id r.id ≡ true
front_below id x r rs rise found =
    (find_has (λ (q : Recording). q.id) (λ (q : Recording). nat_lt x.id q.id ≡ true) id rs r rise.0 found).0

-- Of ascending recordings, the one that is found is the only one of its id.
pub only_found : (id : ℕ) (rs : List Recording) (r : Recording) → Ascends recording_before rs → recording_of id rs ≡ Some r
    → AllByRecursion (λ (q : Recording). q.id ≡ r.id → q ≡ r) rs
only_found id [] r rise found = tt
only_found id (x ∷ rs) r rise found = cases (x.id == id) refl (only_found id rs r rise.1) found
  where
    cases : (here : Bool) → (x.id == id) ≡ here
        → (recording_of id rs ≡ Some r → AllByRecursion (λ (q : Recording). q.id ≡ r.id → q ≡ r) rs)
        → cond here (Some x) (recording_of id rs) ≡ Some r → AllByRecursion (λ (q : Recording). q.id ≡ r.id → q ≡ r) (x ∷ rs)
    cases true is rest found =
        let one : x ≡ r = cc found in
        let same : x.id ≡ r.id = ap (λ (z : Recording). z.id) one in (
          λ _. one,
          AllByRecursion-weaker (λ (q : Recording). nat_lt x.id q.id ≡ true) (λ (q : Recording). q.id ≡ r.id → q ≡ r) rs
              (λ q above equal. absurd (below_differs x.id q.id above (same ∙ sym equal))) rise.0,
        )
    cases false is rest found =
        (λ equal. absurd (test_differs x.id id is (equal ∙ recording_named id rs r found)), rest found)

-- So what it has, each one of its id has.
pub all_found : (P : Recording → Type 0) (id : ℕ) (rs : List Recording) (r : Recording) → Ascends recording_before rs
    → recording_of id rs ≡ Some r → P r → AllByRecursion (λ (q : Recording). q.id ≡ r.id → P q) rs
all_found P id rs r rise found has =
    AllByRecursion-weaker (λ (q : Recording). q.id ≡ r.id → q ≡ r) (λ (q : Recording). q.id ≡ r.id → P q) rs
    (λ q one equal. subst P (sym (one equal)) has) (only_found id rs r rise found)

-- A recording put over itself changes nothing.
pub put_found : (id : ℕ) (rs : List Recording) (r : Recording) → Ascends recording_before rs → recording_of id rs ≡ Some r
    → put recording_before r rs ≡ rs
put_found id [] r rise found = absurd (cc found)
put_found id (x ∷ rs) r rise found = cases (x.id == id) refl (put_found id rs r rise.1) found
  where
    cases : (here : Bool) → (x.id == id) ≡ here → (recording_of id rs ≡ Some r → put recording_before r rs ≡ rs)
        → cond here (Some x) (recording_of id rs) ≡ Some r → put recording_before r (x ∷ rs) ≡ x ∷ rs
    cases true is rest found =
        let one : x ≡ r = cc found in
        subst (λ (z : Recording). put recording_before z (x ∷ rs) ≡ x ∷ rs) one (rw (neither_below x.id x.id refl).0 refl)
    cases false is rest found =
        rw (front_below id x r rs rise found) (ap (λ (l : List Recording). x ∷ l) (rest found))

-- ---- members

-- A recording that is put outside an album, over none in it, leaves its members.
pub members-put : (id : ℕ) (r : Recording) (rs : List Recording) → is_in_album id r.album ≡ false
    → AllByRecursion (λ (q : Recording). q.id ≡ r.id → is_in_album id q.album ≡ false) rs
    → members id (put recording_before r rs) ≡ members id rs
members-put id r [] outside own = rw outside refl
members-put id r (x ∷ rs) outside own =
    cases (nat_lt x.id r.id) (nat_lt r.id x.id) refl refl (members-put id r rs outside own.1)
  where
    cases : (first second : Bool) → nat_lt x.id r.id ≡ first → nat_lt r.id x.id ≡ second
        → members id (put recording_before r rs) ≡ members id rs
        → members id (cond first (x ∷ put recording_before r rs) (cond second (r ∷ x ∷ rs) (r ∷ rs))) ≡ members id (x ∷ rs)
    cases true second below above rest = ap (λ (l : List Recording). cond (is_in_album id x.album) (x ∷ l) l) rest
    cases false true below above rest = rw outside refl
    cases false false below above rest =
        let also : is_in_album id x.album ≡ false = own.0 (level_is x.id r.id below above) in rw (outside, also) refl

-- Recordings that are taken out, none of which is in an album, leave its members.
pub members-without : (id n : ℕ) (rs : List Recording) → AllByRecursion (λ (q : Recording). q.id ≡ n → is_in_album id q.album ≡ false) rs
    → members id (without (λ (q : Recording). q.id) n rs) ≡ members id rs
members-without id n [] own = refl
members-without id n (x ∷ rs) own = cases (x.id == n) refl (members-without id n rs own.1)
  where
    cases : (here : Bool) → (x.id == n) ≡ here → members id (without (λ (q : Recording). q.id) n rs) ≡ members id rs
        → members id (cond (not here) (x ∷ without (λ (q : Recording). q.id) n rs) (without (λ (q : Recording). q.id) n rs))
        ≡ members id (x ∷ rs)
    cases true is rest = let also : is_in_album id x.album ≡ false = own.0 (test_is x.id n is) in rw also rest
    cases false is rest = ap (λ (l : List Recording). cond (is_in_album id x.album) (x ∷ l) l) rest

-- ---- levels

-- Albums whose recordings a change leaves keep their levels, so all have theirs but those whose recordings change.
pub Resums-kept : (rs us : List Recording) (ids : List ℕ) (albums : List Album)
    → ((id : ℕ) → is_among id ids ≡ false → members id us ≡ members id rs) → AllByRecursion (IsSummed rs) albums
    → AllByRecursion (ButFor ids (IsSummed us)) albums
Resums-kept rs us ids albums same summed =
    AllByRecursion-weaker (IsSummed rs) (ButFor ids (IsSummed us)) albums
    (λ a has outside. subst (λ (ms : List Recording). IsAlbumSummary (measured_all ms) a.summary) (sym (same a.id outside)) has) summed

-- ---- which albums change

-- another album than the one that is named has nothing of it
pub ids_outside : (album : Option ℕ) (id : ℕ) → is_among id (ids_in album) ≡ false → is_in_album id album ≡ false
ids_outside None id outside = refl
ids_outside (Some a) id outside = (or_neither (a == id) false outside).0

-- nor of the two between which a recording moves, where these differ
pub moved_outside : (from to : Option ℕ) (id : ℕ) → is_among id (moved from to) ≡ false
    → ((is_in_album id from ≡ false) × (is_in_album id to ≡ false)) ⊎ (from ≡ to)
moved_outside None to id outside = inl (refl, ids_outside to id outside)
moved_outside (Some from) None id outside = inl ((or_neither (from == id) false outside).0, refl)
moved_outside (Some from) (Some to) id outside = by_test (from == to) (nat_lt from to) refl outside
  where
    same : (from == to) ≡ true → Some from ≡ Some to
    same is = ap (λ (n : ℕ). Some n) (test_is from to is)

    both : (m n : ℕ) → is_among id (m ∷ n ∷ []) ≡ false → ((m == id) ≡ false) × ((n == id) ≡ false)
    both m n outside =
        let first = or_neither (m == id) ((n == id) || false) outside in (first.0, (or_neither (n == id) false first.1).0)

    by_test : (equal below : Bool) → (from == to) ≡ equal
        → is_among id (if equal then [] else if below then from ∷ to ∷ [] else to ∷ from ∷ []) ≡ false
        → ((is_in_album id (Some from) ≡ false) × (is_in_album id (Some to) ≡ false)) ⊎ (Some from ≡ Some to)
    by_test true below is outside = inr (same is)
    by_test false true is outside = inl (both from to outside)
    by_test false false is outside = let pair = both to from outside in inl (pair.1, pair.0)

-- a test that passes alone, or else nothing does
alone : (here : Bool) → (here || false) ≡ true → here ≡ true
alone true is = refl
alone false is = is

-- Each of the albums that get other levels as a recording moves has it before or after, and not both.
pub moved_inside : (from to : Option ℕ) (id : ℕ) → is_among id (moved from to) ≡ true → is_in_album id from ≢ is_in_album id to
moved_inside None None id among same = true≢false (sym among)
moved_inside None (Some to) id among same = true≢false (sym (alone (to == id) among) ∙ sym same)
moved_inside (Some from) None id among same = true≢false (sym (alone (from == id) among) ∙ same)
moved_inside (Some from) (Some to) id among same = by_test (from == to) (nat_lt from to) refl among
  where
    apart : (from == to) ≡ false → (from == id) ≡ true → (to == id) ≡ true → ⊥
    apart differ first second = test_differs from to differ (test_is from id first ∙ sym (test_is to id second))

    both : (a b : Bool) → (a || (b || false)) ≡ true → a ≡ b → (a ≡ true) × (b ≡ true)
    both true true is same = (refl, refl)
    both true false is same = absurd (true≢false same)
    both false true is same = absurd (true≢false (sym same))
    both false false is same = absurd (true≢false (sym is))

    by_test : (equal below : Bool) → (from == to) ≡ equal
        → is_among id (if equal then [] else if below then from ∷ to ∷ [] else to ∷ from ∷ []) ≡ true → ⊥
    by_test true below is among = true≢false (sym among)
    by_test false true is among = let pair = both (from == id) (to == id) among same in apart is pair.0 pair.1
    by_test false false is among = let pair = both (to == id) (from == id) among (sym same) in apart is pair.1 pair.0
