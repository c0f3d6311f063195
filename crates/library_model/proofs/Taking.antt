-- The takes that a change takes out of a state.
use Rattle.std.proofs.Common.{◌≡◌, ◌≢◌, ◌==◌, ◌∙◌, not, ℕ, Bool, true, false, cond, nat_lt, Some, List, [], ◌∷◌, map, filter, refl, sym, ap, arith}
use Rattle.std.specs.List.{AllByRecursion}
use Rattle.std.proofs.lemmas.Bool.Decides.{nat_tests}
use Rattle.keeper_store.specs.Puts.{Ascends, put, without}
use Rattle.library_model.specs.Machine.{has_take, recording_of}
use Rattle.library_model.specs.State.{Recording, recording_before}
use Rattle.library_model.proofs.Imports.{AllByRecursion-weaker}
use Rattle.library_model.proofs.Looking.{recording_named}
use Rattle.library_model.proofs.Numbers.{below_differs, level_is, or_right, test_differs, test_is, test_itself}

-- ---- rows that are left

-- What all others have and a new row has, all have once it is put.
pub put_others : {A : Type 0} (number : A → ℕ) (P : A → Type 0) (new : A) (xs : List A) → Ascends (λ (a b : A). nat_lt (number a) (number b)) xs
    → P new → AllByRecursion (λ (x : A). number x ≢ number new → P x) xs
    → AllByRecursion P (put (λ (a b : A). nat_lt (number a) (number b)) new xs)
put_others number P new [] rise own others = (own, tt)
put_others {A} number P new (x ∷ xs) rise own others =
    cases (nat_lt (number x) (number new)) (nat_lt (number new) (number x)) refl refl (put_others number P new xs rise.1 own others.1)
  where
    less : A → A → Bool
    less a b = nat_lt (number a) (number b)

    behind : (m n k : ℕ) → nat_lt m n ≡ false → nat_lt m k ≡ true → k ≢ n
    behind m n k level above same = grind (arith, nat_tests)

    rest_of : (rest : List A) → nat_lt (number x) (number new) ≡ false → AllByRecursion (λ (y : A). less x y ≡ true) rest
        → AllByRecursion (λ (y : A). number y ≢ number new → P y) rest → AllByRecursion P rest
    rest_of [] level rise others = tt
    rest_of (y ∷ rest) level rise others =
        (others.0 (behind (number x) (number new) (number y) level rise.0), rest_of rest level rise.1 others.1)

    cases : (first second : Bool) → nat_lt (number x) (number new) ≡ first → nat_lt (number new) (number x) ≡ second
        → AllByRecursion P (put less new xs) → AllByRecursion P (cond first (x ∷ put less new xs) (cond second (new ∷ x ∷ xs) (new ∷ xs)))
    cases true second below above all = (others.0 (below_differs (number x) (number new) below), all)
    cases false true below above all =
        (own, (others.0 (λ same. below_differs (number new) (number x) above (sym same)), rest_of xs below rise.0 others.1))
    cases false false below above all = (own, rest_of xs below rise.0 others.1)

-- What all others have, all have that are left once those of a number are taken out.
pub without_others : {A : Type 0} (number : A → ℕ) (P : A → Type 0) (n : ℕ) (xs : List A) → AllByRecursion (λ (x : A). number x ≢ n → P x) xs
    → AllByRecursion P (without number n xs)
without_others number P n [] others = tt
without_others {A} number P n (x ∷ xs) others = cases (number x == n) refl (without_others number P n xs others.1)
  where
    cases : (here : Bool) → (number x == n) ≡ here → AllByRecursion P (without number n xs)
        → AllByRecursion P (cond (not here) (x ∷ without number n xs) (without number n xs))
    cases true is all = all
    cases false is all = (others.0 (test_differs (number x) n is), all)

-- ---- which takes are there

-- where no recording has a take, it is not there
pub no_take : (take : ℕ) (rs : List Recording) → AllByRecursion (λ (r : Recording). r.take ≢ take) rs → has_take take rs ≡ false
no_take take [] others = refl
no_take take (r ∷ rs) others =
    let unlike = others.0 in
    let differs : (r.take == take) ≡ false = grind (arith, nat_tests, unlike) in rw differs (no_take take rs others.1)

-- a take that is there among others is there
has_more : (take : ℕ) (r : Recording) (rs : List Recording) → has_take take rs ≡ true → has_take take (r ∷ rs) ≡ true
has_more take r rs there = or_right (r.take == take) (has_take take rs) there

-- each recording's take is there
pub own_takes : (rs : List Recording) → AllByRecursion (λ (r : Recording). has_take r.take rs ≡ true) rs
own_takes [] = tt
own_takes (r ∷ rs) = (
  (let here = test_itself r.take in rw here refl),
  AllByRecursion-weaker (λ (q : Recording). has_take q.take rs ≡ true) (λ (q : Recording). has_take q.take (r ∷ rs) ≡ true) rs
      (λ q there. has_more q.take r rs there) (own_takes rs),
)

-- The take of a recording that is put is there.
pub put_own_take : (new : Recording) (rs : List Recording) → has_take new.take (put recording_before new rs) ≡ true
put_own_take new [] = let here = test_itself new.take in rw here refl
put_own_take new (r ∷ rs) = cases (nat_lt r.id new.id) (nat_lt new.id r.id) (put_own_take new rs)
  where
    cases : (first second : Bool) → has_take new.take (put recording_before new rs) ≡ true
        → has_take new.take (cond first (r ∷ put recording_before new rs) (cond second (new ∷ r ∷ rs) (new ∷ rs))) ≡ true
    cases true second rest = has_more new.take r (put recording_before new rs) rest
    cases false true rest = let here = test_itself new.take in rw here refl
    cases false false rest = let here = test_itself new.take in rw here refl

-- Takes of others stay where a recording is put.
pub put_keeps_takes : (new : Recording) (rs : List Recording)
    → AllByRecursion (λ (q : Recording). q.id ≢ new.id → has_take q.take (put recording_before new rs) ≡ true) rs
put_keeps_takes new [] = tt
put_keeps_takes new (r ∷ rs) = cases (nat_lt r.id new.id) (nat_lt new.id r.id) refl refl (put_keeps_takes new rs)
  where
    Left : List Recording → Recording → Type 0
    Left us q = q.id ≢ new.id → has_take q.take us ≡ true

    stay : (us : List Recording) → ((q : Recording) → has_take q.take rs ≡ true → has_take q.take us ≡ true) → AllByRecursion (Left us) rs
    stay us more =
        AllByRecursion-weaker (λ (q : Recording). has_take q.take rs ≡ true) (Left us) rs (λ q there apart. more q there) (own_takes rs)

    cases : (first second : Bool) → nat_lt r.id new.id ≡ first → nat_lt new.id r.id ≡ second
        → AllByRecursion (Left (put recording_before new rs)) rs
        → AllByRecursion (Left (cond first (r ∷ put recording_before new rs) (cond second (new ∷ r ∷ rs) (new ∷ rs)))) (r ∷ rs)
    cases true second below above rest = (
      (λ _. let here = test_itself r.take in rw here refl),
      AllByRecursion-weaker (Left (put recording_before new rs)) (Left (r ∷ put recording_before new rs)) rs
          (λ q left apart. has_more q.take r (put recording_before new rs) (left apart)) rest,
    )
    cases false true below above rest = (
      (λ _. has_more r.take new (r ∷ rs) (own_takes (r ∷ rs)).0),
      stay (new ∷ r ∷ rs) (λ q there. has_more q.take new (r ∷ rs) (has_more q.take r rs there)),
    )
    cases false false below above rest =
        (λ apart. absurd (apart (level_is r.id new.id below above)), stay (new ∷ rs) (λ q there. has_more q.take new rs there))

-- So they do where those of an id are taken out.
pub without_keeps_takes : (n : ℕ) (rs : List Recording)
    → AllByRecursion (λ (q : Recording). q.id ≢ n → has_take q.take (without (λ (r : Recording). r.id) n rs) ≡ true) rs
without_keeps_takes n [] = tt
without_keeps_takes n (r ∷ rs) = cases (r.id == n) refl (without_keeps_takes n rs)
  where
    Left : List Recording → Recording → Type 0
    Left us q = q.id ≢ n → has_take q.take us ≡ true

    us : List Recording
    us = without (λ (q : Recording). q.id) n rs

    cases : (here : Bool) → (r.id == n) ≡ here → AllByRecursion (Left us) rs → AllByRecursion (Left (cond (not here) (r ∷ us) us)) (r ∷ rs)
    cases true is rest = (λ apart. absurd (apart (test_is r.id n is)), rest)
    cases false is rest = (
      (λ _. let here = test_itself r.take in rw here refl),
      AllByRecursion-weaker (Left us) (Left (r ∷ us)) rs (λ q left apart. has_more q.take r us (left apart)) rest,
    )

-- ---- what is taken out

-- the takes of recordings that others no longer have
abbrev pub gone : List Recording → List Recording → List ℕ
gone rs us = filter (λ take. not (has_take take us)) (map (λ (r : Recording). r.take) rs)

-- Nothing is taken out where each take is still there.
pub gone_none : (rs us : List Recording) → AllByRecursion (λ (q : Recording). has_take q.take us ≡ true) rs → gone rs us ≡ []
gone_none [] us there = refl
gone_none (r ∷ rs) us there = rw there.0 (gone_none rs us there.1)

-- Where the others' takes are still there and its own is not, the take of the recording that was found is taken out.
pub gone_one : (id : ℕ) (rs us : List Recording) (r : Recording) → Ascends recording_before rs → recording_of id rs ≡ Some r
    → AllByRecursion (λ (q : Recording). q.id ≢ r.id → has_take q.take us ≡ true) rs → has_take r.take us ≡ false
    → gone rs us ≡ r.take ∷ []
gone_one id [] us r rise found others own = absurd (cc found)
gone_one id (x ∷ rs) us r rise found others own =
    cases (x.id == id) refl (λ (is : recording_of id rs ≡ Some r). gone_one id rs us r rise.1 is others.1 own) found
  where
    -- the others of x
    behind : (rest : List Recording) → x.id ≡ r.id → AllByRecursion (λ (q : Recording). nat_lt x.id q.id ≡ true) rest
        → AllByRecursion (λ (q : Recording). q.id ≢ r.id → has_take q.take us ≡ true) rest
        → AllByRecursion (λ (q : Recording). has_take q.take us ≡ true) rest
    behind [] same above others = tt
    behind (q ∷ rest) same above others =
        (others.0 (λ equal. below_differs x.id q.id above.0 (same ∙ sym equal)), behind rest same above.1 others.1)

    cases : (here : Bool) → (x.id == id) ≡ here → (recording_of id rs ≡ Some r → gone rs us ≡ r.take ∷ [])
        → cond here (Some x) (recording_of id rs) ≡ Some r → gone (x ∷ rs) us ≡ r.take ∷ []
    cases true is rest found =
        let one : x ≡ r = cc found in
        let out : has_take x.take us ≡ false = ap (λ (z : Recording). has_take z.take us) one ∙ own in
        let same : x.id ≡ r.id = ap (λ (z : Recording). z.id) one in
        let none : gone rs us ≡ [] = gone_none rs us (behind rs same rise.0 others.1) in
        rw (out, none) (ap (λ (z : Recording). z.take ∷ []) one)
    cases false is rest found =
        let in_it : has_take x.take us ≡ true =
        others.0 (λ equal. test_differs x.id id is (equal ∙ recording_named id rs r found)) in
        rw in_it (rest found)
