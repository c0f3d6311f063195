-- Items put in their places by numbers that ascend, and taken out.
use Rattle.std.proofs.Common.{◌≡◌, ◌<◌, ◌≤◌, ◌+◌, ℕ, zero, suc, Bool, true, false, not, List, [], ◌∷◌, ◌++◌, map, filter, length, take, drop, get_or, insert, remove, nat_lt, ◌==◌, cond, refl, sym, ap, ◌∙◌, subst, arith, inl, inr, ◌⊎◌, Contains, All}
use Rattle.std.specs.List.{AllPairs}
use Rattle.std.specs.List.Sorted.{IsNonDecreasingBy}
use Rattle.std.proofs.lemmas.Bool.{cases_lt}
use Rattle.std.proofs.lemmas.Bool.Decides.{nat_tests}
use Rattle.std.proofs.lemmas.List.Elements.{All-cons, All-head, All-tail, All-nil}
use Rattle.std.proofs.lemmas.List.Kept.{AllPairs-cons}
use Rattle.album_merge.specs.Members.{AscendBy, placed, without}

-- what ascends from its second item on, and what its first item is below
AscendBy-tail : {A : Type 0} (number : A → ℕ) (x : A) (xs : List A) → AscendBy number (x ∷ xs) → AscendBy number xs
AscendBy-tail number x xs ascend = λ i j d less within. ascend (suc i) (suc j) d (omega arith) (omega arith)

AscendBy-head : {A : Type 0} (number : A → ℕ) (x : A) (xs : List A) → AscendBy number (x ∷ xs) → All (λ y. number x < number y) xs
AscendBy-head number x xs ascend = λ k d within. ascend 0 (suc k) d (omega arith) (omega arith)

-- an item put in before the first that has no lesser number
pub placed_before : {A : Type 0} (number : A → ℕ) (item : A) (p : ℕ) (xs : List A) → p ≤ length xs
    → ((k : ℕ) (d : A) → k < p → number (get_or xs k d) < number item)
    → ((k : ℕ) (d : A) → p ≤ k → k < length xs → number item ≤ number (get_or xs k d))
    → placed number item xs ≡ insert xs p item
placed_before number item zero [] inside below above = refl
placed_before number item zero (x ∷ xs) inside below above =
    let first : number item ≤ number x = above 0 x (omega arith) (omega arith) in
    let test : nat_lt (number x) (number item) ≡ false = grind (arith, nat_tests, first) in
    rw test refl
placed_before number item (suc p) [] inside below above = absurd (omega arith)
placed_before number item (suc p) (x ∷ xs) inside below above =
    let first : number x < number item = below 0 x (omega arith) in
    let test : nat_lt (number x) (number item) ≡ true = grind (arith, nat_tests, first) in
    let rest = placed_before number item p xs (omega arith) (λ k d less. below (suc k) d (omega arith))
    (λ k d more within. above (suc k) d (omega arith) (omega arith)) in
    rw test (ap (λ ys. x ∷ ys) rest)

-- what holds of an item and of all others holds with it in its place
pub All-placed : {A : Type 0} (P : A → Type 0) (number : A → ℕ) (item : A) (xs : List A) → P item → All P xs → All P (placed number item xs)
All-placed P number item [] holds all = All-cons P item [] holds (All-nil P)
All-placed P number item (x ∷ xs) holds all =
    let rest = All-placed P number item xs holds (All-tail P x xs all) in
    elim (nat_lt (number x) (number item)) as (λ b. All P (cond b (x ∷ placed number item xs) (item ∷ x ∷ xs))) [
      | true ↦ All-cons P x (placed number item xs) (All-head P x xs all) rest
      | false ↦ All-cons P item (x ∷ xs) holds all
    ]

-- items ascend with one in its place whose number none of them has
pub AscendBy-placed : {A : Type 0} (number : A → ℕ) (item : A) (xs : List A) → AscendBy number xs
    → All (λ x. number x ≡ number item → ⊥) xs → AscendBy number (placed number item xs)
AscendBy-placed number item [] ascend fresh = λ i j d less within. absurd (omega arith)
AscendBy-placed {A} number item (x ∷ xs) ascend fresh =
    let rest = AscendBy-placed number item xs (AscendBy-tail number x xs ascend) (All-tail (λ y. number y ≡ number item → ⊥) x xs fresh) in
    at rest (AscendBy-head number x xs ascend) (All-head (λ y. number y ≡ number item → ⊥) x xs fresh) (nat_lt (number x) (number item)) refl
  where
    at : AscendBy number (placed number item xs) → All (λ y. number x < number y) xs → (number x ≡ number item → ⊥)
        → (b : Bool) → nat_lt (number x) (number item) ≡ b → AscendBy number (cond b (x ∷ placed number item xs) (item ∷ x ∷ xs))
    at rest above other true test =
        let less : number x < number item = grind (arith, nat_tests, test) in
        AllPairs-cons (λ y z. number y < number z) x (placed number item xs) (All-placed (λ y. number x < number y) number item xs less above) rest
    at rest above other false test =
        let less : number item < number x = grind (arith, nat_tests, test, other) in
        let later : All (λ y. number item < number y) xs = λ k d within. let next = above k d within in omega arith in
        AllPairs-cons (λ y z. number y < number z) item (x ∷ xs) (All-cons (λ y. number item < number y) x xs less later) ascend

-- the item is among them
pub Contains-placed : {A : Type 0} (number : A → ℕ) (item : A) (xs : List A) → Contains (placed number item xs) item
Contains-placed number item [] = (0, omega arith, refl)
Contains-placed {A} number item (x ∷ xs) = at (Contains-placed number item xs) (nat_lt (number x) (number item))
  where
    at : Contains (placed number item xs) item → (b : Bool) → Contains (cond b (x ∷ placed number item xs) (item ∷ x ∷ xs)) item
    at rest true = (suc rest.0, omega arith, rest.2)
    at rest false = (0, omega arith, refl)

-- the numbers, with one in its place
pub map-placed : {A : Type 0} (number : A → ℕ) (item : A) (xs : List A)
    → map number (placed number item xs) ≡ placed (λ (n : ℕ). n) (number item) (map number xs)
map-placed number item [] = refl
map-placed number item (x ∷ xs) =
    let rest = map-placed number item xs in
    elim (nat_lt (number x) (number item)) as (λ b. map number (cond b (x ∷ placed number item xs) (item ∷ x ∷ xs))
    ≡ cond b (number x ∷ placed (λ (n : ℕ). n) (number item) (map number xs)) (number item ∷ number x ∷ map number xs)) [
      | true ↦ ap (λ (ns : List ℕ). number x ∷ ns) rest
      | false ↦ refl
    ]

-- the numbers, without one
pub map-without : {A : Type 0} (number : A → ℕ) (n : ℕ) (xs : List A) → map number (without number n xs) ≡ without (λ (m : ℕ). m) n (map number xs)
map-without number n [] = refl
map-without number n (x ∷ xs) =
    let rest = map-without number n xs in
    elim (not (number x == n)) as (λ b. map number (cond b (x ∷ without number n xs) (without number n xs))
    ≡ cond b (number x ∷ without (λ (m : ℕ). m) n (map number xs)) (without (λ (m : ℕ). m) n (map number xs))) [
      | true ↦ ap (λ (ns : List ℕ). number x ∷ ns) rest
      | false ↦ rest
    ]

-- where none has the number, none goes
pub without_none : {A : Type 0} (number : A → ℕ) (n : ℕ) (xs : List A) → All (λ x. number x ≡ n → ⊥) xs → without number n xs ≡ xs
without_none number n [] other = refl
without_none number n (x ∷ xs) other =
    let first = All-head (λ y. number y ≡ n → ⊥) x xs other in
    let test : (number x == n) ≡ false = grind (arith, nat_tests, first) in
    rw test (ap (λ ys. x ∷ ys) (without_none number n xs (All-tail (λ y. number y ≡ n → ⊥) x xs other)))

-- the one with the number at a place goes, where the items ascend
pub without_at : {A : Type 0} (number : A → ℕ) (n p : ℕ) (xs : List A) → AscendBy number xs → p < length xs
    → ((d : A) → number (get_or xs p d) ≡ n) → without number n xs ≡ remove xs p
without_at number n p [] ascend inside is = absurd (omega arith)
without_at number n zero (x ∷ xs) ascend inside is =
    let first : number x ≡ n = is x in
    let test : (number x == n) ≡ true = grind (arith, nat_tests, first) in
    let above = AscendBy-head number x xs ascend in
    rw test (without_none number n xs (λ k d within same. let more = above k d within in absurd (omega arith)))
without_at number n (suc p) (x ∷ xs) ascend inside is =
    let later : number x < number (get_or xs p x) = ascend 0 (suc p) x (omega arith) inside in
    let same : number (get_or xs p x) ≡ n = is x in
    let test : (number x == n) ≡ false = grind (arith, nat_tests, later, same) in
    rw test (ap (λ ys. x ∷ ys) (without_at number n p xs (AscendBy-tail number x xs ascend) (omega arith) is))

-- put back in its place, the items are as they were
pub placed_back : {A : Type 0} (number : A → ℕ) (item : A) (p : ℕ) (xs : List A) → AscendBy number xs → p < length xs → get_or xs p item ≡ item
    → placed number item (remove xs p) ≡ xs
placed_back number item p [] ascend inside is = absurd (omega arith)
placed_back number item zero (x ∷ xs) ascend inside is = rw (sym is) (first xs (AscendBy-head number x xs ascend))
  where
    first : (ys : List _) → All (λ y. number x < number y) ys → placed number x ys ≡ x ∷ ys
    first [] above = refl
    first (y ∷ ys) above =
        let more : number x < number y = above 0 y (omega arith) in
        let test : nat_lt (number y) (number x) ≡ false = grind (arith, nat_tests, more) in
        rw test refl
placed_back number item (suc p) (x ∷ xs) ascend inside is =
    let later : number x < number (get_or xs p item) = ascend 0 (suc p) item (omega arith) inside in
    let same : number (get_or xs p item) ≡ number item = ap number is in
    let test : nat_lt (number x) (number item) ≡ true = grind (arith, nat_tests, later, same) in
    rw test (ap (λ ys. x ∷ ys) (placed_back number item p xs (AscendBy-tail number x xs ascend) (omega arith) is))

-- an item put in and taken out again
pub without-placed : {A : Type 0} (number : A → ℕ) (item : A) (xs : List A) → All (λ x. number x ≡ number item → ⊥) xs
    → without number (number item) (placed number item xs) ≡ xs
without-placed number item [] other = let test : (number item == number item) ≡ true = grind (arith, nat_tests) in rw test refl
without-placed {A} number item (x ∷ xs) other =
    at (without-placed number item xs (All-tail (λ y. number y ≡ number item → ⊥) x xs other))
    (All-head (λ y. number y ≡ number item → ⊥) x xs other) (nat_lt (number x) (number item))
  where
    at : without number (number item) (placed number item xs) ≡ xs → (number x ≡ number item → ⊥)
        → (b : Bool) → without number (number item) (cond b (x ∷ placed number item xs) (item ∷ x ∷ xs)) ≡ x ∷ xs
    at rest first true =
        let test : (number x == number item) ≡ false = grind (arith, nat_tests, first) in
        rw test (ap (λ ys. x ∷ ys) rest)
    at rest first false =
        let test : (number item == number item) ≡ true = grind (arith, nat_tests) in
        rw test (without_none number (number item) (x ∷ xs) other)

-- no item that is left has the number
pub All-without : {A : Type 0} (number : A → ℕ) (n : ℕ) (xs : List A) → All (λ x. number x ≡ n → ⊥) (without number n xs)
All-without number n [] = All-nil (λ x. number x ≡ n → ⊥)
All-without {A} number n (x ∷ xs) = at (All-without number n xs) (number x == n) refl
  where
    at : All (λ y. number y ≡ n → ⊥) (without number n xs) → (b : Bool) → (number x == n) ≡ b
        → All (λ y. number y ≡ n → ⊥) (cond (not b) (x ∷ without number n xs) (without number n xs))
    at rest true test = rest
    at rest false test = All-cons (λ y. number y ≡ n → ⊥) x (without number n xs) (λ same. grind (arith, nat_tests, test, same)) rest

-- what ascends doesn't descend
pub IsNonDecreasingBy-from_AscendBy : {A : Type 0} (number : A → ℕ) (xs : List A) → AscendBy number xs → IsNonDecreasingBy number xs
IsNonDecreasingBy-from_AscendBy {A} number xs ascend = λ i j d no_greater within. at i j d within (cases_lt i j) no_greater
  where
    at : (i j : ℕ) (d : A) → j < length xs → (i < j) ⊎ (j ≤ i) → i ≤ j → number (get_or xs i d) ≤ number (get_or xs j d)
    at i j d within (inl less) no_greater = let up = ascend i j d less within in omega arith
    at i j d within (inr no_less) no_greater =
        let same : i ≡ j = omega arith in
        let Below : ℕ → Type 0 = λ k. number (get_or xs i d) ≤ number (get_or xs k d) in
        subst Below same (omega arith)

-- what stands at a place, whatever is said where there is no place
pub at_place : {A : Type 0} (xs : List A) (p : ℕ) (x d : A) → p < length xs → x ≡ get_or xs p x → get_or xs p d ≡ x
at_place [] p x d inside is = absurd (omega arith)
at_place (y ∷ ys) zero x d inside is = sym is
at_place (y ∷ ys) (suc p) x d inside is = at_place ys p x d (omega arith) is

-- of items that ascend, one has a number
pub only_one : {A : Type 0} (number : A → ℕ) (xs : List A) (p : ℕ) (x y : A) → AscendBy number xs → p < length xs → x ≡ get_or xs p x
    → Contains xs y → number y ≡ number x → y ≡ x
only_one {A} number xs p x y ascend inside is has same = at xs p has.0 ascend inside is has.1 has.2
  where
    at : (zs : List A) (i k : ℕ) → AscendBy number zs → i < length zs → x ≡ get_or zs i x → k < length zs → get_or zs k y ≡ y → y ≡ x
    at [] i k ascend inside is within found = absurd (omega arith)
    at (z ∷ zs) zero zero ascend inside is within found = sym found ∙ sym is
    at (z ∷ zs) zero (suc k) ascend inside is within found =
        let later = ascend 0 (suc k) y (omega arith) within in
        let there = ap number found in let here = ap number is in absurd (omega (arith, later, there, here, same))
    at (z ∷ zs) (suc i) zero ascend inside is within found =
        let later = ascend 0 (suc i) x (omega arith) inside in
        let there = ap number found in let here = ap number is in absurd (omega (arith, later, there, here, same))
    at (z ∷ zs) (suc i) (suc k) ascend inside is within found =
        at zs i k (AscendBy-tail number z zs ascend) (omega arith) is (omega arith) found
