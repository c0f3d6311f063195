-- What loops over members know: of those so far, and of one more.
use Rattle.std.proofs.Common.{◌≡◌, ◌<◌, ◌≤◌, ◌+◌, ℕ, zero, suc, List, [], ◌∷◌, ◌++◌, map, length, take, get_or, max, sym, ap, ◌∙◌, arith}
use Rattle.std.specs.List.{flat_map}
use Rattle.std.proofs.lemmas.List.{take_more, flat_map_more, map-append}
use Rattle.sound_model.specs.Loudness.{greatest}
use Rattle.sound_model.proofs.AlbumLaws.{greatest-append}

-- the lists of one more
pub joined_more : {A : Type 0} (f : A → List ℕ) (xs : List A) (i : ℕ) (x : A) → i < length xs → x ≡ get_or xs i x
    → flat_map f (take (i + 1) xs) ≡ flat_map f (take i xs) ++ f x
joined_more f xs i x inside is =
    ap (flat_map f) (take_more xs i x inside)
    ∙ sym (flat_map_more f [] (take i xs) (get_or xs i x))
    ∙ ap (λ y. flat_map f (take i xs) ++ f y) (sym is)

-- the greatest with one more
pub greatest_more : {A : Type 0} (f : A → ℕ) (xs : List A) (i : ℕ) (x : A) (most next : ℕ) → i < length xs → x ≡ get_or xs i x
    → most ≡ greatest (map f (take i xs)) → next ≡ max most (f x) → next ≡ greatest (map f (take (i + 1) xs))
greatest_more f xs i x most next inside is was step =
    let front = greatest (map f (take i xs)) in
    let more = ap (λ ys. greatest (map f ys)) (take_more xs i x inside)
    ∙ ap greatest (map-append f (take i xs) (get_or xs i x ∷ []))
    ∙ greatest-append (map f (take i xs)) (f (get_or xs i x) ∷ [])
    ∙ ap (λ y. max front (max (f y) 0)) (sym is) in
    omega (arith, more, was, step)

-- the greatest is no less than one
pub greatest_of_one : {A : Type 0} (f : A → ℕ) (xs : List A) (i : ℕ) (x : A) → i < length xs → x ≡ get_or xs i x → f x ≤ greatest (map f xs)
greatest_of_one f [] i x inside is = absurd (omega arith)
greatest_of_one f (y ∷ ys) zero x inside is = let same = ap f is in omega (arith, same)
greatest_of_one f (y ∷ ys) (suc i) x inside is = let later = greatest_of_one f ys i x (omega arith) is in omega (arith, later)
