-- A history read element by element.
use Rattle.std.proofs.Common.{◌≡◌, ◌≤◌, ◌<◌, ◌+◌, ◌^◌, ◌∙◌, ℕ, suc, ℤ, pos, List, [], ◌∷◌, length, get_or, take, drop, refl, ap, sym, subst, arith, unsigned_abs, w64, to_z, of_z}
use Rattle.std.specs.List.{All}
use Rattle.std.proofs.lemmas.Int.{to_z-of_z, fits_signed_from_abs}
use Rattle.std.proofs.lemmas.List.{drop_more, take_all}
use Rattle.std.proofs.lemmas.List.Elements.{All-cons, All-take}

-- a value that was read
abbrev pub kept : ℤ → ℤ
kept z = to_z w64 (of_z w64 z)

abbrev pub Small : ℤ → Type 0
Small z = unsigned_abs z ≤ 2 ^ 23

pub kept_is : (z : ℤ) → Small z → kept z ≡ z
kept_is z small = to_z-of_z w64 z (fits_signed_from_abs w64 z (omega arith))

-- one element and those behind it
kept_front : (xs : List ℤ) (i n : ℕ) (rest : List ℤ) → All Small xs → i < length xs → rest ≡ take n (drop (i + 1) xs)
    → kept (get_or xs i (pos 0)) ∷ rest ≡ take (suc n) (drop i xs)
kept_front xs i n rest small inside is_rest =
    ap (λ (z : ℤ). z ∷ rest) (kept_is (get_or xs i (pos 0)) (small i (pos 0) inside))
    ∙ ap (λ (zs : List ℤ). get_or xs i (pos 0) ∷ zs) is_rest ∙ ap (λ (zs : List ℤ). take (suc n) zs) (sym (drop_more xs i (pos 0) inside))

-- the first ten of eleven elements
pub ten_kept : (xs : List ℤ) → length xs ≡ 11 → All Small xs
    → kept (get_or xs 0 (pos 0)) ∷ kept (get_or xs 1 (pos 0)) ∷ kept (get_or xs 2 (pos 0)) ∷ kept (get_or xs 3 (pos 0)) ∷ kept (get_or xs 4 (pos 0))
    ∷ kept (get_or xs 5 (pos 0)) ∷ kept (get_or xs 6 (pos 0)) ∷ kept (get_or xs 7 (pos 0)) ∷ kept (get_or xs 8 (pos 0)) ∷ kept (get_or xs 9 (pos 0)) ∷ []
    ≡ take 10 xs
ten_kept xs eleven s =
    kept_front xs 0 9 _ s (omega arith) (kept_front xs 1 8 _ s (omega arith) (kept_front xs 2 7 _ s (omega arith)
    (kept_front xs 3 6 _ s (omega arith) (kept_front xs 4 5 _ s (omega arith) (kept_front xs 5 4 _ s (omega arith)
    (kept_front xs 6 3 _ s (omega arith) (kept_front xs 7 2 _ s (omega arith) (kept_front xs 8 1 _ s (omega arith)
    (kept_front xs 9 0 _ s (omega arith) refl)))))))))

-- all eleven elements
pub eleven_kept : (xs : List ℤ) → length xs ≡ 11 → All Small xs
    → kept (get_or xs 0 (pos 0)) ∷ kept (get_or xs 1 (pos 0)) ∷ kept (get_or xs 2 (pos 0)) ∷ kept (get_or xs 3 (pos 0)) ∷ kept (get_or xs 4 (pos 0))
    ∷ kept (get_or xs 5 (pos 0)) ∷ kept (get_or xs 6 (pos 0)) ∷ kept (get_or xs 7 (pos 0)) ∷ kept (get_or xs 8 (pos 0)) ∷ kept (get_or xs 9 (pos 0))
    ∷ kept (get_or xs 10 (pos 0)) ∷ []
    ≡ xs
eleven_kept xs eleven s =
    kept_front xs 0 10 _ s (omega arith) (kept_front xs 1 9 _ s (omega arith) (kept_front xs 2 8 _ s (omega arith)
    (kept_front xs 3 7 _ s (omega arith) (kept_front xs 4 6 _ s (omega arith) (kept_front xs 5 5 _ s (omega arith)
    (kept_front xs 6 4 _ s (omega arith) (kept_front xs 7 3 _ s (omega arith) (kept_front xs 8 2 _ s (omega arith)
    (kept_front xs 9 1 _ s (omega arith) (kept_front xs 10 0 _ s (omega arith) refl))))))))))
    ∙ take_all 11 xs (omega arith)

-- a value, and those that were read behind it
pub shifted : (x : ℤ) (xs : List ℤ) → Small x → length xs ≡ 11 → All Small xs
    → kept x ∷ kept (get_or xs 0 (pos 0)) ∷ kept (get_or xs 1 (pos 0)) ∷ kept (get_or xs 2 (pos 0)) ∷ kept (get_or xs 3 (pos 0)) ∷ kept (get_or xs 4 (pos 0)) ∷ kept (get_or xs 5 (pos 0)) ∷ kept (get_or xs 6 (pos 0)) ∷ kept (get_or xs 7 (pos 0)) ∷ kept (get_or xs 8 (pos 0)) ∷ kept (get_or xs 9 (pos 0)) ∷ [] ≡ x ∷ take 10 xs
shifted x xs small eleven s =
    ap (λ (z : ℤ). z ∷ kept (get_or xs 0 (pos 0)) ∷ kept (get_or xs 1 (pos 0)) ∷ kept (get_or xs 2 (pos 0)) ∷ kept (get_or xs 3 (pos 0)) ∷ kept (get_or xs 4 (pos 0)) ∷ kept (get_or xs 5 (pos 0)) ∷ kept (get_or xs 6 (pos 0)) ∷ kept (get_or xs 7 (pos 0)) ∷ kept (get_or xs 8 (pos 0)) ∷ kept (get_or xs 9 (pos 0)) ∷ []) (kept_is x small) ∙ ap (λ (zs : List ℤ). x ∷ zs) (ten_kept xs eleven s)

pub with_all : (x : ℤ) (xs : List ℤ) → Small x → length xs ≡ 11 → All Small xs
    → kept x ∷ kept (get_or xs 0 (pos 0)) ∷ kept (get_or xs 1 (pos 0)) ∷ kept (get_or xs 2 (pos 0)) ∷ kept (get_or xs 3 (pos 0)) ∷ kept (get_or xs 4 (pos 0)) ∷ kept (get_or xs 5 (pos 0)) ∷ kept (get_or xs 6 (pos 0)) ∷ kept (get_or xs 7 (pos 0)) ∷ kept (get_or xs 8 (pos 0)) ∷ kept (get_or xs 9 (pos 0)) ∷ kept (get_or xs 10 (pos 0)) ∷ [] ≡ x ∷ xs
with_all x xs small eleven s =
    ap (λ (z : ℤ). z ∷ kept (get_or xs 0 (pos 0)) ∷ kept (get_or xs 1 (pos 0)) ∷ kept (get_or xs 2 (pos 0)) ∷ kept (get_or xs 3 (pos 0)) ∷ kept (get_or xs 4 (pos 0)) ∷ kept (get_or xs 5 (pos 0)) ∷ kept (get_or xs 6 (pos 0)) ∷ kept (get_or xs 7 (pos 0)) ∷ kept (get_or xs 8 (pos 0)) ∷ kept (get_or xs 9 (pos 0)) ∷ kept (get_or xs 10 (pos 0)) ∷ []) (kept_is x small) ∙ ap (λ (zs : List ℤ). x ∷ zs) (eleven_kept xs eleven s)

pub small_shifted : (x : ℤ) (xs : List ℤ) → Small x → length xs ≡ 11 → All Small xs
    → All Small (kept x ∷ kept (get_or xs 0 (pos 0)) ∷ kept (get_or xs 1 (pos 0)) ∷ kept (get_or xs 2 (pos 0)) ∷ kept (get_or xs 3 (pos 0)) ∷ kept (get_or xs 4 (pos 0)) ∷ kept (get_or xs 5 (pos 0)) ∷ kept (get_or xs 6 (pos 0)) ∷ kept (get_or xs 7 (pos 0)) ∷ kept (get_or xs 8 (pos 0)) ∷ kept (get_or xs 9 (pos 0)) ∷ [])
small_shifted x xs small eleven s =
    let P : List ℤ → Type 0 = λ ys. All Small ys in
    subst P (sym (shifted x xs small eleven s)) (All-cons Small x (take 10 xs) small (All-take Small 10 xs s))

pub small_all : (x : ℤ) (xs : List ℤ) → Small x → length xs ≡ 11 → All Small xs
    → All Small (kept x ∷ kept (get_or xs 0 (pos 0)) ∷ kept (get_or xs 1 (pos 0)) ∷ kept (get_or xs 2 (pos 0)) ∷ kept (get_or xs 3 (pos 0)) ∷ kept (get_or xs 4 (pos 0)) ∷ kept (get_or xs 5 (pos 0)) ∷ kept (get_or xs 6 (pos 0)) ∷ kept (get_or xs 7 (pos 0)) ∷ kept (get_or xs 8 (pos 0)) ∷ kept (get_or xs 9 (pos 0)) ∷ kept (get_or xs 10 (pos 0)) ∷ [])
small_all x xs small eleven s =
    let P : List ℤ → Type 0 = λ ys. All Small ys in
    subst P (sym (with_all x xs small eleven s)) (All-cons Small x xs small s)
