-- Sums of products, one more product at the end.
use Rattle.std.proofs.Common.{◌≡◌, ◌≤◌, ◌<◌, ◌+◌, ◌^◌, ◌∙◌, ℕ, ℤ, pos, ◌+ℤ◌, ◌*ℤ◌, List, [], ◌∷◌, ◌++◌, length, get_or, take, ap, sym, arith, unsigned_abs}
use Rattle.std.proofs.lemmas.Int.{ints, unsigned_abs-mul}
use Rattle.std.proofs.lemmas.List.{take_more, length-take-le}
use Rattle.std.proofs.lemmas.Nat.{mul-le}
use Rattle.true_peak.specs.Windows.{dot}

add-assoc-ℤ : (a b c : ℤ) → a +ℤ (b +ℤ c) ≡ (a +ℤ b) +ℤ c
add-assoc-ℤ a b c = omega (arith, ints)

dot-push : (xs ys : List ℤ) (x y : ℤ) → length xs ≡ length ys → dot (xs ++ x ∷ []) (ys ++ y ∷ []) ≡ dot xs ys +ℤ (x *ℤ y)
unfolding dot
dot-push [] [] x y equal = omega (arith, ints)
dot-push [] (b ∷ ys) x y equal = absurd (omega (arith, equal))
dot-push (a ∷ xs) [] x y equal = absurd (omega (arith, equal))
dot-push (a ∷ xs) (b ∷ ys) x y equal =
    ap (λ (z : ℤ). (a *ℤ b) +ℤ z) (dot-push xs ys x y (omega (arith, equal))) ∙ add-assoc-ℤ (a *ℤ b) (dot xs ys) (x *ℤ y)

pub dot-more : (xs ys : List ℤ) (k : ℕ) (total : ℤ) → k < length xs → k < length ys
    → total ≡ dot (take k xs) (take k ys)
    → total +ℤ (get_or xs k (pos 0) *ℤ get_or ys k (pos 0)) ≡ dot (take (k + 1) xs) (take (k + 1) ys)
dot-more xs ys k total inside inside' so_far =
    let x = get_or xs k (pos 0) in
    let y = get_or ys k (pos 0) in
    let equal : length (take k xs) ≡ length (take k ys) = length-take-le k xs (omega arith) ∙ sym (length-take-le k ys (omega arith)) in
    ap (λ (z : ℤ). z +ℤ (x *ℤ y)) so_far ∙ sym (dot-push (take k xs) (take k ys) x y equal)
    ∙ ap (λ (zs : List ℤ). dot zs (take k ys ++ y ∷ [])) (sym (take_more xs k (pos 0) inside))
    ∙ ap (λ (zs : List ℤ). dot (take (k + 1) xs) zs) (sym (take_more ys k (pos 0) inside'))

-- the product of a tap and a sample
pub product_small : (tap value : ℤ) → unsigned_abs tap ≤ 2 ^ 13 → unsigned_abs value ≤ 2 ^ 23 → unsigned_abs (tap *ℤ value) ≤ 2 ^ 36
product_small tap value small_tap small_value =
    let apart = unsigned_abs-mul tap value in
    let product = mul-le (unsigned_abs tap) (unsigned_abs value) (2 ^ 13) (2 ^ 23) small_tap small_value in
    omega arith
