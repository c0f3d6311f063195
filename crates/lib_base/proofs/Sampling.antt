-- Lists of samples that a sound holds.
use Rattle.std.proofs.Common.{◌≡◌, ℕ, ◌<◌, List, [], length, map, get_or, sym, ap, ◌∙◌}
use Rattle.std.proofs.lemmas.List.{get_or-map, length-map}
use Rattle.std.specs.List.{All}

-- a channel's own list has the length that each list has
pub length-channel : {A B : Type 0} (f : A → List B) (xs : List A) (frames channel : ℕ) (x : A)
    → All (λ l. length l ≡ frames) (map f xs) → channel < length (map f xs) → x ≡ get_or xs channel x
    → length (f x) ≡ frames
length-channel f xs frames channel x equal inside is =
    let lt : channel < length xs = simp length-map at inside in
    ap (λ y. length (f y)) is ∙ sym (ap length (get_or-map f xs channel x [] lt)) ∙ equal channel [] inside
