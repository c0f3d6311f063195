-- Two coded channels spell one pair of channels.
use Rattle.std.proofs.Common.{◌≡◌, ◌<◌, ◌+◌, ℕ, ℤ, pos, ◌+ℤ◌, ◌-ℤ◌, ◌*ℤ◌, ◌≤ℤ◌, ◌<ℤ◌, List, [], ◌∷◌, ◌++◌, length, length-append, length-take, take, inl, inr, refl, ap, sym, ◌∙◌, subst, arith}
use Rattle.std.specs.Int.{int_div_euclid}
use Rattle.std.proofs.lemmas.Bool.{cases_lt}
use Rattle.std.proofs.lemmas.Int.{ints}
use Rattle.std.proofs.lemmas.List.{same_lists, get_or-take, get_or_default, get_or_append_left, get_or_push}
use Rattle.std.proofs.lemmas.List.Elements.{All-nil, All-take, All-get_or, All-push}
use Rattle.file_model.specs.declared.pairs.Stereo.{Stereo}
use Rattle.file_model.specs.declared.pairs.Stereo.TheVariants.{LeftSide, SideRight, MidSide}
use Rattle.lib_base.specs.Sounds.{IsSample}
use Rattle.file_model.specs.Predict.{at}
use Rattle.file_model.proofs.Predictions.{length_same-take}
use Rattle.file_model.specs.Pairs.{side, mid, first_of, second_of, IsPair, SpellsPair, LeavesPair}

floor_low : (s : ℤ) → pos 0 ≤ℤ (s -ℤ (int_div_euclid s (pos 2) *ℤ pos 2))
floor_low s = grind (arith, ints)

floor_high : (s : ℤ) → (s -ℤ (int_div_euclid s (pos 2) *ℤ pos 2)) <ℤ pos 2
floor_high s = grind (arith, ints)

-- half a sum, rounded down, and the difference are of one pair of numbers
same_left : (l r l' r' : ℤ) → mid l r ≡ mid l' r' → side l r ≡ side l' r' → l ≡ l'
same_left l r l' r' same_mid same_side =
    let low = floor_low (l +ℤ r) in
    let high = floor_high (l +ℤ r) in
    let low' = floor_low (l' +ℤ r') in
    let high' = floor_high (l' +ℤ r') in
    omega (arith, ints)

same_right : (l r l' r' : ℤ) → l ≡ l' → side l r ≡ side l' r' → r ≡ r'
same_right l r l' r' same_l same_side = omega (arith, ints)

same_left_of : (l r l' r' : ℤ) → r ≡ r' → side l r ≡ side l' r' → l ≡ l'
same_left_of l r l' r' same_r same_side = omega (arith, ints)

-- two numbers stand for one left and one right sample at most
pub IsPair_unique : (kind : Stereo) (l r l' r' a b : ℤ) → IsPair kind l r a b → IsPair kind l' r' a b → (l ≡ l') × (r ≡ r')
IsPair_unique LeftSide l r l' r' a b one other =
    let same : l ≡ l' = sym one.is_first ∙ other.is_first in
    (same, same_right l r l' r' same (sym one.is_second ∙ other.is_second))
IsPair_unique SideRight l r l' r' a b one other =
    let same : r ≡ r' = sym one.is_second ∙ other.is_second in
    (same_left_of l r l' r' same (sym one.is_first ∙ other.is_first), same)
IsPair_unique MidSide l r l' r' a b one other =
    let same : l ≡ l' = same_left l r l' r' (sym one.is_first ∙ other.is_first) (sym one.is_second ∙ other.is_second) in
    (same, same_right l r l' r' same (sym one.is_second ∙ other.is_second))

IsPair_at : (kind : Stereo) (l r a b l' r' a' b' : ℤ) → l ≡ l' → r ≡ r' → a ≡ a' → b ≡ b' → IsPair kind l' r' a' b' → IsPair kind l r a b
IsPair_at kind l r a b l' r' a' b' same_l same_r same_a same_b pair = record {
  is_first = same_a ∙ pair.is_first ∙ sym (ap (λ (z : ℤ). first_of kind z r) same_l ∙ ap (λ (z : ℤ). first_of kind l' z) same_r);
  is_second = same_b ∙ pair.is_second ∙ sym (ap (λ (z : ℤ). second_of kind z r) same_l ∙ ap (λ (z : ℤ). second_of kind l' z) same_r);
}

length_same-push : (xs ys : List ℤ) (x y : ℤ) → length xs ≡ length ys → length (xs ++ x ∷ []) ≡ length (ys ++ y ∷ [])
length_same-push xs ys x y same = length-append xs (x ∷ []) ∙ ap (λ (n : ℕ). n + 1) same ∙ sym (length-append ys (y ∷ []))

-- half the side below the mid is the right sample, and a side above that the left one
pub MidSide_pair : (a b l r : ℤ) → r ≡ a -ℤ int_div_euclid b (pos 2) → l ≡ r +ℤ b → IsPair MidSide l r a b
MidSide_pair a b l r is_r is_l =
    let low = floor_low b in
    let high = floor_high b in
    let low' = floor_low (l +ℤ r) in
    let high' = floor_high (l +ℤ r) in
    record { is_first = omega (arith, ints); is_second = omega (arith, ints) }

-- what stands before a place spells the samples before it
pub SpellsPair-take : (kind : Stereo) (left right first second : List ℤ) (depth place : ℕ) → SpellsPair kind depth left right first second
    → SpellsPair kind depth (take place left) (take place right) (take place first) (take place second)
SpellsPair-take kind left right first second depth place spells = record {
  equal = length_same-take second first place spells.equal;
  as_many_left = length_same-take left first place spells.as_many_left;
  as_many_right = length_same-take right first place spells.as_many_right;
  pairs = λ t inside.
      let cut = length-take place first in
      let less : t < place = omega (arith, inside, cut) in
      IsPair_at kind _ _ _ _ (at left t) (at right t) (at first t) (at second t)
      (get_or-take place left t (pos 0) less) (get_or-take place right t (pos 0) less)
      (get_or-take place first t (pos 0) less) (get_or-take place second t (pos 0) less)
      (spells.pairs t (omega (arith, inside, cut)));
  left_within = All-take (IsSample depth) place left spells.left_within;
  right_within = All-take (IsSample depth) place right spells.right_within;
}

-- where a place leaves the depth, no pair of channels within it is spelled
pub LeavesPair_none : (kind : Stereo) (left right first second : List ℤ) (depth place : ℕ) → LeavesPair kind depth first second place
    → ¬ SpellsPair kind depth left right first second
LeavesPair_none kind left right first second depth place leaves spells =
    let same = IsPair_unique kind (at left place) (at right place) leaves.here.left leaves.here.right (at first place) (at second place)
    (spells.pairs place leaves.inside) leaves.here.pair in
    let in_left : place < length left = omega (arith, leaves.inside, spells.as_many_left) in
    let in_right : place < length right = omega (arith, leaves.inside, spells.as_many_right) in
    leaves.here.outside (
      subst (IsSample depth) same.0 (All-get_or (IsSample depth) left place (pos 0) in_left spells.left_within),
      subst (IsSample depth) same.1 (All-get_or (IsSample depth) right place (pos 0) in_right spells.right_within),
    )

-- two coded channels spell at most one pair of channels
pub SpellsPair_unique : (kind : Stereo) (xs ys xs' ys' first second : List ℤ) (depth : ℕ) → SpellsPair kind depth xs ys first second
    → SpellsPair kind depth xs' ys' first second → (xs ≡ xs') × (ys ≡ ys')
SpellsPair_unique kind xs ys xs' ys' first second depth one other = (
  same_lists xs xs' (one.as_many_left ∙ sym other.as_many_left)
      (λ k d inside.
      let here : k < length first = omega (arith, inside, one.as_many_left) in
      get_or_default xs k d (pos 0) inside
      ∙ (IsPair_unique kind (at xs k) (at ys k) (at xs' k) (at ys' k) (at first k) (at second k) (one.pairs k here) (other.pairs k here)).0
      ∙ get_or_default xs' k (pos 0) d (omega (arith, here, other.as_many_left))),
  same_lists ys ys' (one.as_many_right ∙ sym other.as_many_right)
      (λ k d inside.
      let here : k < length first = omega (arith, inside, one.as_many_right) in
      get_or_default ys k d (pos 0) inside
      ∙ (IsPair_unique kind (at xs k) (at ys k) (at xs' k) (at ys' k) (at first k) (at second k) (one.pairs k here) (other.pairs k here)).1
      ∙ get_or_default ys' k (pos 0) d (omega (arith, here, other.as_many_right))),
)

-- ---- the pairs in turn

-- one more pair is spelled
pub SpellsPair-push : (kind : Stereo) (left right first second : List ℤ) (depth : ℕ) (l r a b : ℤ) → SpellsPair kind depth left right first second
    → IsPair kind l r a b → IsSample depth l → IsSample depth r
    → SpellsPair kind depth (left ++ l ∷ []) (right ++ r ∷ []) (first ++ a ∷ []) (second ++ b ∷ [])
SpellsPair-push kind left right first second depth l r a b spells pair left_within right_within = record {
  equal = length_same-push second first b a spells.equal;
  as_many_left = length_same-push left first l a spells.as_many_left;
  as_many_right = length_same-push right first r a spells.as_many_right;
  pairs = λ t inside.
      let longer = length-append first (a ∷ []) in
      elim (cases_lt t (length first)) [
        | inl old ↦
            IsPair_at kind _ _ _ _ (at left t) (at right t) (at first t) (at second t)
            (get_or_append_left left (l ∷ []) (pos 0) t (omega (arith, old, spells.as_many_left)))
            (get_or_append_left right (r ∷ []) (pos 0) t (omega (arith, old, spells.as_many_right)))
            (get_or_append_left first (a ∷ []) (pos 0) t old)
            (get_or_append_left second (b ∷ []) (pos 0) t (omega (arith, old, spells.equal)))
            (spells.pairs t old)
        | inr new ↦
            let last : length first ≡ t = omega (arith, new, inside, longer) in
            IsPair_at kind _ _ _ _ l r a b
            (get_or_push left l (pos 0) t (omega (arith, last, spells.as_many_left)))
            (get_or_push right r (pos 0) t (omega (arith, last, spells.as_many_right)))
            (get_or_push first a (pos 0) t last)
            (get_or_push second b (pos 0) t (omega (arith, last, spells.equal)))
            pair
      ];
  left_within = All-push (IsSample depth) left l spells.left_within left_within;
  right_within = All-push (IsSample depth) right r spells.right_within right_within;
}

-- of no number, none is spelled
pub SpellsPair-none : (kind : Stereo) (depth : ℕ) → SpellsPair kind depth [] [] [] []
SpellsPair-none kind depth = record {
  equal = refl;
  as_many_left = refl;
  as_many_right = refl;
  pairs = λ t inside. absurd (omega (arith, inside));
  left_within = All-nil (IsSample depth);
  right_within = All-nil (IsSample depth);
}
