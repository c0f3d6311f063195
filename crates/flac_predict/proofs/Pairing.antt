-- One more pair restored.
use Rattle.std.proofs.Common.{◌≡◌, ◌≤◌, ◌<◌, ◌+◌, ℕ, ℤ, pos, ◌+ℤ◌, ◌-ℤ◌, List, [], ◌∷◌, ◌++◌, length, take, set, sym, subst, arith}
use Rattle.std.proofs.lemmas.Int.{ints}
use Rattle.std.proofs.lemmas.List.{take_all, take_more, take_more_set}
use Rattle.lib_base.specs.Sounds.{IsSample}
use Rattle.file_model.specs.declared.pairs.Stereo.{Stereo}
use Rattle.file_model.specs.declared.pairs.Stereo.TheVariants.{LeftSide, SideRight}
use Rattle.file_model.specs.Predict.{at}
use Rattle.file_model.specs.Pairs.{IsPair, SpellsPair, IsPairOutside, LeavesPair}
use Rattle.file_model.proofs.Pairings.{SpellsPair-push}
use Rattle.flac_predict.proofs.Restoring.{SameFrom, SameFrom-set}

pub LeftSide_pair : (a b l r : ℤ) → l ≡ a → r ≡ a -ℤ b → IsPair LeftSide l r a b
LeftSide_pair a b l r is_l is_r = record { is_first = sym is_l; is_second = omega (arith, ints, is_l, is_r) }

pub SideRight_pair : (a b l r : ℤ) → l ≡ b +ℤ a → r ≡ b → IsPair SideRight l r a b
SideRight_pair a b l r is_l is_r = record { is_first = omega (arith, ints, is_l, is_r); is_second = sym is_r }

pub outside_left : (kind : Stereo) (depth : ℕ) (l r a b : ℤ) → IsPair kind l r a b → ¬ IsSample depth l → IsPairOutside kind depth a b
outside_left kind depth l r a b pair outside = record { left = l; right = r; pair = pair; outside = λ both. outside both.0 }

pub outside_right : (kind : Stereo) (depth : ℕ) (l r a b : ℤ) → IsPair kind l r a b → ¬ IsSample depth r → IsPairOutside kind depth a b
outside_right kind depth l r a b pair outside = record { left = l; right = r; pair = pair; outside = λ both. outside both.1 }

-- what is restored so far, and the numbers from the place on
pub record RestoredPairs (kind : Stereo) (depth place : ℕ) (left right first second : List ℤ) : Type 0 where
  pub spelled : SpellsPair kind depth (take place left) (take place right) (take place first) (take place second)
  pub left_rest : SameFrom left first place
  pub right_rest : SameFrom right second place

pub RestoredPairs-more : (kind : Stereo) (depth place : ℕ) (left right first second : List ℤ) (l r : ℤ) → place < length left → place < length right
    → length left ≡ length first → length right ≡ length second
    → IsPair kind l r (at left place) (at right place) → IsSample depth l → IsSample depth r
    → RestoredPairs kind depth place left right first second
    → RestoredPairs kind depth (place + 1) (set left place l) (set right place r) first second
RestoredPairs-more kind depth place left right first second l r in_left in_right same_left same_right pair l_within r_within so_far =
    let A : ℤ → Type 0 = λ z. IsPair kind l r z (at right place) in
    let B : ℤ → Type 0 = λ z. IsPair kind l r (at first place) z in
    let coded : IsPair kind l r (at first place) (at second place) =
    subst B (so_far.right_rest place (omega arith)) (subst A (so_far.left_rest place (omega arith)) pair) in
    let lefts = take place left ++ l ∷ [] in
    let rights = take place right ++ r ∷ [] in
    let firsts = take (place + 1) first in
    let seconds = take (place + 1) second in
    let pushed = SpellsPair-push kind (take place left) (take place right) (take place first) (take place second) depth l r
    (at first place) (at second place) so_far.spelled coded l_within r_within in
    let P : List ℤ → Type 0 = λ xs. SpellsPair kind depth xs (take (place + 1) (set right place r)) firsts seconds in
    let Q : List ℤ → Type 0 = λ xs. SpellsPair kind depth lefts xs firsts seconds in
    let R : List ℤ → Type 0 = λ xs. SpellsPair kind depth lefts rights xs seconds in
    let S : List ℤ → Type 0 = λ xs. SpellsPair kind depth lefts rights (take place first ++ at first place ∷ []) xs in
    record {
      spelled =
          subst P (sym (take_more_set left place l in_left))
          (subst Q (sym (take_more_set right place r in_right))
          (subst R (sym (take_more first place (pos 0) (omega (arith, in_left, same_left))))
          (subst S (sym (take_more second place (pos 0) (omega (arith, in_right, same_right)))) pushed)));
      left_rest = SameFrom-set left first place l so_far.left_rest;
      right_rest = SameFrom-set right second place r so_far.right_rest;
    }

pub LeavesPair-here : (kind : Stereo) (depth place : ℕ) (left right first second : List ℤ) → place < length first
    → IsPairOutside kind depth (at left place) (at right place) → RestoredPairs kind depth place left right first second
    → LeavesPair kind depth first second place
LeavesPair-here kind depth place left right first second inside outside so_far =
    let A : ℤ → Type 0 = λ z. IsPairOutside kind depth z (at right place) in
    let B : ℤ → Type 0 = λ z. IsPairOutside kind depth (at first place) z in
    record {
      left_before = take place left;
      right_before = take place right;
      inside = inside;
      spelled = so_far.spelled;
      here = subst B (so_far.right_rest place (omega arith)) (subst A (so_far.left_rest place (omega arith)) outside);
    }

pub RestoredPairs-whole : (kind : Stereo) (depth place : ℕ) (left right first second : List ℤ) → length left ≤ place → length right ≤ place
    → length left ≡ length first → length right ≡ length second → RestoredPairs kind depth place left right first second
    → SpellsPair kind depth left right first second
RestoredPairs-whole kind depth place left right first second past_left past_right same_left same_right so_far =
    let P : List ℤ → Type 0 = λ xs. SpellsPair kind depth xs right first second in
    let Q : List ℤ → Type 0 = λ xs. SpellsPair kind depth (take place left) xs first second in
    let R : List ℤ → Type 0 = λ xs. SpellsPair kind depth (take place left) (take place right) xs second in
    let S : List ℤ → Type 0 = λ xs. SpellsPair kind depth (take place left) (take place right) (take place first) xs in
    subst P (take_all place left past_left)
    (subst Q (take_all place right past_right)
    (subst R (take_all place first (omega (arith, past_left, same_left)))
    (subst S (take_all place second (omega (arith, past_right, same_right))) so_far.spelled)))
