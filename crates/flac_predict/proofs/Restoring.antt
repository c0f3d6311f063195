-- One more sample restored.
use Rattle.std.proofs.Common.{◌≡◌, ◌≢◌, ◌≤◌, ◌<◌, ◌+◌, ◌-◌, ◌^◌, ℕ, ℤ, pos, ◌+ℤ◌, List, [], ◌∷◌, ◌++◌, length, length-take, take, set, get_or, ap, sym, ◌∙◌, subst, arith}
use Rattle.std.specs.List.{All}
use Rattle.std.proofs.lemmas.Int.{ints}
use Rattle.std.proofs.lemmas.List.{take_all, take_more, take_more_set, get_or-set_same, get_or-set_other}
use Rattle.std.proofs.lemmas.List.Elements.{All-get_or, All-from_get_or}
use Rattle.std.proofs.Math.Pow.{pow_mono}
use Rattle.lib_base.specs.Sounds.{IsSample}
use Rattle.file_model.specs.Predict.{at, predicted, Spells, Leaves}
use Rattle.file_model.proofs.Predictions.{same_taken, predicted-same, Spells-push}

-- two lists have the same numbers from a place on
abbrev pub SameFrom : List ℤ → List ℤ → ℕ → Type 0
SameFrom xs ys place = (t : ℕ) → place ≤ t → at xs t ≡ at ys t

pub SameFrom-set : (xs ys : List ℤ) (place : ℕ) (x : ℤ) → SameFrom xs ys place → SameFrom (set xs place x) ys (place + 1)
SameFrom-set xs ys place x same = λ t from.
    let other : t ≢ place = omega arith in get_or-set_other xs place t x (pos 0) other ∙ same t (omega (arith, from))

-- a sample of few bits is one of more
wider_limit : (depth : ℕ) → 1 ≤ depth → depth ≤ 25 → 2 ^ (depth - 1) ≤ 2 ^ 24
wider_limit depth low high = let less : depth - 1 ≤ 24 = omega arith in pow_mono less

wider : (depth : ℕ) (z : ℤ) → 1 ≤ depth → depth ≤ 25 → IsSample depth z → IsSample 25 z
wider depth z low high within =
    let limit = wider_limit depth low high in (omega (arith, ints, limit, within.0), omega (arith, ints, limit, within.1))

pub All-wider : (depth : ℕ) (xs : List ℤ) → 1 ≤ depth → depth ≤ 25 → All (IsSample depth) xs → All (IsSample 25) xs
All-wider depth xs low high within =
    All-from_get_or (IsSample 25) xs (pos 0)
    (λ i inside. wider depth (get_or xs i (pos 0)) low high (All-get_or (IsSample depth) xs i (pos 0) inside within))

-- what is restored so far, and the residual at the place
pub record Restored (weights : List ℤ) (shift depth place : ℕ) (samples coded : List ℤ) : Type 0 where
  pub spelled : Spells weights shift depth (take place samples) (take place coded)
  pub rest : SameFrom samples coded place

length_taken : (xs : List ℤ) (place : ℕ) → place < length xs → length (take place xs) ≡ place
length_taken xs place inside = let cut = length-take place xs in omega (arith, cut, inside)

value_is : (weights samples coded : List ℤ) (shift place : ℕ) (value : ℤ) → length weights ≤ place → SameFrom samples coded place
    → value ≡ at samples place +ℤ predicted weights shift samples place
    → value ≡ at coded place +ℤ predicted weights shift (take place samples) place
value_is weights samples coded shift place value behind rest is =
    is ∙ ap (λ (z : ℤ). z +ℤ predicted weights shift samples place) (rest place (omega arith))
    ∙ ap (λ (z : ℤ). at coded place +ℤ z)
    (sym (predicted-same weights (take place samples) samples shift place behind (same_taken samples place place (omega arith))))

pub Restored-more : (weights samples coded : List ℤ) (shift depth place : ℕ) (value : ℤ) → length weights ≤ place → place < length samples
    → length samples ≡ length coded → value ≡ at samples place +ℤ predicted weights shift samples place → IsSample depth value
    → Restored weights shift depth place samples coded → Restored weights shift depth (place + 1) (set samples place value) coded
Restored-more weights samples coded shift depth place value behind inside same is within so_far =
    let taken = length_taken samples place inside in
    let x_is : value ≡ at coded place +ℤ predicted weights shift (take place samples) (length (take place samples)) =
    value_is weights samples coded shift place value behind so_far.rest is
    ∙ ap (λ (n : ℕ). at coded place +ℤ predicted weights shift (take place samples) n) (sym taken) in
    let pushed = Spells-push weights (take place samples) (take place coded) shift depth value (at coded place)
    (omega (arith, taken, behind)) so_far.spelled x_is within in
    let P : List ℤ → Type 0 = λ xs. Spells weights shift depth xs (take (place + 1) coded) in
    let Q : List ℤ → Type 0 = λ xs. Spells weights shift depth (take place samples ++ value ∷ []) xs in
    record {
      spelled =
          subst P (sym (take_more_set samples place value inside))
          (subst Q (sym (take_more coded place (pos 0) (omega (arith, inside, same)))) pushed);
      rest = SameFrom-set samples coded place value so_far.rest;
    }

pub Leaves-here : (weights samples coded : List ℤ) (shift depth place : ℕ) (value : ℤ) → length weights ≤ place → place < length samples
    → length samples ≡ length coded → value ≡ at samples place +ℤ predicted weights shift samples place → ¬ IsSample depth value
    → Restored weights shift depth place samples coded → Leaves weights shift depth coded place
Leaves-here weights samples coded shift depth place value behind inside same is outside so_far = record {
  before = take place samples;
  behind = behind;
  inside = omega (arith, inside, same);
  spelled = so_far.spelled;
  outside = λ within.
      outside (subst (IsSample depth) (sym (value_is weights samples coded shift place value behind so_far.rest is)) within);
}

pub Restored-whole : (weights samples coded : List ℤ) (shift depth place : ℕ) → length samples ≤ place → length samples ≡ length coded
    → Restored weights shift depth place samples coded → Spells weights shift depth samples coded
Restored-whole weights samples coded shift depth place past same so_far =
    let P : List ℤ → Type 0 = λ xs. Spells weights shift depth xs coded in
    let Q : List ℤ → Type 0 = λ xs. Spells weights shift depth (take place samples) xs in
    subst P (take_all place samples past) (subst Q (take_all place coded (omega (arith, past, same))) so_far.spelled)

-- ---- the last two samples, after one more

pub last_set : (samples : List ℤ) (place : ℕ) (x : ℤ) → place < length samples → x ≡ at (set samples place x) (place + 1 - 1)
last_set samples place x inside =
    let here : place ≡ place + 1 - 1 = omega arith in
    sym (get_or-set_same samples place x (pos 0) inside) ∙ ap (λ (n : ℕ). at (set samples place x) n) here

pub before_set : (samples : List ℤ) (place : ℕ) (x last : ℤ) → 1 ≤ place → last ≡ at samples (place - 1)
    → last ≡ at (set samples place x) (place + 1 - 2)
before_set samples place x last behind is =
    let other : place - 1 ≢ place = omega arith in
    let there : place - 1 ≡ place + 1 - 2 = omega arith in
    is ∙ sym (get_or-set_other samples place (place - 1) x (pos 0) other) ∙ ap (λ (n : ℕ). at (set samples place x) n) there
