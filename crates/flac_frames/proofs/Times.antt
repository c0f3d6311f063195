-- Loops that read one thing after another.
use Rattle.std.proofs.Common.{◌≡◌, ◌≤◌, ◌<◌, ◌+◌, ◌-◌, ◌*◌, ℕ, zero, suc, List, [], ◌∷◌, ◌++◌, Bool, length, take, drop, set, Result, Ok, Err, refl, ap, sym, ◌∙◌, arith, append_assoc}
use Rattle.std.specs.Prelude.{ℤ}
use Rattle.std.proofs.lemmas.List.{append-nil, take_more_set, take_all}
use Rattle.std.proofs.lemmas.Nat.{mul-le}
use Rattle.std.proofs.Math.Seq.{take-add}
use Rattle.lib_base.specs.Sounds.{part}
use Rattle.file_model.specs.declared.flac_rules.FlacRule.{FlacRule}
use Rattle.file_model.specs.Outcomes.{◌>>=◌, times_at}
use Rattle.file_model.specs.Subframe.{partition_at, partitions_at}

-- what is read, behind what was read before
abbrev pub with_front : {A B E : Type 0} → List A → Result (List A × B) E → Result (List A × B) E
with_front front read = read >>= λ more. Ok (front ++ more.0, more.1)

-- nothing was read before
pub front_none : {A B E : Type 0} (read : Result (List A × B) E) → with_front [] read ≡ read
front_none (Ok value) = refl
front_none (Err fault) = refl

-- nothing is still to come
front_all : {B E : Type 0} (xs : List ℤ) (count : ℕ) (rest : B) → length xs ≤ count
    → with_front {E = E} (take count xs) (Ok ([], rest)) ≡ Ok (xs, rest)
front_all xs count rest past = ap (λ (ys : List ℤ). Ok (ys, rest)) (append-nil (take count xs) ∙ take_all count xs past)

-- more before what is read
front_front : {B E : Type 0} (front xs : List ℤ) (read : Result (List ℤ × B) E)
    → with_front (front ++ xs) read ≡ with_front front (with_front xs read)
front_front front xs (Ok more) = ap (λ (ys : List ℤ). Ok (ys, more.1)) (append_assoc front xs more.0)
front_front front xs (Err fault) = refl

-- ---- so many numbers

times_one : {B E : Type 0} (read : B → Result (ℤ × B) E) (count : ℕ) (x : ℤ) (rest next : B) → read rest ≡ Ok (x, next)
    → times_at read (suc count) rest ≡ with_front (x ∷ []) (times_at read count next)
unfolding times_at
times_one read count x rest next is =
    ap (λ (r : Result (ℤ × _) _). r >>= λ value. times_at read count value.1 >>= λ more. Ok (value.0 ∷ more.0, more.1)) is

-- one more was read
pub times_step : {B E : Type 0} (read : B → Result (ℤ × B) E) (xs : List ℤ) (place count : ℕ) (x : ℤ) (rest next : B) (total : Result (List ℤ × B) E)
    → place < length xs → place < count → read rest ≡ Ok (x, next) → with_front (take place xs) (times_at read (count - place) rest) ≡ total
    → with_front (take (place + 1) (set xs place x)) (times_at read (count - (place + 1)) next) ≡ total
times_step read xs place count x rest next total inside more is goes =
    let fewer : count - place ≡ suc (count - (place + 1)) = omega (arith, more) in
    ap (λ (ys : List ℤ). with_front ys (times_at read (count - (place + 1)) next)) (take_more_set xs place x inside)
    ∙ front_front (take place xs) (x ∷ []) (times_at read (count - (place + 1)) next)
    ∙ sym (ap (with_front (take place xs)) (ap (λ (n : ℕ). times_at read n rest) fewer ∙ times_one read (count - (place + 1)) x rest next is)) ∙ goes

-- the next one is none
pub times_fails : {B E : Type 0} (read : B → Result (ℤ × B) E) (front : List ℤ) (place count : ℕ) (rest : B) (fault : E) (total : Result (List ℤ × B) E)
    → place < count → read rest ≡ Err fault → with_front front (times_at read (count - place) rest) ≡ total → total ≡ Err fault
unfolding times_at
times_fails read front place count rest fault total more is goes =
    let fewer : count - place ≡ suc (count - (place + 1)) = omega (arith, more) in
    sym goes ∙ ap (λ (n : ℕ). with_front front (times_at read n rest)) fewer
    ∙ ap (λ (r : Result (ℤ × _) _). with_front front (r >>= λ value. times_at read (count - (place + 1)) value.1 >>= λ more. Ok (value.0 ∷ more.0, more.1))) is

-- all were read
pub times_done : {B E : Type 0} (read : B → Result (ℤ × B) E) (xs : List ℤ) (place count : ℕ) (rest : B) (total : Result (List ℤ × B) E)
    → count ≤ place → length xs ≡ count → with_front (take place xs) (times_at read (count - place) rest) ≡ total → total ≡ Ok (xs, rest)
unfolding times_at
times_done read xs place count rest total past size goes =
    let none : count - place ≡ 0 = omega (arith, past) in
    sym goes ∙ ap (λ (n : ℕ). with_front (take place xs) (times_at read n rest)) none ∙ front_all xs place rest (omega (arith, past, size))

-- ---- so many partitions

-- a partition is inside the residuals
pub partition_inside : (index many size whole : ℕ) → index < many → whole ≡ many * size → (index * size + size ≤ whole) × (index * size + size ≡ (index + 1) * size)
partition_inside index many size whole more is =
    let most : (index + 1) * size ≤ many * size = mul-le (index + 1) size many size (omega (arith, more)) (omega arith) in (omega (arith, most, is), omega arith)

-- one more was read
pub partitions_step : (bits size many index : ℕ) (old new : List ℤ) (rest next : List Bool) (total : Result (List ℤ × List Bool) FlacRule)
    → index < many → take (index * size) new ≡ take (index * size) old → partition_at bits size rest ≡ Ok (part new (index * size) size, next)
    → with_front (take (index * size) old) (partitions_at bits size (many - index) rest) ≡ total
    → with_front (take ((index + 1) * size) new) (partitions_at bits size (many - (index + 1)) next) ≡ total
unfolding partitions_at
partitions_step bits size many index old new rest next total more before is goes =
    let fewer : many - index ≡ suc (many - (index + 1)) = omega (arith, more) in
    let longer : (index + 1) * size ≡ index * size + size = omega arith in
    let others = partitions_at bits size (many - (index + 1)) next in
    ap (λ (n : ℕ). with_front (take n new) others) longer
    ∙ ap (λ (ys : List ℤ). with_front ys others) (take-add (index * size) size new ∙ ap (λ (ys : List ℤ). ys ++ part new (index * size) size) before)
    ∙ front_front (take (index * size) old) (part new (index * size) size) others
    ∙ sym (ap (with_front (take (index * size) old)) (ap (λ (n : ℕ). partitions_at bits size n rest) fewer
    ∙ ap (λ (r : Result (List ℤ × List Bool) FlacRule). r >>= λ first. partitions_at bits size (many - (index + 1)) first.1 >>= λ others. Ok (first.0 ++ others.0, others.1)) is)) ∙ goes

-- the next one is none
pub partitions_fails : (bits size many index : ℕ) (front : List ℤ) (rest : List Bool) (rule : FlacRule) (total : Result (List ℤ × List Bool) FlacRule)
    → index < many → partition_at bits size rest ≡ Err rule → with_front front (partitions_at bits size (many - index) rest) ≡ total
    → total ≡ Err rule
unfolding partitions_at
partitions_fails bits size many index front rest rule total more is goes =
    let fewer : many - index ≡ suc (many - (index + 1)) = omega (arith, more) in
    sym goes ∙ ap (λ (n : ℕ). with_front front (partitions_at bits size n rest)) fewer
    ∙ ap (λ (r : Result (List ℤ × List Bool) FlacRule). with_front front (r >>= λ first. partitions_at bits size (many - (index + 1)) first.1 >>= λ others. Ok (first.0 ++ others.0, others.1))) is

-- all were read
pub partitions_done : (bits size many index : ℕ) (xs : List ℤ) (rest : List Bool) (total : Result (List ℤ × List Bool) FlacRule)
    → many ≤ index → length xs ≡ many * size → with_front (take (index * size) xs) (partitions_at bits size (many - index) rest) ≡ total
    → total ≡ Ok (xs, rest)
unfolding partitions_at
partitions_done bits size many index xs rest total past is goes =
    let none : many - index ≡ 0 = omega (arith, past) in
    let most : many * size ≤ index * size = mul-le many size index size past (omega arith) in
    sym goes ∙ ap (λ (n : ℕ). with_front (take (index * size) xs) (partitions_at bits size n rest)) none
    ∙ front_all xs (index * size) rest (omega (arith, most, is))
