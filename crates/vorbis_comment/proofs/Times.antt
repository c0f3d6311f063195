-- Readings of so many things, one after another.
use Rattle.std.proofs.Common.{◌≡◌, ◌≤◌, ◌<◌, ◌+◌, ◌-◌, ℕ, suc, List, [], ◌∷◌, ◌++◌, Result, Ok, Err, refl, ap, sym, ◌∙◌, arith, append_assoc}
use Rattle.std.proofs.lemmas.List.{append-nil}
use Rattle.file_model.specs.Outcomes.{◌>>=◌, times_at}

-- what is read, behind what was read before
abbrev pub with_front : {A B E : Type 0} → List A → Result (List A × B) E → Result (List A × B) E
with_front front read = read >>= λ more. Ok (front ++ more.0, more.1)

-- nothing was read before
pub front_none : {A B E : Type 0} (read : Result (List A × B) E) → with_front [] read ≡ read
front_none (Ok value) = refl
front_none (Err fault) = refl

-- more before what is read
front_front : {A B E : Type 0} (front xs : List A) (read : Result (List A × B) E)
    → with_front (front ++ xs) read ≡ with_front front (with_front xs read)
front_front front xs (Ok more) = ap (λ (ys : List _). Ok (ys, more.1)) (append_assoc front xs more.0)
front_front front xs (Err fault) = refl

times_one : {A B E : Type 0} (read : B → Result (A × B) E) (count : ℕ) (x : A) (rest next : B) → read rest ≡ Ok (x, next)
    → times_at read (suc count) rest ≡ with_front (x ∷ []) (times_at read count next)
unfolding times_at
times_one read count x rest next is =
    ap (λ (r : Result (_ × _) _). r >>= λ value. times_at read count value.1 >>= λ more. Ok (value.0 ∷ more.0, more.1)) is

-- one more was read
pub times_step : {A B E : Type 0} (read : B → Result (A × B) E) (front : List A) (index count : ℕ) (x : A) (rest next : B) (total : Result (List A × B) E)
    → index < count → read rest ≡ Ok (x, next) → with_front front (times_at read (count - index) rest) ≡ total
    → with_front (front ++ x ∷ []) (times_at read (count - (index + 1)) next) ≡ total
times_step read front index count x rest next total more is goes =
    let fewer : count - index ≡ suc (count - (index + 1)) = omega (arith, more) in
    front_front front (x ∷ []) (times_at read (count - (index + 1)) next)
    ∙ sym (ap (with_front front) (ap (λ (n : ℕ). times_at read n rest) fewer ∙ times_one read (count - (index + 1)) x rest next is)) ∙ goes

-- the next one is none
pub times_fails : {A B E : Type 0} (read : B → Result (A × B) E) (front : List A) (index count : ℕ) (rest : B) (fault : E) (total : Result (List A × B) E)
    → index < count → read rest ≡ Err fault → with_front front (times_at read (count - index) rest) ≡ total → total ≡ Err fault
unfolding times_at
times_fails read front index count rest fault total more is goes =
    let fewer : count - index ≡ suc (count - (index + 1)) = omega (arith, more) in
    sym goes ∙ ap (λ (n : ℕ). with_front front (times_at read n rest)) fewer
    ∙ ap (λ (r : Result (_ × _) _). with_front front (r >>= λ value. times_at read (count - (index + 1)) value.1 >>= λ more. Ok (value.0 ∷ more.0, more.1))) is

-- all were read
pub times_done : {A B E : Type 0} (read : B → Result (A × B) E) (front : List A) (index count : ℕ) (rest : B) (total : Result (List A × B) E)
    → count ≤ index → with_front front (times_at read (count - index) rest) ≡ total → total ≡ Ok (front, rest)
unfolding times_at
times_done read front index count rest total past goes =
    let none : count - index ≡ 0 = omega (arith, past) in
    sym goes ∙ ap (λ (n : ℕ). with_front front (times_at read n rest)) none ∙ ap (λ (ys : List _). Ok (ys, rest)) (append-nil front)
