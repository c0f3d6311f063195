-- What reading gives: a value, or the fault that came first.
use Rattle.std.specs.Prelude.{◌≡◌, ◌⊎◌, ℕ, zero, suc, Bool, true, if◌then◌else◌, List, [], ◌∷◌, Result, Ok, Err}

infixl 10 ◌>>=◌
-- first the one, then the next with its value; a fault ends both
abbrev pub ◌>>=◌ : {A B E : Type 0} → Result A E → (A → Result B E) → Result B E
(Ok value) >>= next = next value
(Err fault) >>= next = Err fault

-- a call returned what reading gives, its value as it is seen
abbrev pub Gives : {X Y E : Type 0} → (X → Y) → Result X E → Result Y E → Type 0
Gives view (Ok value) read = read ≡ Ok (view value)
Gives view (Err fault) read = read ≡ Err fault

-- a value where a fact holds, and else a fault
abbrev pub holds : {E : Type 0} → Bool → E → Result Bool E
holds fact fault = if fact then Ok true else Err fault

-- as many readings of one kind, one after another: their values, and what is behind them
unfoldable pub times_at : {A B E : Type 0} → (B → Result (A × B) E) → ℕ → B → Result (List A × B) E
times_at read zero rest = Ok ([], rest)
times_at read (suc count) rest = do
  value ← read rest
  more ← times_at read count value.1
  Ok (value.0 ∷ more.0, more.1)

-- What comes out is this. Where readings relate to what they give, this is one that is a function.
abbrev pub Is : {B E : Type 0} → Result B E → Result B E → Type 0
Is given out = out ≡ given

-- First the one reading, then the next with its value. A fault ends both.
abbrev pub Then : {A B E : Type 0} → (Result A E → Type 0) → (A → Result B E → Type 0) → Result B E → Type 0
Then {A = A} {E = E} First Next out =
    ((value : A) × First (Ok value) × Next value out) ⊎ ((fault : E) × First (Err fault) × (out ≡ Err fault))

-- The value for which a fact holds, or a fault where it holds for none.
abbrev pub Finds : {A E : Type 0} → (A → Type 0) → E → Result A E → Type 0
Finds {A = A} Holds fault (Ok value) = Holds value
Finds {A = A} Holds fault (Err other) = ((value : A) → ¬ Holds value) × (other ≡ fault)
