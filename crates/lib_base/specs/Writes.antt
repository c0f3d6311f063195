-- What a sink tells, and what a write does to it.
use Rattle.std.specs.Prelude.{◌≡◌, ◌≢◌, [], ◌≤◌, ◌<◌, ℕ, List, ◌++◌, length, Option, Result, IfOk, OnOk, OnErr, IsErrOf}
use Rattle.std.specs.Io.KnownBytes.{WriteAppends, Appends}
use Rattle.lib_base.specs.Faults.{CountsFault}
use Rattle.lib_base.specs.declared.outcomes.Outside.{Outside}
use Rattle.lib_base.specs.declared.outcomes.Outside.TheVariants as outside

-- what a sink tells
pub record SinkView : Type 0 where
  -- the bytes written, where it tells them
  pub written : Option (List ℕ)
  -- how many faults it has counted, held to the last value of its counter
  pub faults : ℕ

-- on Ok(n), n is at most the length of the piece, and at least 1 where the piece isn't empty
abbrev pub TakesSome : {E : Type 0} → Result ℕ E → List ℕ → Type 0
TakesSome r piece = IfOk r (λ n. (n ≤ length piece) × (0 < length piece → 0 < n))

-- known bytes grow by a part of bs from its front, and not by all of it
abbrev pub AppendsPart : Option (List ℕ) → Option (List ℕ) → List ℕ → Type 0
AppendsPart old new bs =
    (front : List ℕ) × (rest : List ℕ) × (bs ≡ front ++ rest) × (rest ≢ []) × Appends old new front

-- A write appends bytes from the front of the piece, at least one unless it is empty. A refusal appends none.
pub record Writes (old new : SinkView) (piece : List ℕ) (r : Result ℕ Outside) : Type 0 where
  pub within : TakesSome r piece
  pub content : WriteAppends old.written new.written r piece
  pub faults : CountsFault (IsErrOf r outside.Failed) old.faults new.faults

-- All the bytes were written, or a part of them from the front.
pub record WritesAll {T : Type 0} (old new : SinkView) (bytes : List ℕ) (r : Result T Outside) : Type 0 where
  pub whole : OnOk r (Appends old.written new.written bytes)
  pub part : OnErr r (AppendsPart old.written new.written bytes)
  pub faults : CountsFault (IsErrOf r outside.Failed) old.faults new.faults
