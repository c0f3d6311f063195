-- What a door tells, and what it does to its connections.
use Rattle.std.specs.Prelude.{◌≡◌, ◌≤◌, ◌+◌, ◌-◌, ◌^◌, ℕ, zero, suc, min, Bool, false, List, [], ◌∷◌, ◌++◌, Option, None, Some, Result, IfOk, OnErr, IsErrOf, is_ok, ⊤}
use Rattle.lib_base.specs.Faults.{CountsFault}
use Rattle.lib_base.specs.Sources.{SourceView}
use Rattle.lib_base.specs.Writes.{SinkView}
use Rattle.lib_base.specs.declared.outcomes.Outside.{Outside}
use Rattle.lib_base.specs.declared.outcomes.Outside.TheVariants as outside

-- what a door tells
pub record DoorView : Type 0 where
  -- the connections that are left, each as what its source holds, where it tells them
  pub waiting : Option (List (List ℕ))
  -- what each ended connection wrote, in the order of `back`, where it tells it
  pub ended : Option (List (List ℕ))
  -- whether a connection is out
  pub is_out : Bool
  -- how many faults it has counted, held to the last value of its counter
  pub faults : ℕ
  -- how many sources came back with a fault, held to the last value of its counter
  pub failed_sources : ℕ
  -- how many sinks came back with a fault, held to the last value of its counter
  pub failed_sinks : ℕ

-- known lists stay as they were
abbrev pub KeepsLists : Option (List (List ℕ)) → Option (List (List ℕ)) → Type 0
KeepsLists None new = ⊤
KeepsLists (Some xs) None = ⊥
KeepsLists (Some xs) (Some ys) = ys ≡ xs

-- known connections lose the first, which is what the source has left
abbrev pub GivesFirst : Option (List (List ℕ)) → Option (List (List ℕ)) → Option (List ℕ) → Type 0
GivesFirst None new left = ⊤
GivesFirst (Some xs) None left = ⊥
GivesFirst (Some xs) (Some ys) None = ⊥
GivesFirst (Some xs) (Some ys) (Some bytes) = xs ≡ bytes ∷ ys

-- what a sink tells is empty, and it tells where the door tells what ended connections wrote
abbrev pub GivesEmpty : Option (List (List ℕ)) → Option (List ℕ) → Type 0
GivesEmpty ended (Some bytes) = bytes ≡ []
GivesEmpty None None = ⊤
GivesEmpty (Some xs) None = ⊥

-- known lists grow by what the sink tells
abbrev pub AppendsOne : Option (List (List ℕ)) → Option (List (List ℕ)) → Option (List ℕ) → Type 0
AppendsOne None new written = ⊤
AppendsOne (Some xs) None written = ⊥
AppendsOne (Some xs) (Some ys) None = ⊥
AppendsOne (Some xs) (Some ys) (Some bytes) = ys ≡ xs ++ bytes ∷ []

-- a count of failed halves, one more where the half has counted a fault, up to its last value
abbrev pub count_with : ℕ → ℕ → ℕ
count_with count zero = count
count_with count (suc faults) = min (count + 1) (2 ^ 64 - 1)

-- The first connection is taken out: its source, and an empty sink, as they are seen. A refusal takes none out.
pub record GivesConnection {In Out : Type 0} (source : In → SourceView) (sink : Out → SinkView) (old new : DoorView)
    (r : Result (In × Out) Outside) : Type 0 where
  pub out : new.is_out ≡ is_ok r
  pub first : IfOk r (λ halves. GivesFirst old.waiting new.waiting (source halves.0).left)
  pub empty : IfOk r (λ halves. GivesEmpty old.ended (sink halves.1).written)
  pub sound_source : IfOk r (λ halves. (source halves.0).faults ≡ 0)
  pub sound_sink : IfOk r (λ halves. (sink halves.1).faults ≡ 0)
  pub refused : OnErr r (KeepsLists old.waiting new.waiting)
  pub ended : KeepsLists old.ended new.ended
  pub faults : CountsFault (IsErrOf r outside.Failed) old.faults new.faults
  pub failed_sources : new.failed_sources ≡ old.failed_sources
  pub failed_sinks : new.failed_sinks ≡ old.failed_sinks

-- The connection that is out ends, with these halves, and what its sink holds is kept.
pub record EndsConnection (source : SourceView) (sink : SinkView) (old new : DoorView) : Type 0 where
  pub out : new.is_out ≡ false
  pub waiting : KeepsLists old.waiting new.waiting
  pub ended : AppendsOne old.ended new.ended sink.written
  pub later : old.faults ≤ new.faults
  pub failed_sources : new.failed_sources ≡ count_with old.failed_sources source.faults
  pub failed_sinks : new.failed_sinks ≡ count_with old.failed_sinks sink.faults
