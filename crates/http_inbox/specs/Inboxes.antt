-- What an inbox takes from a source, and the head that is found in it.
use Rattle.std.specs.Prelude.{◌≡◌, ◌≢◌, ◌<◌, ◌≤◌, ◌+◌, ◌⊎◌, ℕ, List, [], ◌++◌, length, Option, Some, Result, MatchOption, MatchResult, IfOk, IsErr}
use Rattle.std.specs.Io.KnownBytes.{Consumes, IsAtEnd}
use Rattle.httparse.specs.Grammar.{RequestHead}
use Rattle.lib_base.specs.Faults.{CountsFault}
use Rattle.lib_base.specs.Sources.{SourceView}
use Rattle.http_model.specs.Requests.{HasNoHead, head_limit}
use Rattle.http_inbox.specs.Heads.{IsHeadingOf}
use Rattle.http_inbox.specs.declared.inbox.HeadRead.{HeadRead}
use Rattle.http_inbox.specs.declared.inbox.HeadRead.TheVariants.{Ended, Head, NoHead, Fault}

-- P holds of all bytes that begin with those that were taken; or the source is at its end, and P holds of those that were taken. So P holds
-- of all that the source had, whether it tells that or not.
abbrev pub Covers : Option (List ℕ) → List ℕ → (List ℕ → Type 0) → Type 0
Covers left taken P = (IsAtEnd left × P taken) ⊎ ((more : List ℕ) → P (taken ++ more))

-- A piece was taken from the source, and stands behind what was there.
pub record Draws (old new : SourceView) (before now : List ℕ) : Type 0 where
  pub piece : List ℕ
  pub kept : now ≡ before ++ piece
  pub content : Consumes old.left new.left piece

-- One read drew so many bytes, none only where the source is at its end or no room was left, or it failed and drew none.
pub record DrawsPiece {E : Type 0} (old new : SourceView) (before now : List ℕ) (r : Result ℕ E) : Type 0 where
  pub draws : Draws old new before now
  pub count : MatchResult r (λ n. length now ≡ length before + n) (λ _. now ≡ before)
  pub at_end : IfOk r (λ n. n ≡ 0 → length before < head_limit → IsAtEnd new.left)
  pub short : length now ≤ head_limit
  pub faults : CountsFault (IsErr r) old.faults new.faults

-- what is found of the bytes that are there
abbrev pub Finds : Option (List ℕ) → List ℕ → HeadRead → Type 0
Finds left bytes Ended = (bytes ≡ []) × IsAtEnd left
Finds left bytes (Head heading) = (head : RequestHead) × IsHeadingOf bytes heading head
Finds left bytes NoHead = (bytes ≢ []) × Covers left bytes HasNoHead
Finds left bytes Fault = HasNoHead bytes

-- what is found at the end of the source, where no head begins the bytes
abbrev pub FindsAtEnd : List ℕ → HeadRead → Type 0
FindsAtEnd bytes end = ((end ≡ Ended) × (bytes ≡ [])) ⊎ ((end ≡ NoHead) × (bytes ≢ []))

-- A head was looked for, and where none was there as yet, one piece was read: it is found, or bytes came.
pub record TriesHead (old new : SourceView) (before now : List ℕ) (r : Option HeadRead) : Type 0 where
  pub draws : Draws old new before now
  pub found : MatchOption r (length before < length now) (Finds new.left now)
  pub short : length now ≤ head_limit
  pub faults : CountsFault (r ≡ Some Fault) old.faults new.faults

-- Reading a head drew these bytes, and found so.
pub record ReadsHead (old new : SourceView) (before now : List ℕ) (end : HeadRead) : Type 0 where
  pub draws : Draws old new before now
  pub found : Finds new.left now end
  pub faults : CountsFault (end ≡ Fault) old.faults new.faults
