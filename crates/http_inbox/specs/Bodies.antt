-- What reading a body does.
use Rattle.std.specs.Prelude.{◌≡◌, ◌<◌, ℕ, List, [], ◌++◌, length, Option, ⊤}
use Rattle.std.specs.Io.KnownBytes.{Consumes, IsAtEnd}
use Rattle.lib_base.specs.Faults.{CountsFault}
use Rattle.lib_base.specs.Sources.{SourceView}
use Rattle.lib_base.specs.declared.sources.ReadEnd.{ReadEnd}
use Rattle.lib_base.specs.declared.sources.ReadEnd.TheVariants as read
use Rattle.http_inbox.specs.declared.bodies.BodyRead.{BodyRead}
use Rattle.http_inbox.specs.declared.bodies.BodyRead.TheVariants.{Whole, Cut, Fault, Memory}
use Rattle.http_inbox.specs.Inboxes.{Draws}

-- Bytes were drawn to behind those that were there, of which so many were wanted in all. The reading ended so: at the
-- source's end or at a fault, before as many were there, or where they were.
pub record DrawsUpTo (old new : SourceView) (before now : List ℕ) (size : ℕ) (end : ReadEnd) : Type 0 where
  pub draws : Draws old new before now
  pub at_end : end ≡ read.End → IsAtEnd new.left
  pub short : end ≡ read.End → length now < size
  pub full : end ≡ read.Full → length now ≡ size
  pub cut : end ≡ read.Fault → length now < size
  pub faults : CountsFault (end ≡ read.Fault) old.faults new.faults

-- What is found where so many bytes were wanted and these came: all of them, or fewer, at the source's end or at a fault.
abbrev pub IsBodyFound : Option (List ℕ) → List ℕ → ℕ → BodyRead → Type 0
IsBodyFound left came size (Whole body) = (body ≡ came) × (length came ≡ size)
IsBodyFound left came size Cut = IsAtEnd left × (length came < size)
IsBodyFound left came size Fault = length came < size
IsBodyFound left came size Memory = ⊤

-- A body of that size was read, of which these bytes were there. A piece was taken from the source, which is the rest of it
-- or a part of that.
pub record ReadsBody (old new : SourceView) (there : List ℕ) (size : ℕ) (r : BodyRead) : Type 0 where
  pub piece : List ℕ
  pub content : Consumes old.left new.left piece
  pub found : IsBodyFound new.left (there ++ piece) size r
  pub untouched : r ≡ Memory → piece ≡ []
  pub faults : CountsFault (r ≡ Fault) old.faults new.faults
