-- What reading straight to where bytes are wanted does.
use Rattle.std.specs.Prelude.{◌≡◌, ◌≤◌, ◌<◌, ℕ, List, length, take}
use Rattle.std.specs.Io.KnownBytes.{Consumes, IsAtEnd}
use Rattle.lib_base.specs.Faults.{CountsFault}
use Rattle.lib_base.specs.Sources.{SourceView}
use Rattle.lib_base.specs.declared.sources.ReadEnd.{ReadEnd}
use Rattle.lib_base.specs.declared.sources.ReadEnd.TheVariants as read

-- So many bytes were taken from the source, and stand at the front of `into`. The reading ended so: at the source's end or
-- at a fault, before `into` was full, or where it was.
pub record Fills (old new : SourceView) (into : List ℕ) (count : ℕ) (end : ReadEnd) : Type 0 where
  pub within : count ≤ length into
  pub content : Consumes old.left new.left (take count into)
  pub at_end : end ≡ read.End → IsAtEnd new.left
  pub short : end ≡ read.End → count < length into
  pub full : end ≡ read.Full → count ≡ length into
  pub cut : end ≡ read.Fault → count < length into
  pub faults : CountsFault (end ≡ read.Fault) old.faults new.faults
