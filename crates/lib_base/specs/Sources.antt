-- What a source tells, and what reading does to it.
use Rattle.std.specs.Prelude.{◌≡◌, ◌≤◌, ◌<◌, ℕ, List, length, Option, Result, IsErr}
use Rattle.std.specs.Io.{ReadsAtMost}
use Rattle.std.specs.Io.KnownBytes.{ReadConsumes, Consumes, IsAtEnd}
use Rattle.lib_base.specs.Faults.{CountsFault}
use Rattle.lib_base.specs.declared.sources.ReadEnd.{ReadEnd}
use Rattle.lib_base.specs.declared.sources.ReadEnd.TheVariants as read

-- what a source tells
pub record SourceView : Type 0 where
  -- the bytes that are left, where it tells them
  pub left : Option (List ℕ)
  -- how many faults it has counted, held to the last value of its counter
  pub faults : ℕ

-- A read moves bytes from the front of what is left to the front of `into`: at most as many as that holds. None of a
-- piece that isn't empty means that the source is at its end. A refusal moves none.
pub record Reads {E : Type 0} (old new : SourceView) (into : List ℕ) (r : Result ℕ E) : Type 0 where
  pub within : ReadsAtMost r into
  pub content : ReadConsumes old.left new.left r into
  pub faults : CountsFault (IsErr r) old.faults new.faults

-- A reading of many pieces took these bytes, of at most `most`, and ended so: at the source's end, with as many bytes as
-- were asked for, or at a fault.
pub record Takes (old new : SourceView) (most : ℕ) (bytes : List ℕ) (end : ReadEnd) : Type 0 where
  pub content : Consumes old.left new.left bytes
  pub within : length bytes ≤ most
  pub at_end : end ≡ read.End → IsAtEnd new.left
  pub short : end ≡ read.End → length bytes < most
  pub full : end ≡ read.Full → length bytes ≡ most
  pub cut : end ≡ read.Fault → length bytes < most
  pub faults : CountsFault (end ≡ read.Fault) old.faults new.faults
