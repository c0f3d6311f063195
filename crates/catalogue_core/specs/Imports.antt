-- What comes with a file that is accepted.
use Rattle.std.specs.Prelude.{◌≡◌, ◌==◌, ℕ, true, List, Option, None, Some}
use Rattle.std.specs.List.{find}
use Rattle.album_merge.specs.Tallies.{Tallied}
use Rattle.file_model.specs.Files.{Reads}
use Rattle.file_model.specs.Pcm.{Pcm}
use Rattle.file_model.specs.Reading.{accepted}
use Rattle.lib_base.specs.declared.files.Measured.{Measured}
use Rattle.keeper_store.specs.declared.row_types.RecordingRow.{RecordingRow}
use Rattle.library_model.specs.Machine.{kept_under}
use Rattle.library_model.specs.Names.{is_name}
use Rattle.library_model.specs.RowRules.{album_is_there}
use Rattle.library_model.specs.Stands.{IsValid, IsWithinLimit, tables_of}
use Rattle.library_model.specs.State.{State}
use Rattle.catalogue_core.specs.Examining.{IsMeasuredOf}

-- The file is within the body limit and accepted, as a sound of which that is measured.
pub record IsTake (file : List ℕ) (m : Measured) (tally : Tallied) : Type 0 where
  pub within : IsWithinLimit file
  pub sound : Pcm
  pub reads : Reads file (accepted sound)
  pub measured : IsMeasuredOf sound m tally

-- In s, a valid state, the token is fresh.
pub record IsOpenTo (s : State) (token : List ℕ) : Type 0 where
  pub valid : IsValid s
  pub fresh : kept_under token s.replies ≡ None

-- The name has its form, and the album that is named is there.
pub record IsHome (s : State) (album : Option ℕ) (name : List ℕ) : Type 0 where
  pub named : is_name name ≡ true
  pub there : album_is_there album (tables_of s).albums ≡ true

-- the recording of an id has this row
abbrev pub HasRow : State → ℕ → RecordingRow → Type 0
HasRow s id row = find (λ (r : RecordingRow). r.id == id) (tables_of s).recordings ≡ Some row
