-- What a library keeps.
use Rattle.std.specs.Prelude.{ℕ, List, [], ◌∷◌, Option, None, Some}
use Rattle.catalogue_rows.specs.Holding as rows
use Rattle.catalogue_rows.specs.Seeing as seeing
use Rattle.keeper_store.specs.declared.contents.NextNumbers.{NextNumbers}
use Rattle.keeper_store.specs.declared.contents.Tables.{Tables}
use Rattle.library_model.specs.State.{State}
use Rattle.library_model.specs.Stands.{IsValid, tables_of}
use Rattle.catalogue_core.specs.declared.libraries.Library.{Library}

-- the numbers that come next
abbrev pub numbers_of : Library → NextNumbers
numbers_of library = rows.numbers_of library.rows

-- the library holds these tables
abbrev pub Holds : Library → Tables → Type 0
Holds library t = rows.Holds library.rows t

-- no reply is kept under the token
abbrev pub IsFresh : Library → List ℕ → Type 0
IsFresh library token = seeing.IsFresh library.rows token

-- the take that the last commit took out of the recordings, until it is swept
abbrev pub released_of : Library → Option ℕ
released_of library = library.released

-- a take as a list of one, or of none
abbrev pub takes_of : Option ℕ → List ℕ
takes_of None = []
takes_of (Some take) = take ∷ []

-- The library keeps a state: a valid one, of which it holds the tables.
pub record Keeps (library : Library) (s : State) : Type 0 where
  pub valid : IsValid s
  pub rows : Holds library (tables_of s)

-- the library holds what it held
abbrev pub HoldsAgain : Library → Library → Type 0
HoldsAgain old new = (t : Tables) → Holds old t → Holds new t
