-- The first row with another summary is the first bad row, where no row breaks another rule.
use Rattle.std.proofs.Common.{◌≡◌, Option, None, Some, inr}
use Rattle.keeper_store.specs.declared.contents.Tables.{Tables}
use Rattle.library_model.specs.declared.bad_rows.BadRow.{BadRow}
use Rattle.library_model.specs.RowRules.{first_bad_row, IsFirstBad}
use Rattle.catalogue_rows.specs.Opening.{IsFirstAnswer}
use Rattle.catalogue_rows.proofs.Taken.{none_bad}

pub bad_of_summary : (t : Tables) (answer : Option BadRow) → first_bad_row t ≡ None → IsFirstAnswer t answer → IsFirstBad t answer
bad_of_summary t None none summed = none_bad t none summed
bad_of_summary t (Some bad) none first = inr (none, first)
