-- What is kept under tokens, and which albums are full.
use Rattle.std.specs.Prelude.{ℕ, Bool, false, List, Option, None, Some, nat_le}
use Rattle.lib_base.specs.declared.limits.TheConstants.{MOST_MEMBERS}
use Rattle.keeper_store.specs.declared.contents.Tables.{Tables}
use Rattle.kept_replies.specs.Holding as replies
use Rattle.library_model.specs.RowRules.{member_count}
use Rattle.catalogue_rows.specs.declared.rows.CatalogueRows.{CatalogueRows}

-- nothing is kept under the token
abbrev pub IsFresh : CatalogueRows → List ℕ → Type 0
IsFresh rows token = replies.IsFresh rows.replies token

-- the album that is named, if one is, has no place for another recording
abbrev pub is_full_in : Tables → Option ℕ → Bool
is_full_in t None = false
is_full_in t (Some album) = nat_le MOST_MEMBERS (member_count album t.recordings)
