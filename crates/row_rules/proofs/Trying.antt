-- What one turn of the loop over albums finds.
use Rattle.std.proofs.Common.{◌≡◌, ◌<◌, ◌+◌, ℕ, List, [], length, take, reverse, get_or, Option, Some, None, refl, sym, ap, ◌∙◌}
use Rattle.keeper_store.specs.declared.contents.Tables.{Tables}
use Rattle.keeper_store.specs.declared.row_types.AlbumRow.{AlbumRow}
use Rattle.library_model.specs.declared.bad_rows.BadRow.{BadRow}
use Rattle.library_model.specs.declared.bad_rows.RowRule.{RowRule}
use Rattle.library_model.specs.declared.bad_rows.RowTable.TheVariants.{Albums}
use Rattle.library_model.specs.RowRules.{bad_at, first_bad_of, album_rule, album_before, bad_album, member_count}
use Rattle.row_rules.proofs.Walking.{NoneSoFar, found, passed, seen_more}

-- the row at a place of a table, which is tried after those before it
pub record IsAt {A : Type 0} (rows : List A) (i : ℕ) (row : A) : Type 0 where
  pub inside : i < length rows
  pub row_is : row ≡ get_or rows i row

pub record AlbumTried (t : Tables) (i before members : ℕ) (row : AlbumRow) : Type 0 where
  pub at : IsAt t.albums i row
  pub before_is : before ≡ album_before (reverse (take i t.albums))
  pub members_are : members ≡ member_count row.id t.recordings
  pub none : NoneSoFar (bad_album t) t.albums i

album_at : (t : Tables) (i before members : ℕ) (row : AlbumRow) (rule : Option RowRule) → AlbumTried t i before members row
    → rule ≡ album_rule t.next_album before members row → bad_album t (reverse (take i t.albums)) row ≡ bad_at Albums row.id rule
album_at t i before members row rule tried is = rw (is, tried.before_is, tried.members_are) refl

pub album_found : (t : Tables) (i before members : ℕ) (row : AlbumRow) (result : Option RowRule) (rule : RowRule)
    → AlbumTried t i before members row → result ≡ album_rule t.next_album before members row → result ≡ Some rule
    → Some (record { table = Albums; id = row.id; rule = rule }) ≡ first_bad_of (bad_album t) [] t.albums
album_found t i before members row result rule tried is some =
    found (bad_album t) t.albums i row (record { table = Albums; id = row.id; rule = rule }) tried.at.inside tried.at.row_is tried.none
    (album_at t i before members row result tried is ∙ ap (bad_at Albums row.id) some)

pub album_passed : (t : Tables) (i before members : ℕ) (row : AlbumRow) (result : Option RowRule)
    → AlbumTried t i before members row → result ≡ album_rule t.next_album before members row → result ≡ None
    → NoneSoFar (bad_album t) t.albums (i + 1)
album_passed t i before members row result tried is none =
    passed (bad_album t) t.albums i row tried.at.inside tried.at.row_is tried.none
    (album_at t i before members row result tried is ∙ ap (bad_at Albums row.id) none)

pub album_next : (t : Tables) (i : ℕ) (row : AlbumRow) → IsAt t.albums i row → row.id ≡ album_before (reverse (take (i + 1) t.albums))
album_next t i row at = sym (ap album_before (seen_more t.albums i row at.inside at.row_is))
