-- What is looked up in rows that a library holds.
use Rattle.std.proofs.Common.{◌≡◌, ◌==◌, ℕ, Bool, true, false, List, map, length, Option, None, Some, Bor, refl, sym, ap, ◌∙◌, subst, cond}
use Rattle.std.specs.List.{find}
use Rattle.std.specs.Prelude.{is_some, option_copied}
use Rattle.std.proofs.lemmas.List.{length-map}
use Rattle.std.proofs.lemmas.List.Sums.{length-filter}
use Rattle.catalogue_rows.specs.Trying.{IsSumIn}
use Rattle.lib_base.specs.declared.files.Summary.{Summary}
use Rattle.keeper_store.specs.Puts.{recording_id}
use Rattle.keeper_store.specs.declared.contents.Tables.{Tables}
use Rattle.keeper_store.specs.declared.row_types.AlbumRow.{AlbumRow}
use Rattle.keeper_store.specs.declared.row_types.RecordingRow.{RecordingRow}
use Rattle.library_model.specs.RowRules.{has_album, is_in_album, member_count, members_in}
use Rattle.library_model.proofs.Looking.{album_named, has_album-none, has_album-some}
use Rattle.catalogue_core.specs.Resumming.{IsResummedIn}

-- an album is there where its row is found
pub there_as_found : (id : ℕ) (rows : List AlbumRow) (found : Option (Bor AlbumRow))
    → option_copied found ≡ find (λ (a : AlbumRow). a.id == id) rows → is_some found ≡ has_album id rows
there_as_found id rows None is = sym (has_album-none id rows (sym is))
there_as_found id rows (Some row) is = sym (has_album-some id rows row.now (sym is))

-- as many ids as recordings
pub count_ids : (id : ℕ) (rows : List RecordingRow) (ids : List ℕ) → ids ≡ map recording_id (members_in id rows) → length ids ≡ member_count id rows
count_ids id rows ids is =
    ap (λ (xs : List ℕ). length xs) is ∙ length-map (members_in id rows) recording_id
    ∙ length-filter (λ (r : RecordingRow). is_in_album id r.album) rows

-- The row of an album that is found is that with its levels.
pub levels_row : (t next : Tables) (album : ℕ) (row : AlbumRow) (summary : Summary) → find (λ (a : AlbumRow). a.id == album) t.albums ≡ Some row
    → IsSumIn next album summary → IsResummedIn t next (Some album) (Some (record { id = row.id; name = row.name; summary = summary }))
levels_row t next album row summary is sums = record {
  old = row;
  found = is;
  row_is = refl;
  summed = subst (λ (n : ℕ). IsSumIn next n summary) (sym (album_named album t.albums row is)) sums;
}
