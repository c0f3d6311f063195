-- The end of a batch: albums with other levels, and the kept reply.
use Rattle.std.proofs.Common.{◌≡◌, ℕ, true, List, [], ◌∷◌, Option, None, Some, refl, sym, ap, ◌∙◌, subst, inl}
use Rattle.std.specs.List.{AllByRecursion}
use Rattle.catalogue_rows.specs.Making.{FitsAll}
use Rattle.catalogue_rows.specs.declared.fresh.Fresh.{Fresh}
use Rattle.keeper_store.specs.Changes.{changed}
use Rattle.keeper_store.specs.Puts.{album_less, put}
use Rattle.keeper_store.specs.declared.contents.Change.TheVariants.{PutAlbum}
use Rattle.keeper_store.specs.declared.contents.Tables.{Tables}
use Rattle.keeper_store.specs.declared.row_types.AlbumRow.{AlbumRow}
use Rattle.library_model.specs.Batches.{AreResummed, IsResummed, closing, ids_in}
use Rattle.library_model.specs.RowRules.{has_album}
use Rattle.library_model.specs.declared.messages.Reply.{Reply}
use Rattle.library_model.proofs.InOrderLemmas.{has_album-put}
use Rattle.library_model.proofs.Looking.{album_named, has_album-some}
use Rattle.catalogue_core.specs.Resumming.{IsResummedIn, in_list}

-- albums are there
abbrev AreThere : List AlbumRow → List AlbumRow → Type 0
AreThere albums rows = AllByRecursion (λ (row : AlbumRow). has_album row.id albums ≡ true) rows

-- also once one of them is put
there_still : (albums : List AlbumRow) (new : AlbumRow) (rows : List AlbumRow) → AreThere albums rows → AreThere (put album_less new albums) rows
there_still albums new [] there = tt
there_still albums new (row ∷ rows) there = (has_album-put row.id new albums there.0, there_still albums new rows there.1)

-- The rows of albums that are there can be put, and then the reply.
pub closing_fits : (albums : List AlbumRow) (token mark : List ℕ) (reply : Reply) (fresh : Fresh) (t : Tables)
    → AreThere t.albums albums → FitsAll (closing albums token mark reply) fresh t
closing_fits [] token mark reply fresh t there = (tt, tt)
closing_fits (row ∷ albums) token mark reply fresh t there = (
  inl there.0,
  closing_fits albums token mark reply (record fresh { album = None }) (changed (PutAlbum row) t) (there_still t.albums row albums there.1),
)

-- The row of an album with other levels has its id.
pub resummed_id : (t next : Tables) (id : ℕ) (row : AlbumRow) → IsResummed t.albums next id row → row.id ≡ id
resummed_id t next id row is = ap (λ (a : AlbumRow). a.id) is.row_is ∙ album_named id t.albums is.old is.found

-- Albums with other levels are there.
pub resummed_there : (t next : Tables) (ids : List ℕ) (rows : List AlbumRow) → AreResummed t.albums next ids rows → AreThere t.albums rows
resummed_there t next [] [] are = tt
resummed_there t next [] (row ∷ rows) are = absurd are
resummed_there t next (id ∷ ids) [] are = absurd are
resummed_there t next (id ∷ ids) (row ∷ rows) are =
    let there : has_album id t.albums ≡ true = has_album-some id t.albums are.0.old are.0.found in
    (subst (λ (n : ℕ). has_album n t.albums ≡ true) (sym (resummed_id t next id row are.0)) there, resummed_there t next ids rows are.1)

-- The row of the album that is named is the one album with other levels, if one is named.
pub resummed_list : (t next : Tables) (album : Option ℕ) (row : Option AlbumRow) → IsResummedIn t next album row
    → AreResummed t.albums next (ids_in album) (in_list row)
resummed_list t next None None is = tt
resummed_list t next None (Some row) is = absurd is
resummed_list t next (Some album) None is = absurd is
resummed_list t next (Some album) (Some row) is = (is, tt)
