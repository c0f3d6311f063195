use Rattle.std.proofs.Common.{◌≡◌, ◌∙◌, true≢false, Some, sym, subst}
use Rattle.keeper_store.specs.declared.row_types.AlbumRow.{AlbumRow}
use Rattle.library_model.proofs.Looking.{has_album-none}
use Rattle.catalogue_core.specs.Resumming.{IsResummedIn}
use Rattle.catalogue_core.proofs.Found.{levels_row}
use Rattle.catalogue_core.proofs.resumming.row_with.Goals as goal

pub returns-in-None : goal.returns-in-None
returns-in-None c = λ t next holds there sums.
    absurd (true≢false (sym there ∙ has_album-none c.args.album t.albums (sym (c.in-None.ensures t holds))))

pub returns-in_ok-with_levels-in-Some : goal.returns-in_ok-with_levels-in-Some
returns-in_ok-with_levels-in-Some c = λ t next holds there sums.
    subst (λ (row : AlbumRow). IsResummedIn t next (Some c.args.album) (Some row)) (sym c.in_ok-with_levels-in-Some.ensures)
    (levels_row t next c.args.album c.in-Some.row.now c.args.summary (sym (c.in-Some.ensures t holds)) sums)
