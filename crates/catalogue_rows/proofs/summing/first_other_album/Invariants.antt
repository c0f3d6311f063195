use Rattle.std.proofs.Common.{◌≤◌, ◌-◌, ℕ, List, length, take}
use Rattle.std.specs.List.{AllByRecursion}
use Rattle.lib_base.specs.declared.files.Measured.{Measured}
use Rattle.keeper_store.specs.declared.row_types.AlbumRow.{AlbumRow}
use Rattle.album_merge.specs.Members.{measured_of}
use Rattle.sound_model.specs.Albums.{IsAlbumSummary}
use Rattle.catalogue_rows.specs.Opening.{AreAlbumsOf}
use Rattle.catalogue_rows.proofs.summing.first_other_album.Given as goal

abbrev pub invariant-loop-place : goal.invariant-loop-place
invariant-loop-place g l = record {
  inside : l.place ≤ length l.rows;
  summed : (of : ℕ → List (ℕ × Measured)) → AreAlbumsOf of l.rows l.albums
      → AllByRecursion (λ (row : AlbumRow). IsAlbumSummary (measured_of (of row.id)) row.summary) (take l.place l.rows);
}

abbrev pub decreases-loop-place : goal.decreases-loop-place
decreases-loop-place g l = length l.rows - l.place
