-- The orders of kept rows: those of their rows.
use Rattle.std.specs.Prelude.{ℕ, Bool}
use Rattle.keeper_store.specs.Orders.{albums_in_order, recordings_in_order}
use Rattle.keeper_store.specs.Puts.{IsOrder, album_less, recording_less}
use Rattle.catalogue_rows.specs.declared.kept.KeptAlbum.{KeptAlbum}
use Rattle.catalogue_rows.specs.declared.kept.KeptRecording.{KeptRecording}

-- albums ascend by their ids
abbrev pub kept_album_less : KeptAlbum → KeptAlbum → Bool
kept_album_less a b = album_less a.row b.row

-- recordings ascend by their ids
abbrev pub kept_recording_less : KeptRecording → KeptRecording → Bool
kept_recording_less a b = recording_less a.row b.row

abbrev pub kept_album_id : KeptAlbum → ℕ
kept_album_id kept = kept.row.id

abbrev pub kept_recording_id : KeptRecording → ℕ
kept_recording_id kept = kept.row.id

pub kept_albums_in_order : IsOrder kept_album_less
kept_albums_in_order = record {
  chain = λ a b c. albums_in_order.chain a.row b.row c.row;
  level = λ a b c. albums_in_order.level a.row b.row c.row;
}

pub kept_recordings_in_order : IsOrder kept_recording_less
kept_recordings_in_order = record {
  chain = λ a b c. recordings_in_order.chain a.row b.row c.row;
  level = λ a b c. recordings_in_order.level a.row b.row c.row;
}
