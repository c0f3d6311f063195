-- What the tables have for a recording's row, as the code carries it.
use Rattle.library_model.specs.RowRules.{BesideRow}
use Rattle.row_rules.specs.declared.recordings.Beside.{Beside}

abbrev pub beside_of : Beside → BesideRow
beside_of beside = record {
  album_there = beside.album_there;
  segments_there = beside.segments_there;
  take_named = beside.take_named;
}
