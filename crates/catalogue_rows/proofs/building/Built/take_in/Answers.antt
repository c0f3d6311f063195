use Rattle.std.proofs.Common.{◌≡◌, ℕ, true, List, take, sym, ap, ◌∙◌, subst}
use Rattle.std.proofs.Math.ListN.{get_or}
use Rattle.lib_base.specs.declared.files.Measured.{Measured}
use Rattle.keeper_store.specs.declared.row_types.AlbumRow.{AlbumRow}
use Rattle.keeper_store.specs.declared.row_types.RecordingRow.{RecordingRow}
use Rattle.keeper_store.specs.Puts.{Ascends, album_less}
use Rattle.library_model.specs.RowRules.{album_is_there, measured_in}
use Rattle.album_merge.specs.Tallies.{StandsForMeasured}
use Rattle.catalogue_rows.specs.Opening.{AreAlbumsOf, HavePlace, with_row}
use Rattle.catalogue_rows.specs.Holding.{album_of}
use Rattle.catalogue_rows.proofs.Taken.{its_album, its_place, taken_in}
use Rattle.catalogue_rows.proofs.Unbroken.{unbroken}
use Rattle.catalogue_rows.proofs.building.Built.take_in.Goals as goal

pub put_tally-requires-clause-ascend : goal.put_tally-requires-clause-ascend
put_tally-requires-clause-ascend g c =
    subst (λ (rows : List AlbumRow). Ascends album_less rows) (sym c.as_slice-2.ensures)
    (unbroken c.args.tables.now c.requires.unbroken).albums_ascend

pub put_tally-requires-clause-there : goal.put_tally-requires-clause-there
put_tally-requires-clause-there g c =
    let row = c.index-as_slice-place.result in
    let is : row ≡ get_or c.args.tables.now.recordings c.args.place row =
    c.index-as_slice-place.is ∙ ap (λ (rows : List RecordingRow). get_or rows c.args.place row) c.as_slice.ensures in
    subst (λ (rows : List AlbumRow). album_is_there row.album rows ≡ true) (sym c.as_slice-2.ensures)
    (its_album c.args.tables.now c.args.place row c.requires.unbroken c.requires.inside is)

pub put_tally-requires-clause-place : goal.put_tally-requires-clause-place
put_tally-requires-clause-place g c =
    let row = c.index-as_slice-place.result in
    let is : row ≡ get_or c.args.tables.now.recordings c.args.place row =
    c.index-as_slice-place.is ∙ ap (λ (rows : List RecordingRow). get_or rows c.args.place row) c.as_slice.ensures in
    subst (λ (rows : List AlbumRow). HavePlace row.album row.id rows c.args.self.now.albums.items) (sym c.as_slice-2.ensures)
    (its_place c.args.tables.now c.args.place row c.args.self.now c.requires.unbroken c.requires.inside is c.requires.built)

pub returns : goal.returns
returns g c =
    let t = c.args.tables.now in
    let place = c.args.place in
    let row = c.index-as_slice-place.result in
    let m : Measured = measured_in t row in
    let is : row ≡ get_or t.recordings place row =
    c.index-as_slice-place.is ∙ ap (λ (rows : List RecordingRow). get_or rows place row) c.as_slice.ensures in
    let of : ℕ → List (ℕ × Measured) = album_of t (take place t.recordings) in
    let stands : StandsForMeasured c.in_ok-tally.tally m = c.in_ok-tally.ensures in
    let all : AreAlbumsOf of c.as_slice-2.result.now c.args.self.now.albums.items =
    subst (λ (rows : List AlbumRow). AreAlbumsOf of rows c.args.self.now.albums.items) (sym c.as_slice-2.ensures) c.requires.built.albums in
    let albums : AreAlbumsOf (with_row row m of) t.albums c.put_tally.new.albums.items =
    subst (λ (rows : List AlbumRow). AreAlbumsOf (with_row row m of) rows c.put_tally.new.albums.items) c.as_slice-2.ensures
    (c.in_ok-own.ensures.albums of m stands all) in
    taken_in t place row c.args.self.now (record { albums = c.put_tally.new.albums; tallies = c.push.new.self; other = c.or-self.result })
    c.in_ok-own.own c.other_recording.result c.requires.unbroken c.requires.inside is c.requires.built albums (c.in_ok-own.ensures.own m stands)
    c.in_ok-push.ensures.items (c.other_recording.ensures m stands) c.or-self.ensures
