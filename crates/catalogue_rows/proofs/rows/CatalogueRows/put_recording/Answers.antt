use Rattle.std.proofs.Common.{arith, ◌+◌, Option, refl, sym, subst}
use Rattle.std.proofs.lemmas.Option.{IfSome_then}
use Rattle.keeper_store.specs.Puts.{without, recording_id}
use Rattle.album_merge.specs.Tallies.{Tallied}
use Rattle.library_model.specs.RowRules.{measured_in}
use Rattle.catalogue_rows.specs.Holding.{album_of}
use Rattle.catalogue_rows.specs.Places.{IsTallyOf}
use Rattle.catalogue_rows.specs.Room.{and_one, one_in}
use Rattle.catalogue_rows.proofs.Held.{Holds-put, few_but, tables_rise, tally_for}
use Rattle.catalogue_rows.proofs.Sums.{few_put}
use Rattle.catalogue_rows.proofs.rows.CatalogueRows.put_recording.Goals as goal

pub place_in-beside-requires-clause-place : goal.place_in-beside-requires-clause-place
place_in-beside-requires-clause-place c = c.lift-own.ensures.room.places (one_in c.args.row.album) c.requires.place

pub put_row-requires-clause-room : goal.put_row-requires-clause-room
put_row-requires-clause-room c = let mid = c.lift-own.ensures.room.room 1 c.requires.room in omega (arith, mid.recordings)

pub returns-clause-held : goal.returns-clause-held
returns-clause-held c t holds fits =
    let row = c.args.row in
    let but = c.lift-own.ensures.but t holds in
    let few = few_put t row t.recordings (tables_rise c.args.self.now t holds.recordings) fits.few in
    let stands = subst (λ (o : Option Tallied). IsTallyOf o (measured_in t row)) (sym c.or.ensures)
    (tally_for t row c.args.tally c.lift-own.result fits.its
    (IfSome_then c.lift-own.result c.lift-own.ensures.tally (λ tally all r found. all t r holds found))
    (λ r found there. c.lift-own.ensures.some t r holds found there)) in
    Holds-put c.lift-own.new.self _ t row c.place_in-beside.result but c.place_in-beside.ensures.kept.rows
    (c.place_in-beside.ensures.members (album_of t (without recording_id row.id t.recordings)) (measured_in t row) but.in_albums stands
    (few_but t row.album row.id t.recordings few))
    (c.place_in-beside.ensures.own (measured_in t row) stands) c.put_row.ensures.items refl refl

pub returns-clause-room : goal.returns-clause-room
returns-clause-room c more has =
    let mid = c.lift-own.ensures.room.room (more + 1) has in
    let kept = c.place_in-beside.ensures.kept in
    record {
      albums = omega (arith, mid.albums, kept.len, kept.capacity);
      recordings = omega (arith, mid.recordings, c.put_row.ensures.len, c.put_row.ensures.capacity);
      replies = omega (arith, mid.replies);
    }

pub returns-clause-places : goal.returns-clause-places
returns-clause-places c more has =
    c.place_in-beside.ensures.places more (c.lift-own.ensures.room.places (and_one c.args.row.album more) has)
