use Rattle.std.proofs.Common.{refl, ap, subst}
use Rattle.keeper_store.specs.declared.row_types.RecordingRow.{RecordingRow}
use Rattle.keeper_store.specs.Puts.{without, recording_id}
use Rattle.album_merge.specs.Tallies.{StandsForMeasured}
use Rattle.library_model.specs.RowRules.{measured_in}
use Rattle.catalogue_rows.specs.Holding.{album_of, recording_row}
use Rattle.catalogue_rows.specs.Places.{IsFewIn}
use Rattle.catalogue_rows.proofs.Albums.{place_alone}
use Rattle.catalogue_rows.proofs.Held.{Holds-back, at_as, few_but, home_at, none_as, none_found, rise_set, row_is, same_at}
use Rattle.catalogue_rows.proofs.rows.CatalogueRows.bring_back.Goals as goal

pub returns-in_default-clause-held : goal.returns-in_default-clause-held
returns-in_default-clause-held c t row but found stands few =
    absurd (none_found c.args.id c.args.self.now.recordings.items t.recordings row but.recordings
    (none_as c.args.id c.args.self.now.recordings.items c.as_slice.result.now c.as_slice.ensures.value c.in_default.ensures.missing) found)

pub place_in-requires-clause-place : goal.place_in-requires-clause-place
place_in-requires-clause-place c =
    let at = at_as c.args.id c.in-Some.place c.args.self.now.recordings.items c.as_slice.result.now c.as_slice.ensures.value
    c.in-Some.ensures.there in
    place_alone c.index.result.now.row.album c.args.self.now.albums.items
    (home_at c.args.self.now.recordings.items c.args.self.now.albums.items c.args.id c.in-Some.place c.index.result.now (λ _. 0) at
    c.index.ensures c.requires.1)

pub invariant_of-self : goal.invariant_of-self
invariant_of-self c =
    let at = at_as c.args.id c.in-Some.place c.args.self.now.recordings.items c.as_slice.result.now c.as_slice.ensures.value
    c.in-Some.ensures.there in
    record {
      albums_ascend = c.place_in.ensures.ascend;
      recordings_ascend = rise_set c.args.self.now.recordings.items c.args.id c.in-Some.place c.index_mut.result.now _
          c.args.self.now.recordings_ascend at c.index_mut.ensures.value refl;
    }

pub returns-clause-held : goal.returns-clause-held
returns-clause-held c t row but found stands few =
    let items = c.args.self.now.recordings.items in
    let id = c.args.id in
    let kept = c.index.result.now in
    let at = at_as id c.in-Some.place items c.as_slice.result.now c.as_slice.ensures.value c.in-Some.ensures.there in
    let one = row_is id c.in-Some.place items kept t.recordings row but.recordings at c.index.ensures found in
    let both = same_at items c.in-Some.place c.index_mut.result.now kept at.inside c.index_mut.ensures.value c.index.ensures in
    let its = subst (λ (r : RecordingRow). StandsForMeasured c.args.tally (measured_in t r)) one stands in
    let left = subst (λ (r : RecordingRow). IsFewIn r.album id (album_of t t.recordings)) one few in
    Holds-back c.args.self.now _ t id c.in-Some.place kept _ but at c.index.ensures (ap recording_row both) c.place_in.ensures.kept.rows
    (c.place_in.ensures.members (album_of t (without recording_id id t.recordings)) (measured_in t kept.row) but.in_albums its
    (few_but t kept.row.album id t.recordings left))
    (c.place_in.ensures.own (measured_in t kept.row) its) refl refl refl

pub returns-clause-places : goal.returns-clause-places
returns-clause-places c more home =
    let at = at_as c.args.id c.in-Some.place c.args.self.now.recordings.items c.as_slice.result.now c.as_slice.ensures.value
    c.in-Some.ensures.there in
    c.place_in.ensures.places more
    (home_at c.args.self.now.recordings.items c.args.self.now.albums.items c.args.id c.in-Some.place c.index.result.now more at
    c.index.ensures home.1)
